-- What a shelf in memory has.
use Rattle.std.specs.Prelude.{◌≡◌, ◌==◌, ℕ, Bool, true, false, List, [], ◌∷◌, if◌then◌else◌, Option, Some, None, Result, Ok, Err}
use Rattle.std.specs.Str.{bytes_eq}
use Rattle.std.specs.List.{list_any}
use Rattle.ct_disk.specs.declared.mem_disk.MemDisk.{MemDisk}
use Rattle.ct_shelf.specs.declared.shelf.ShelfRefusal.{ShelfRefusal}
use Rattle.ct_shelf.specs.declared.shelf.ShelfRefusal.TheVariants.{Exists, Missing, Fault, Memory}
use Rattle.ct_shelf.specs.declared.mem_shelf.Entry.{Entry}
use Rattle.ct_shelf.specs.declared.mem_shelf.MemShelf.{MemShelf}
use Rattle.ct_shelf.specs.Shelf.{Place, free, lent, home}

-- whether an entry has this name
abbrev pub is_named : List ℕ → Entry → Bool
is_named name entry = bytes_eq entry.name name

-- an entry without a device has lent it
abbrev pub place_of : Option MemDisk → Place MemDisk
place_of None = lent
place_of (Some device) = home device

-- what the entries have under a name
abbrev pub place_in : List Entry → List ℕ → Place MemDisk
place_in [] name = free
place_in (entry ∷ entries) name = if is_named name entry then place_of entry.device else place_in entries name

-- what the shelf has under a name
abbrev pub mem_place : MemShelf → List ℕ → Place MemDisk
mem_place shelf name = place_in shelf.entries.items name

-- whether the call of this number is to fail
abbrev pub is_planned : MemShelf → ℕ → Bool
is_planned shelf call = list_any (λ number. number == call) shelf.failing

-- a call fails only where that is planned, and where it is, it does not end
abbrev pub FailsAsPlanned : {D : Type 0} → Result D ShelfRefusal → Bool → Type 0
FailsAsPlanned (Ok device) planned = planned ≡ false
FailsAsPlanned (Err Exists) planned = Unit {0}
FailsAsPlanned (Err Missing) planned = Unit {0}
FailsAsPlanned (Err Fault) planned = planned ≡ true
FailsAsPlanned (Err Memory) planned = Unit {0}
