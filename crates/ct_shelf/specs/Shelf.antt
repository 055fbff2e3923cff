-- What a shelf has under a name, and what its calls do to that.
use Rattle.std.specs.Prelude.{◌≡◌, ℕ, List, Result, Ok, Err}
use Rattle.ct_disk.specs.Disk.{Rose}
use Rattle.ct_shelf.specs.declared.shelf.ShelfRefusal.{ShelfRefusal}
use Rattle.ct_shelf.specs.declared.shelf.ShelfRefusal.TheVariants.{Exists, Missing, Fault, Memory}

-- a name that is free, one whose device is lent, or one whose device is at home
pub data Place (D : Type 0) : Type 0 where
  free : Place D
  lent : Place D
  home : D → Place D

-- the name is there, and its device may be lent
abbrev pub IsTaken : {D : Type 0} → Place D → Type 0
IsTaken free = ⊥
IsTaken lent = Unit {0}
IsTaken (home device) = Unit {0}

-- no device is at home under the name
abbrev pub IsAway : {D : Type 0} → Place D → Type 0
IsAway free = Unit {0}
IsAway lent = Unit {0}
IsAway (home device) = ⊥

-- a device is at home under the name
abbrev pub IsHome : {D : Type 0} → Place D → Type 0
IsHome free = ⊥
IsHome lent = ⊥
IsHome (home device) = Unit {0}

-- making a device: what stood under the name, and what stands there afterwards
abbrev pub Makes : {D : Type 0} → Result D ShelfRefusal → Place D → Place D → Type 0
Makes (Ok device) old new = (old ≡ free) × (new ≡ lent)
Makes (Err Exists) old new = IsTaken old × (new ≡ old)
Makes (Err Missing) old new = ⊥
Makes (Err Fault) old new = (old ≡ free) × (new ≡ old)
Makes (Err Memory) old new = new ≡ old

-- finding a device, which is lent from then on
abbrev pub Finds : {D : Type 0} → Result D ShelfRefusal → Place D → Place D → Type 0
Finds (Ok device) old new = (old ≡ home device) × (new ≡ lent)
Finds (Err Exists) old new = ⊥
Finds (Err Missing) old new = IsAway old × (new ≡ old)
Finds (Err Fault) old new = IsHome old × (new ≡ old)
Finds (Err Memory) old new = new ≡ old

-- what stands under a name whose device came back; under another one that is not lent it is as it was
abbrev pub returned : {D : Type 0} → D → Place D → Place D
returned device free = free
returned device lent = home device
returned device (home other) = home other

-- what stands under each name but this one is as it was
abbrev pub OthersStay : {D : Type 0} → List ℕ → (List ℕ → Place D) → (List ℕ → Place D) → Type 0
OthersStay name old new = (other : List ℕ) → (other ≡ name → ⊥) → new other ≡ old other

-- the answers that a call never gives, also where the shelf tells nothing
abbrev pub IsMakeAnswer : {D : Type 0} → Result D ShelfRefusal → Type 0
IsMakeAnswer (Ok device) = Unit {0}
IsMakeAnswer (Err Exists) = Unit {0}
IsMakeAnswer (Err Missing) = ⊥
IsMakeAnswer (Err Fault) = Unit {0}
IsMakeAnswer (Err Memory) = Unit {0}

abbrev pub IsFindAnswer : {D : Type 0} → Result D ShelfRefusal → Type 0
IsFindAnswer (Ok device) = Unit {0}
IsFindAnswer (Err Exists) = ⊥
IsFindAnswer (Err Missing) = Unit {0}
IsFindAnswer (Err Fault) = Unit {0}
IsFindAnswer (Err Memory) = Unit {0}

-- the count of faults rose where the call failed, and nowhere else
abbrev pub CountsShelfFault : {D : Type 0} → Result D ShelfRefusal → ℕ → ℕ → Type 0
CountsShelfFault (Ok device) before now = now ≡ before
CountsShelfFault (Err Exists) before now = now ≡ before
CountsShelfFault (Err Missing) before now = now ≡ before
CountsShelfFault (Err Fault) before now = Rose before now
CountsShelfFault (Err Memory) before now = now ≡ before
