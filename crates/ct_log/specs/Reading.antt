-- What a reader finds at a place of a log.
use Rattle.std.specs.Prelude.{◌≡◌, ◌≤◌, ◌+◌, ◌-◌, ◌^◌, ◌==◌, ℕ, Bool, IsTrue, min, List, [], ◌∷◌, length, take, drop, nat_lt, if◌then◌else◌, Option, Some, None, Result, Ok, Err}
use Rattle.std.specs.Int.{w32, from_le_bytes}
use Rattle.ct_disk.specs.Disk.{GoesOn, unchanged}
use Rattle.ct_log.specs.declared.read.LogFault.{LogFault}
use Rattle.ct_log.specs.declared.window.Part.{Part}
use Rattle.ct_log.specs.declared.window.Window.{Window}
use Rattle.ct_log.specs.declared.read.LogFault.TheVariants.{Bad, Fault, Memory}

-- the bytes of a log device, which is taken as ending at 2^62
abbrev pub log_bytes : List ℕ → List ℕ
log_bytes content = take (2 ^ 62) content

-- no open chunk; an open chunk with these groups; an open chunk that goes on past the end
pub data Found : Type 0 where
  nothing : Found
  chunk : List ℕ → Found
  damage : Found

-- the chunk behind an open gate: the length of its groups in four bytes, and the groups
abbrev pub chunk_in : List ℕ → Found
chunk_in bytes =
    if nat_lt (length bytes) (4 + from_le_bytes w32 (take 4 bytes)) then damage
    else chunk (take (from_le_bytes w32 (take 4 bytes)) (drop 4 bytes))

-- the chunk with which these bytes begin
abbrev pub found_in : List ℕ → Found
found_in [] = nothing
found_in (gate ∷ bytes) = if gate == 1 then chunk_in bytes else nothing

-- calls that change nothing were made: the content is the same, and each image is one from before
pub record IsRead {D : Type 0} (content : D → List ℕ) (may_leave : D → List ℕ → Type 0) (left_since : D → D → List ℕ → Type 0) (old new : D) : Type 0 where
  pub same : content new ≡ content old
  pub goes_on : GoesOn may_leave left_since unchanged old new

-- The window's bytes are those of the log at its place, and it knows where the log ends.
pub record IsWindow {D : Type 0} (tells : Bool) (content : D → List ℕ) (size : D → ℕ) (device : D) (window : Window) : Type 0 where
  pub end : window.end ≡ min (size device) (2 ^ 62)
  pub bytes : IsTrue tells → window.bytes ≡ take (length window.bytes) (drop window.place (log_bytes (content device)))

-- The window has the bytes from one place up to another.
pub record Covers (window : Window) (place to : ℕ) : Type 0 where
  pub from : window.place ≤ place
  pub up_to : to ≤ window.place + length window.bytes

-- the bytes that a window has from a place on
abbrev pub seen_from : Window → ℕ → List ℕ
seen_from window place = drop (place - window.place) window.bytes

-- the groups of a chunk that stands in a window
abbrev pub groups_in : Window → Part → List ℕ
groups_in window part = take part.len (drop part.from window.bytes)

-- the answer tells what was found at this place, and the window has it
abbrev pub Tells : Result (Option Part) LogFault → Window → ℕ → Found → Type 0
Tells (Ok None) window place found = found ≡ nothing
Tells (Ok (Some part)) window place found = (found ≡ chunk (groups_in window part)) × (part.next ≡ place + 5 + length (groups_in window part))
Tells (Err (Bad at)) window place found = (found ≡ damage) × (at ≡ place)
Tells (Err Fault) window place found = Unit {0}
Tells (Err Memory) window place found = Unit {0}
