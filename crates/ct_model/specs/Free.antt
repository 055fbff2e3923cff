-- Which numbers a new record may have.
use Rattle.std.specs.Prelude.{◌≡◌, ◌<◌, ◌≤◌, ℕ, List, length, Bool, true, false, ◌&&◌, is_none}
use Rattle.ct_definitions.specs.declared.store.Row.{Row}
use Rattle.ct_definitions.specs.Room.{image_at, has_room, block_of}

-- whether no record has the number and its block has room for the image
abbrev pub is_free : ℕ → List ℕ → List Row → Bool
is_free num image rows = is_none (image_at num rows) && has_room num image rows

-- the number is free for each image of the length
abbrev pub IsFree : ℕ → ℕ → List Row → Type 0
IsFree num len rows = (image : List ℕ) → length image ≡ len → is_free num image rows ≡ true

-- it is free for none of them
abbrev pub IsNotFree : ℕ → ℕ → List Row → Type 0
IsNotFree num len rows = (image : List ℕ) → length image ≡ len → is_free num image rows ≡ false

-- in no block below one a number from 1 on is free for them
abbrev pub AreFull : ℕ → ℕ → List Row → Type 0
AreFull block len rows = (num : ℕ) → 1 ≤ num → block_of num < block → IsNotFree num len rows
