-- When the changes of two sessions, each defined on the same state, stay out of each other's way.
use Rattle.std.specs.Prelude.{◌≡◌, ◌≤◌, ◌⊎◌, ℕ, ◌+◌, ◌-◌, List, [], ◌∷◌, sum_by, flat_map, Bool, true, false, ◌&&◌, ◌==◌, slice_get, if◌then◌else◌, Some}
use Rattle.std.specs.List.{list_any}
use Rattle.ct_definitions.specs.declared.definition.IndexDef.{IndexDef}
use Rattle.ct_definitions.specs.declared.store.File.{File}
use Rattle.ct_definitions.specs.declared.store.TheConstants.{BLOCK_ROOM}
use Rattle.ct_definitions.specs.declared.change.Change.{Change}
use Rattle.ct_definitions.specs.declared.change.Change.TheVariants.{Make, Add, Rewrite, Delete}
use Rattle.ct_definitions.specs.Keys.{key_of}
use Rattle.ct_definitions.specs.Room.{block_of, use_of, block_use}
use Rattle.ct_definitions.specs.Changes.{State, is_same_key}

-- whether a change is one of a record, and not of a new file
abbrev pub is_of_record : Change → Bool
is_of_record (Make file def) = false
is_of_record (Add file num new) = true
is_of_record (Rewrite file num old new) = true
is_of_record (Delete file num old) = true

-- whether a change names the record of a number in a file
abbrev pub names : ℕ → ℕ → Change → Bool
names file num (Make f def) = false
names file num (Add f n new) = f == file && n == num
names file num (Rewrite f n old new) = f == file && n == num
names file num (Delete f n old) = f == file && n == num

-- the image that a change puts in a file, if it puts one there
abbrev pub puts : ℕ → Change → List (List ℕ)
puts file (Make f def) = []
puts file (Add f n new) = if f == file then new ∷ [] else []
puts file (Rewrite f n old new) = if f == file then new ∷ [] else []
puts file (Delete f n old) = []

-- the images that changes put in a file
abbrev pub all_puts : ℕ → List Change → List (List ℕ)
all_puts file changes = flat_map (puts file) changes

-- an image is one of these
abbrev pub IsAmong : List ℕ → List (List ℕ) → Type 0
IsAmong image [] = ⊥
IsAmong image (other ∷ images) = (other ≡ image) ⊎ IsAmong image images

-- by how much a change may raise the use of a block of a file: a record that goes or becomes shorter frees nothing here
abbrev pub growth_of : ℕ → ℕ → Change → ℕ
growth_of file block (Make f def) = 0
growth_of file block (Add f n new) = if f == file && block_of n == block then use_of new else 0
growth_of file block (Rewrite f n old new) = if f == file && block_of n == block then use_of new - use_of old else 0
growth_of file block (Delete f n old) = 0

abbrev pub growth : ℕ → ℕ → List Change → ℕ
growth file block changes = sum_by (growth_of file block) changes

-- whether two images have the same key in a unique index
abbrev pub share_key : List IndexDef → List ℕ → List ℕ → Bool
share_key indexes image other = list_any (λ index. index.unique && is_same_key (key_of index image) (key_of index other)) indexes

-- No record is named by both, no key of a unique index is put by both, and each block has room for what both may add to it.
pub record AreApart (state : State) (own others : List Change) : Type 0 where
  pub records : (file num : ℕ) → list_any (names file num) own ≡ true → list_any (names file num) others ≡ false
  pub keys : (file : ℕ) (f : File) (image other : List ℕ) → slice_get state file ≡ Some f
      → IsAmong image (all_puts file own) → IsAmong other (all_puts file others) → share_key f.def.indexes image other ≡ false
  pub room : (file block : ℕ) (f : File) → slice_get state file ≡ Some f
      → block_use block f.records + growth file block own + growth file block others ≤ BLOCK_ROOM

-- Each block has room for what three lists of changes may add to it.
pub record HasRoomForAll (state : State) (first second third : List Change) : Type 0 where
  pub room : (file block : ℕ) (f : File) → slice_get state file ≡ Some f
      → block_use block f.records + growth file block first + growth file block second + growth file block third ≤ BLOCK_ROOM
