-- What it takes for a change to be defined, told by the state before it and by the file afterwards.
use Rattle.std.specs.Prelude.{◌≡◌, ◌≤◌, ◌<◌, ℕ, List, [], ◌∷◌, ◌++◌, length, true, false, slice_get, Some, None}
use Rattle.std.specs.List.{Contains}
use Rattle.ct_definitions.specs.declared.definition.FileDef.{FileDef}
use Rattle.ct_definitions.specs.declared.definition.IndexDef.{IndexDef}
use Rattle.ct_definitions.specs.declared.store.Row.{Row}
use Rattle.ct_definitions.specs.declared.store.File.{File}
use Rattle.ct_definitions.specs.declared.store.TheConstants.{BLOCK_ROOM, MOST_FILES}
use Rattle.ct_definitions.specs.Keys.{key_of}
use Rattle.ct_definitions.specs.Validity.{is_valid}
use Rattle.ct_definitions.specs.Room.{has_fitting_len, row_at, block_use}
use Rattle.ct_definitions.specs.Changes.{State, has_name, with_records, with_row, with_image}

-- no key stands twice in a unique index: records that have the same key there have the same number
abbrev pub HasKeysOnce : File → Type 0
HasKeysOnce file =
    (index : IndexDef) (a b : Row) (key : List ℕ) → Contains file.def.indexes index → index.unique ≡ true → Contains file.records a → Contains file.records b → key_of index a.image ≡ Some key → key_of index b.image ≡ Some key → a.num ≡ b.num

-- no block holds more than it has room for
abbrev pub HasRoom : File → Type 0
HasRoom file = (block : ℕ) → block_use block file.records ≤ BLOCK_ROOM

-- the file gets the next number, below 256, and its definition is valid and has a new name
pub record CanMake (state : State) (file : ℕ) (def : FileDef) : Type 0 where
  pub next : file ≡ length state
  pub few : file < MOST_FILES
  pub valid : is_valid def ≡ true
  pub name : has_name state def.name ≡ false

-- the file is there, the number is at least 1 and free, the length fits, and with the record no key stands twice and there is room
pub record CanAdd (state : State) (file num : ℕ) (new : List ℕ) : Type 0 where
  pub f : File
  pub found : slice_get state file ≡ Some f
  pub number : 1 ≤ num
  pub free : row_at num f.records ≡ None
  pub fits : has_fitting_len f.def.kind (length new) ≡ true
  pub keys : HasKeysOnce (with_records f (with_row (record { num = num; image = new }) f.records))
  pub room : HasRoom (with_records f (with_row (record { num = num; image = new }) f.records))

-- the record has the old image, the length fits, and with the new one no key stands twice and there is room
pub record CanRewrite (state : State) (file num : ℕ) (old new : List ℕ) : Type 0 where
  pub f : File
  pub found : slice_get state file ≡ Some f
  pub stands : row_at num f.records ≡ Some (record { num = num; image = old })
  pub fits : has_fitting_len f.def.kind (length new) ≡ true
  pub keys : HasKeysOnce (with_records f (with_image num new f.records))
  pub room : HasRoom (with_records f (with_image num new f.records))

-- the record has the image
pub record CanDelete (state : State) (file num : ℕ) (old : List ℕ) : Type 0 where
  pub f : File
  pub found : slice_get state file ≡ Some f
  pub stands : row_at num f.records ≡ Some (record { num = num; image = old })

-- the state is the one before and one file more, which has that number and no records
pub record LastIsEmpty (file : ℕ) (state before : State) : Type 0 where
  pub last : File
  pub number : length before ≡ file
  pub joined : state ≡ before ++ last ∷ []
  pub none : last.records ≡ []
