-- What holds of every state that changes reach from the empty one.
use Rattle.std.specs.Prelude.{◌≡◌, ◌≤◌, ℕ, List, [], ◌∷◌, length, Bool, true, not, ◌&&◌, nat_lt}
use Rattle.std.specs.List.{list_all}
use Rattle.ct_definitions.specs.declared.store.Row.{Row}
use Rattle.ct_definitions.specs.declared.store.File.{File}
use Rattle.ct_definitions.specs.declared.store.TheConstants.{BLOCK_ROOM, MOST_FILES}
use Rattle.ct_definitions.specs.Validity.{is_valid}
use Rattle.ct_definitions.specs.Room.{has_fitting_len, block_use}
use Rattle.ct_definitions.specs.Changes.{State, has_name, has_taken_key}

-- whether record numbers rise, each above `last`
abbrev pub rise_above : ℕ → List Row → Bool
rise_above last [] = true
rise_above last (row ∷ rows) = nat_lt last row.num && rise_above row.num rows

-- a file in order: valid, its numbers from 1 rising, its images of fitting lengths, no key twice in a unique index, and room in each block
pub record IsFileInOrder (file : File) : Type 0 where
  pub valid : is_valid file.def ≡ true
  pub rising : rise_above 0 file.records ≡ true
  pub lengths : list_all (λ row. has_fitting_len file.def.kind (length row.image)) file.records ≡ true
  pub own_keys : list_all (λ row. not (has_taken_key file row.num row.image)) file.records ≡ true
  pub room : (block : ℕ) → block_use block file.records ≤ BLOCK_ROOM

-- each file is in order
abbrev pub AreInOrder : List File → Type 0
AreInOrder [] = Unit {0}
AreInOrder (file ∷ files) = IsFileInOrder file × AreInOrder files

-- whether no two files have the same name
abbrev pub have_own_names : List File → Bool
have_own_names [] = true
have_own_names (file ∷ files) = not (has_name files file.def.name) && have_own_names files

-- a state in order: at most 256 files of different names, each in order
pub record IsInOrder (state : State) : Type 0 where
  pub files : AreInOrder state
  pub names : have_own_names state ≡ true
  pub few : length state ≤ MOST_FILES
