-- What the counts kept beside an open transaction's changes have to be.
use Rattle.std.specs.Prelude.{◌≡◌, ◌≤◌, ℕ, List, [], ◌∷◌, length, take, sum_by}
use Rattle.ct_definitions.specs.declared.change.Change.{Change}
use Rattle.ct_tran.specs.Owned.{encoded_len}
use Rattle.ct_tran.specs.declared.own.Save.{Save}

-- each savepoint is within the changes and not before the one before it, and its length is that of the changes up to it
abbrev pub AreSaved : List Change → ℕ → List Save → Type 0
AreSaved changes before [] = Unit {0}
AreSaved changes before (save ∷ saves) =
    (before ≤ save.count) × (save.count ≤ length changes) × (save.len ≡ sum_by encoded_len (take save.count changes)) × AreSaved changes save.count saves

-- the length is that of all changes, both are within their limits, and the savepoints are as they were kept
pub record IsCounted (changes : List Change) (len : ℕ) (saves : List Save) : Type 0 where
  pub sum : len ≡ sum_by encoded_len changes
  pub few : length changes ≤ 4096
  pub short : len ≤ 8388608
  pub saved : AreSaved changes 0 saves
