-- How a commit is spelled as a group of the log.
use Rattle.std.specs.Prelude.{ℕ, List, ◌∷◌, ◌++◌, length, flat_map, ◌≤◌}
use Rattle.std.specs.List.{AllByRecursion}
use Rattle.std.specs.Int.{w16, w32, w64, to_le_bytes}
use Rattle.ct_definitions.specs.declared.change.Change.{Change}
use Rattle.ct_definitions.specs.declared.change.Made.{Made}
use Rattle.ct_definitions.specs.declared.change.Made.TheVariants.{BySession, ByRollForward}
use Rattle.ct_definitions.specs.declared.change.Transaction.{Transaction}
use Rattle.ct_change_codec.specs.ChangeFormat.{change_codec, LengthsFit}

-- 0 by a session, 1 by rolling forward
abbrev pub made_number : Made → ℕ
made_number BySession = 0
made_number ByRollForward = 1

-- changes one behind the other
abbrev pub changes_text : List Change → List ℕ
changes_text changes = flat_map change_codec.text changes

-- number, session, how it was made, and the counted changes
abbrev pub commit_body : Transaction → List ℕ
commit_body t = to_le_bytes w64 t.number ++ to_le_bytes w16 t.session ++ made_number t.made ∷ to_le_bytes w32 (length t.changes) ++ changes_text t.changes

-- a group of kind 1: the kind, the body's length in four bytes, the body
unfoldable pub commit_text : Transaction → List ℕ
commit_text t = 1 ∷ to_le_bytes w32 (length (commit_body t)) ++ commit_body t

-- a transaction that a group can hold: changes whose lengths fit their fields, at most 4,096 of them in at most 8,388,608 bytes
pub record FitsCommit (t : Transaction) : Type 0 where
  pub lengths : AllByRecursion LengthsFit t.changes
  pub few : length t.changes ≤ 4096
  pub short : length (changes_text t.changes) ≤ 8388608
