-- What a session has of its own while its transaction is open: changes that wait, and savepoints.
use Rattle.std.specs.Prelude.{◌≡◌, ℕ, ◌-◌, ◌+◌, List, [], ◌∷◌, ◌++◌, length, take, slice_get, Bool, true, false, ◌&&◌, nat_le, Option, Some, None, sum_by}
use Rattle.ct_definitions.specs.declared.change.Change.{Change}
use Rattle.ct_definitions.specs.declared.change.Change.TheVariants.{Make, Add, Rewrite, Delete}
use Rattle.ct_change_codec.specs.ChangeFormat.{change_codec}

-- The changes of an open transaction, in the order of their calls, and what they were at each savepoint that is kept.
pub record Owned : Type 0 where
  pub changes : List Change
  pub saves : List (List Change)

-- a transaction without a change or a savepoint
abbrev pub nothing_owned : Owned
nothing_owned = record { changes = []; saves = [] }

-- how many bytes a change has in the log
abbrev pub encoded_len : Change → ℕ
encoded_len change = length (change_codec.text change)

-- whether the transaction stays within both of its limits with so many more changes of so many bytes
abbrev pub has_room : ℕ → ℕ → Owned → Bool
has_room count len owned = nat_le (length owned.changes + count) 4096 && nat_le (sum_by encoded_len owned.changes + len) 8388608

-- whether it does with these changes
abbrev pub has_room_for : List Change → Owned → Bool
has_room_for more owned = has_room (length more) (sum_by encoded_len more) owned

-- with these changes behind those that it has
abbrev pub with_changes : List Change → Owned → Owned
with_changes more owned = record { changes = owned.changes ++ more; saves = owned.saves }

-- with one more savepoint
abbrev pub with_save : Owned → Owned
with_save owned = record { changes = owned.changes; saves = owned.saves ++ owned.changes ∷ [] }

-- whether a savepoint of this number is kept; they are numbered from 1 on
abbrev pub is_kept : ℕ → Owned → Bool
is_kept number owned = nat_le 1 number && nat_le number (length owned.saves)

-- back to what stood at a savepoint: it stays, and those above it go
abbrev pub restored_to : Option (List Change) → ℕ → Owned → Owned
restored_to None number owned = owned
restored_to (Some changes) number owned = record { changes = changes; saves = take number owned.saves }

abbrev pub restored : ℕ → Owned → Owned
restored number owned = restored_to (slice_get owned.saves (number - 1)) number owned

-- whether a change is one of a record, and not of a new file
abbrev pub is_of_record : Change → Bool
is_of_record (Make file def) = false
is_of_record (Add file num new) = true
is_of_record (Rewrite file num old new) = true
is_of_record (Delete file num old) = true
