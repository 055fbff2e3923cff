-- What a store is to its users: a history, which of it is acknowledged, perhaps a cause that halted it, how often its log
-- has failed, and how far the log has come.
use Rattle.std.specs.Prelude.{◌≡◌, ◌≤◌, ◌^◌, ℕ, ◌+◌, [], ◌∷◌, ◌++◌, length, Bool, true, false, ◌&&◌, nat_lt, Option, Some, None, Result, Ok, Err}
use Rattle.ct_definitions.specs.declared.change.Change.{Change}
use Rattle.ct_definitions.specs.declared.change.Transaction.{Transaction}
use Rattle.ct_definitions.specs.declared.change.Made.TheVariants.{BySession}
use Rattle.ct_definitions.specs.Changes.{State}
use Rattle.ct_definitions.specs.Histories.{History, after, last_number}
use Rattle.ct_disk.specs.declared.turn.HaltCause.{HaltCause}
use Rattle.ct_disk.specs.declared.turn.HaltCause.TheVariants.{Write, Read, Memory as NoRoom, BadPage, BadLog, Limit}
use Rattle.ct_disk.specs.Disk.{Rose}
use Rattle.ct_group.specs.Commit.{commit_text}
use Rattle.ct_yard.specs.declared.yard.CommitFault.{CommitFault}
use Rattle.ct_yard.specs.declared.yard.CommitFault.TheVariants.{Memory, Halted}

pub record Machine : Type 0 where
  pub history : History
  -- the number of the last transaction that was answered, or of the last one at the start
  pub acknowledged : ℕ
  pub halt : Option HaltCause
  pub faults : ℕ
  -- the place where the log ends, and the ordinal of its next group
  pub end : ℕ
  pub next : ℕ

-- the state after the machine's history
abbrev pub state_of : Machine → State
state_of machine = after machine.history

-- a machine with this history, which has done nothing yet
abbrev pub opened_machine : History → ℕ → ℕ → ℕ → Machine
opened_machine history faults end next = record { history = history; acknowledged = last_number history; halt = None; faults = faults; end = end; next = next }

-- the next transaction of session 1, with one change
abbrev pub next_transaction : History → Change → Transaction
next_transaction history change = record { number = last_number history + 1; session = 1; made = BySession; changes = change ∷ [] }

-- the history with that transaction
abbrev pub with_change : History → Change → History
with_change history change = record { base = history.base; base_number = history.base_number; transactions = history.transactions ++ next_transaction history change ∷ [] }

-- the bytes of the group that the log gets for a change
abbrev pub group_size : Machine → Change → ℕ
group_size machine change = length (commit_text (next_transaction machine.history change))

-- whether no number comes past its last value: the transaction's, the group's ordinal, the place of the log's end
abbrev pub has_room : Machine → Change → Bool
has_room machine change = nat_lt (last_number machine.history) (2 ^ 63) && nat_lt machine.next (2 ^ 63) && nat_lt (machine.end + 5 + group_size machine change) (2 ^ 62)

-- a store halts with WRITE only where the log has failed, with LIMIT where it has no more room, and with MEMORY freely
abbrev pub HasHaltCause : HaltCause → ℕ → ℕ → Type 0
HasHaltCause Write before now = Rose before now
HasHaltCause NoRoom before now = before ≤ now
HasHaltCause Limit before now = before ≤ now
HasHaltCause Read before now = ⊥
HasHaltCause (BadPage page) before now = ⊥
HasHaltCause (BadLog place) before now = ⊥

-- a store without room halts with LIMIT, and no other does
abbrev pub FitsRoom : HaltCause → Bool → Type 0
FitsRoom Limit room = room ≡ false
FitsRoom Write room = room ≡ true
FitsRoom NoRoom room = room ≡ true
FitsRoom Read room = room ≡ true
FitsRoom (BadPage page) room = room ≡ true
FitsRoom (BadLog place) room = room ≡ true

-- the history after the commit that halted a store: with its transaction, unless there was no room
abbrev pub halted_history : HaltCause → History → Change → History
halted_history Limit history change = history
halted_history Write history change = with_change history change
halted_history NoRoom history change = with_change history change
halted_history Read history change = with_change history change
halted_history (BadPage page) history change = with_change history change
halted_history (BadLog place) history change = with_change history change

-- the transaction is committed
pub record IsCommitted (old : Machine) (change : Change) (new : Machine) : Type 0 where
  pub room : has_room old change ≡ true
  pub history : new.history ≡ with_change old.history change
  pub acknowledged : new.acknowledged ≡ last_number new.history
  pub running : new.halt ≡ None
  pub faults : old.faults ≤ new.faults
  pub end : new.end ≡ old.end + 5 + group_size old change
  pub next : new.next ≡ old.next + 1

-- the transaction is in the history, but not acknowledged, and the store is halted
pub record IsHaltedWith (why : HaltCause) (old : Machine) (change : Change) (new : Machine) : Type 0 where
  pub room : FitsRoom why (has_room old change)
  pub history : new.history ≡ halted_history why old.history change
  pub acknowledged : new.acknowledged ≡ old.acknowledged
  pub halt : new.halt ≡ Some why
  pub cause : HasHaltCause why old.faults new.faults

-- what a commit of one change answers, and what it leaves
abbrev pub Commits : Machine → Change → Result ℕ CommitFault → Machine → Type 0
Commits old change (Ok number) new = (number ≡ last_number new.history) × IsCommitted old change new
Commits old change (Err Memory) new = new ≡ old
Commits old change (Err (Halted cause)) new = IsHaltedWith cause old change new
