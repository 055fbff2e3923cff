-- What the parts of a commit do to a yard: a group is written to the log, and then the change is made.
use Rattle.std.specs.Prelude.{◌≡◌, ◌≤◌, ◌⊎◌, ◌^◌, ℕ, ◌+◌, List, ◌∷◌, [], ◌++◌, length, Bool, true, ◌&&◌, nat_lt, IsTrue, Result, Ok, Err, Some, None}
use Rattle.ct_definitions.specs.declared.change.Change.{Change}
use Rattle.ct_definitions.specs.declared.change.Transaction.{Transaction}
use Rattle.ct_definitions.specs.declared.change.Made.TheVariants.{BySession}
use Rattle.ct_definitions.specs.Changes.{State, allows}
use Rattle.ct_definitions.specs.Histories.{after_changes}
use Rattle.ct_disk.specs.Disk.{AllImages, LeavesOnly}
use Rattle.ct_disk.specs.declared.turn.HaltCause.{HaltCause}
use Rattle.ct_disk.specs.declared.turn.HaltCause.TheVariants.{Write, Memory as NoRoom}
use Rattle.ct_log.specs.Chunks.{open_chunk}
use Rattle.ct_log.specs.Flow.{IsAtRest}
use Rattle.ct_log.specs.Log.{IsLog, durable_text}
use Rattle.ct_log.specs.Stages.{Stands}
use Rattle.ct_log.specs.declared.log.Log.{Log}
use Rattle.ct_yard.specs.declared.yard.CommitFault.{CommitFault}
use Rattle.ct_yard.specs.declared.yard.CommitFault.TheVariants.{Memory, Halted}
use Rattle.ct_yard.specs.declared.yard.Yard.{Yard}
use Rattle.ct_yard.specs.Telling.{Telling}
use Rattle.ct_yard.specs.Machine.{HasHaltCause}

-- a transaction of session 1 with one change
abbrev pub of_one : ℕ → Change → Transaction
of_one number change = record { number = number; session = 1; made = BySession; changes = change ∷ [] }

-- the transaction has one change, which is allowed on the state
pub record HasOne (state : State) (t : Transaction) : Type 0 where
  pub change : Change
  pub changes : t.changes ≡ change ∷ []
  pub allowed : allows state change ≡ true

-- whether a group of n bytes brings no number past its last value
abbrev pub has_room_for : {P L : Type 0} → Yard P L → ℕ → Bool
has_room_for yard n = nat_lt yard.front (2 ^ 63) && nat_lt yard.log.flow.next (2 ^ 63) && nat_lt (yard.log.flow.end + 5 + n) (2 ^ 62)

-- the group is in the log
pub record IsWritten {P L : Type 0} (disk : Telling L) (group : List ℕ) (old new : Yard P L) : Type 0 where
  pub pages : new.pages ≡ old.pages
  pub state : new.state ≡ old.state
  pub halt : new.halt ≡ None
  pub front : new.front ≡ old.front + 1
  pub at_rest : IsAtRest new.log.flow
  pub end : new.log.flow.end ≡ old.log.flow.end + 5 + length group
  pub next : new.log.flow.next ≡ old.log.flow.next + 1
  pub log : IsTrue disk.tells → IsLog disk.content disk.may_leave old.log → IsLog disk.content disk.may_leave new.log
  pub text : IsTrue disk.tells → IsLog disk.content disk.may_leave old.log → durable_text disk.content new.log ≡ durable_text disk.content old.log ++ open_chunk group
  pub moments : IsTrue disk.tells → IsLog disk.content disk.may_leave old.log → LeavesOnly disk.left_since (Stands (durable_text disk.content old.log) group) old.log.device new.log.device
  pub faults : disk.faults old.log.device ≤ disk.faults new.log.device

-- there was no memory for the group, and nothing has changed
pub record IsRefused {P L : Type 0} (disk : Telling L) (old new : Yard P L) : Type 0 where
  pub pages : new.pages ≡ old.pages
  pub state : new.state ≡ old.state
  pub halt : new.halt ≡ None
  pub front : new.front ≡ old.front
  pub device : new.log.device ≡ old.log.device
  pub at_rest : IsAtRest new.log.flow
  pub end : new.log.flow.end ≡ old.log.flow.end
  pub next : new.log.flow.next ≡ old.log.flow.next
  pub log : IsTrue disk.tells → IsLog disk.content disk.may_leave old.log → IsLog disk.content disk.may_leave new.log
  pub text : durable_text disk.content new.log ≡ durable_text disk.content old.log

-- the store halted before the group was in the log for good
pub record IsStopped {P L : Type 0} (disk : Telling L) (group : List ℕ) (cause : HaltCause) (old new : Yard P L) : Type 0 where
  pub pages : new.pages ≡ old.pages
  pub halt : new.halt ≡ Some cause
  pub front : new.front ≡ old.front + 1
  pub end : new.log.flow.end ≡ old.log.flow.end
  pub kind : (cause ≡ Write) ⊎ (cause ≡ NoRoom)
  pub log : IsTrue disk.tells → IsLog disk.content disk.may_leave old.log → IsLog disk.content disk.may_leave new.log
  pub stands : IsTrue disk.tells → IsLog disk.content disk.may_leave old.log → AllImages (Stands (durable_text disk.content old.log) group) (disk.may_leave new.log.device)
  pub moments : IsTrue disk.tells → IsLog disk.content disk.may_leave old.log → LeavesOnly disk.left_since (Stands (durable_text disk.content old.log) group) old.log.device new.log.device
  pub why : HasHaltCause cause (disk.faults old.log.device) (disk.faults new.log.device)

-- a group is written, by the answer
abbrev pub Writes : {P L : Type 0} → Telling L → List ℕ → Result Unit CommitFault → Yard P L → Yard P L → Type 0
Writes disk group (Ok _) old new = IsWritten disk group old new
Writes disk group (Err Memory) old new = IsRefused disk old new
Writes disk group (Err (Halted cause)) old new = IsStopped disk group cause old new

-- the state has the transaction
pub record IsPerformed {P L : Type 0} (t : Transaction) (number : ℕ) (old new : Yard P L) : Type 0 where
  pub answer : number ≡ new.front
  pub halt : new.halt ≡ old.halt
  pub state : new.state ≡ after_changes old.state t.changes

-- a transaction is made in the state, by the answer: want of memory halts the store
abbrev pub Performs : {P L : Type 0} → Transaction → Result ℕ CommitFault → Yard P L → Yard P L → Type 0
Performs t (Ok number) old new = IsPerformed t number old new
Performs t (Err Memory) old new = ⊥
Performs t (Err (Halted cause)) old new = (cause ≡ NoRoom) × (new.halt ≡ Some NoRoom)
