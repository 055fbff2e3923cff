-- What a yard means: a machine, and on the log its history.
use Rattle.std.specs.Prelude.{◌≡◌, ◌≤◌, ◌⊎◌, ◌^◌, ℕ, List, Bool, IsTrue, None}
use Rattle.ct_definitions.specs.Histories.{IsHistory, last_number}
use Rattle.ct_disk.specs.Disk.{LeavesOnly}
use Rattle.ct_log.specs.Flow.{IsAtRest}
use Rattle.ct_log.specs.Log.{IsLog, durable_text}
use Rattle.ct_yard.specs.declared.yard.Yard.{Yard}
use Rattle.ct_yard.specs.Telling.{Telling}
use Rattle.ct_yard.specs.LogTexts.{IsTextOf, HoldsPrefix}
use Rattle.ct_yard.specs.Machine.{Machine, state_of}

-- in a running yard no chunk is under way and no group waits
pub record IsSettled {P L : Type 0} (yard : Yard P L) : Type 0 where
  pub at_rest : yard.halt ≡ None → IsAtRest yard.log.flow
  pub numbers : yard.front ≤ 2 ^ 63

-- The yard stands for the machine. Where it is founded, on a log that tells its content and ends with a closed gate, its text is that of the machine's history, and whatever a
-- crash leaves of it is the log of a prefix that has each acknowledged transaction.
pub record StandsFor {P L : Type 0} (founded : Bool) (disk : Telling L) (front : List ℕ) (machine : Machine) (yard : Yard P L) : Type 0 where
  pub halt : yard.halt ≡ machine.halt
  pub number : yard.front ≡ last_number machine.history
  pub state : machine.halt ≡ None → yard.state ≡ state_of machine
  pub faults : disk.faults yard.log.device ≡ machine.faults
  pub end : yard.log.flow.end ≡ machine.end
  pub next : machine.halt ≡ None → yard.log.flow.next ≡ machine.next
  pub history : IsHistory machine.history
  pub acknowledged : machine.halt ≡ None → machine.acknowledged ≡ last_number machine.history
  pub log : IsTrue founded → IsLog disk.content disk.may_leave yard.log
  pub text : IsTrue founded → machine.halt ≡ None → IsTextOf front machine.history.transactions (durable_text disk.content yard.log)
  pub left : IsTrue founded → (c : List ℕ) → disk.may_leave yard.log.device c → HoldsPrefix front machine.history machine.acknowledged c

-- What a crash may have left at each moment since the log was the old device is a prefix of the new history that has each
-- transaction which the old machine had acknowledged. Where the history stayed no call was made, so there is no such moment.
pub record KeptThrough {L : Type 0} (founded : Bool) (disk : Telling L) (front : List ℕ) (old : Machine) (log : L) (new : Machine) (now : L) : Type 0 where
  pub idle : new.history ≡ old.history → now ≡ log
  pub moments : (now ≡ log) ⊎ (IsTrue founded → LeavesOnly disk.left_since (HoldsPrefix front new.history old.acknowledged) log now)
