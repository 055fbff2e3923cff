-- What reading a log to its end answers.
use Rattle.std.specs.Prelude.{◌≡◌, ◌≢◌, ◌≤◌, ◌+◌, ◌^◌, ℕ, min, List, [], length, take, Bool, true, false, IsTrue, Result, Ok, Err}
use Rattle.ct_definitions.specs.Histories.{History, IsHistory, after, last_number}
use Rattle.ct_disk.specs.Disk.{Only, Rose}
use Rattle.ct_log.specs.Chunks.{EndsAfter}
use Rattle.ct_log.specs.Flow.{IsAtRest}
use Rattle.ct_log.specs.Heads.{has_open_header}
use Rattle.ct_log.specs.Log.{IsLog}
use Rattle.ct_log.specs.Reading.{IsRead, log_bytes}
use Rattle.ct_log.specs.declared.head.Head.{Head}
use Rattle.ct_yard.specs.Telling.{Telling}
use Rattle.ct_recover.specs.Opening.{IsReadToEnd, IsBad}
use Rattle.ct_recover.specs.declared.fault.OpenFault.{OpenFault}
use Rattle.ct_recover.specs.declared.fault.OpenFault.TheVariants.{NotEmpty, Undone, BadLog, Device}
use Rattle.ct_recover.specs.declared.open.Opened.{Opened}

-- The state and the number are those after the history that was read: from the log, where that tells its content.
pub record IsOpened {L : Type 0} (disk : Telling L) (log : L) (opened : Opened L) : Type 0 where
  pub head : Head
  pub front : List ℕ
  pub history : History
  pub base : history.base ≡ []
  pub defined : IsHistory history
  pub number : opened.number ≡ last_number history
  pub state : opened.state ≡ after history
  pub next : opened.log.flow.next ≡ min (head.start.ordinal + length history.transactions) (2 ^ 63)
  pub read : IsTrue disk.tells → IsReadToEnd head front history opened.log.flow.end (log_bytes (disk.content log))

module _ {L : Type 0} (disk : Telling L) where
  -- The log was read, and where it ends with a closed gate it can be written on.
  pub record OpensLog (log : L) (opened : Opened L) : Type 0 where
    pub is_opened : IsOpened disk log opened
    pub at_rest : IsAtRest opened.log.flow
    pub numbers : opened.number ≤ 2 ^ 63
    pub place : opened.log.flow.end ≤ 2 ^ 62
    pub is_log : IsTrue disk.tells → EndsAfter (take opened.log.flow.end (disk.content log)) (disk.content log) → Only (disk.content log) (disk.may_leave log) → IsLog disk.content disk.may_leave opened.log
    pub is_open : IsTrue disk.tells → has_open_header (disk.content log) ≡ true
    pub read : IsTrue disk.tells → IsRead disk.content disk.may_leave disk.left_since log opened.log.device
    pub later : disk.faults log ≤ disk.faults opened.log.device

  -- It was not, and is handed back.
  pub record RefusesLog (log : L) (fault : OpenFault) (now : L) : Type 0 where
    pub undone : IsTrue disk.tells → fault ≡ Undone → has_open_header (disk.content log) ≡ false
    pub bad : IsTrue disk.tells → (place : ℕ) → fault ≡ BadLog place → IsBad (log_bytes (disk.content log)) place
    pub not_empty : fault ≢ NotEmpty
    pub read : IsTrue disk.tells → IsRead disk.content disk.may_leave disk.left_since log now
    pub later : disk.faults log ≤ disk.faults now
    pub cause : fault ≡ Device → Rose (disk.faults log) (disk.faults now)

  abbrev pub AnswersLog : L → Result (Opened L) (OpenFault × L) → Type 0
  AnswersLog log (Ok opened) = OpensLog log opened
  AnswersLog log (Err refusal) = RefusesLog log refusal.0 refusal.1
