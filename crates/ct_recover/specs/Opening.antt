-- What opening finds on a log: a history up to the first gate that is not open, or the place of the first damage.
use Rattle.std.specs.Prelude.{◌≡◌, ◌≢◌, ◌⊎◌, ◌+◌, ◌-◌, ◌^◌, ℕ, min, List, [], ◌++◌, length, All, Bool, true, false, not, ◌&&◌, ◌==◌, IsTrue, slice_get, Option, Some, None, Result, Ok, Err}
use Rattle.ct_definitions.specs.declared.change.Transaction.{Transaction}
use Rattle.ct_definitions.specs.Histories.{History, IsHistory, after, allows_all, last_number}
use Rattle.ct_disk.specs.Disk.{Rose}
use Rattle.ct_group.specs.Commit.{commit_text}
use Rattle.ct_group.specs.Groups.{FitsTransaction}
use Rattle.ct_log.specs.Front.{zeros}
use Rattle.ct_log.specs.Heads.{head_in}
use Rattle.ct_log.specs.Reading.{nothing, chunk, damage, found_in, log_bytes}
use Rattle.ct_log.specs.declared.head.Head.{Head}
use Rattle.ct_yard.specs.Telling.{Telling}
use Rattle.ct_yard.specs.declared.yard.Yard.{Yard}
use Rattle.ct_yard.specs.Kept.{Founds}
use Rattle.ct_yard.specs.LogTexts.{groups_text, log_text, InChunks}
use Rattle.ct_yard.specs.Machine.{opened_machine}
use Rattle.ct_yard.specs.Yards.{StandsFor}
use Rattle.ct_recover.specs.declared.fault.OpenFault.{OpenFault}
use Rattle.ct_recover.specs.declared.fault.OpenFault.TheVariants.{NotEmpty, Undone, BadLog, Device, Memory}

-- the bytes up to a place at least, with zeros for those that are missing: a missing gate is one that is not open
abbrev pub filled_to : ℕ → List ℕ → List ℕ
filled_to place bytes = bytes ++ zeros (place - length bytes)

-- The log begins with this front, which founds the history; chunks of the history's transactions stand behind it, up to a place;
-- and behind them these bytes.
pub record IsReadTo (head : Head) (front : List ℕ) (history : History) (place : ℕ) (rest bytes : List ℕ) : Type 0 where
  pub chunks : List (List Transaction)
  pub founds : Founds head front history
  pub in_chunks : InChunks history.transactions chunks
  pub up_to : place ≡ length (log_text front chunks)
  pub parts : filled_to head.start.place bytes ≡ log_text front chunks ++ rest

-- a log that was read up to a chunk that is not open, or to its end
pub record IsReadToEnd (head : Head) (front : List ℕ) (history : History) (place : ℕ) (bytes : List ℕ) : Type 0 where
  pub rest : List ℕ
  pub read : IsReadTo head front history place rest bytes
  pub ends : found_in rest ≡ nothing

-- the history with these transactions behind its own
abbrev pub extended : History → List Transaction → History
extended history ts = record { base = history.base; base_number = history.base_number; transactions = history.transactions ++ ts }

-- bytes that are left of a chunk, and do not begin with a commit of the history's next transaction
pub record IsNoNext (history : History) (tail : List ℕ) : Type 0 where
  pub some : tail ≢ []
  pub none : (t : Transaction) (more : List ℕ) → FitsTransaction t → tail ≡ commit_text t ++ more → t.number ≡ last_number history + 1 → allows_all (after history) t.changes ≡ true → ⊥

-- an open chunk of which some groups are read, and then comes what is no next commit
pub record HasBadGroup (history : History) (place : ℕ) (rest : List ℕ) (at : ℕ) : Type 0 where
  pub first : List Transaction
  pub tail : List ℕ
  pub fit : All FitsTransaction first
  pub found : found_in rest ≡ chunk (groups_text first ++ tail)
  pub defined : IsHistory (extended history first)
  pub bad : IsNoNext (extended history first) tail
  pub here : at ≡ place + 5 + length (groups_text first)

-- an open chunk that goes on past the device's end
pub record HasCutChunk (place : ℕ) (rest : List ℕ) (at : ℕ) : Type 0 where
  pub found : found_in rest ≡ damage
  pub here : at ≡ place

-- The log is damaged at this place: in its head, or behind a part that could be read.
abbrev pub IsBad : List ℕ → ℕ → Type 0
IsBad bytes at = (head_in bytes ≡ Err at)
    ⊎ ((head : Head) × (front : List ℕ) × (history : History) × (place : ℕ) × (rest : List ℕ) × IsReadTo head front history place rest bytes × (HasCutChunk place rest at ⊎ HasBadGroup history place rest at))

-- whether a closed gate is there
abbrev pub is_closed : Option ℕ → Bool
is_closed None = false
is_closed (Some gate) = not (gate == 1)

-- The yard stands for the history that was read: from the log, where that tells its content. Where the byte of the log's last
-- gate is there, too, a crash leaves the history; a log without it is read, but a write behind it may be seen half.
pub record Opens {P L : Type 0} (disk : Telling L) (log : L) (yard : Yard P L) : Type 0 where
  pub head : Head
  pub front : List ℕ
  pub history : History
  pub base : history.base ≡ []
  -- each group has the next ordinal; past the last one there is none
  pub next : yard.log.flow.next ≡ min (head.start.ordinal + length history.transactions) (2 ^ 63)
  pub read : IsTrue disk.tells → IsReadToEnd head front history yard.log.flow.end (log_bytes (disk.content log))
  pub stands : StandsFor (disk.tells && is_closed (slice_get (log_bytes (disk.content log)) yard.log.flow.end)) disk front
      (opened_machine history (disk.faults yard.log.device) yard.log.flow.end yard.log.flow.next) yard

-- a refusal of a store that is in order: a device failed, or memory was wanted
abbrev pub IsNoFinding : OpenFault → Type 0
IsNoFinding Device = Unit {0}
IsNoFinding Memory = Unit {0}
IsNoFinding NotEmpty = ⊥
IsNoFinding Undone = ⊥
IsNoFinding (BadLog place) = ⊥

-- a store with this history is opened as it is, unless a device fails or memory is wanted
abbrev pub OpensAs : {P L : Type 0} → Telling L → List ℕ → History → Result (Yard P L) (OpenFault × P × L) → Type 0
OpensAs disk front history (Ok yard) = StandsFor disk.tells disk front (opened_machine history (disk.faults yard.log.device) yard.log.flow.end yard.log.flow.next) yard
OpensAs disk front history (Err refusal) = IsNoFinding refusal.0

-- a device failed only where the count of one of them rose
abbrev pub HasOpenCause : OpenFault → ℕ → ℕ → ℕ → ℕ → Type 0
HasOpenCause Device pages pages' log log' = Rose pages pages' ⊎ Rose log log'
HasOpenCause Memory pages pages' log log' = Unit {0}
HasOpenCause NotEmpty pages pages' log log' = Unit {0}
HasOpenCause Undone pages pages' log log' = Unit {0}
HasOpenCause (BadLog place) pages pages' log log' = Unit {0}
