-- What a whole flush of a log leaves of it, and how a store halts in one.
use Rattle.std.specs.Prelude.{◌≡◌, ◌≤◌, ℕ, ◌+◌, List, [], ◌++◌, length, Bool, IsTrue, Result, Ok, Err}
use Rattle.ct_disk.specs.declared.fault.DiskError.{DiskError}
use Rattle.ct_disk.specs.declared.fault.DiskError.TheVariants.{Fault, Memory}
use Rattle.ct_disk.specs.declared.turn.HaltCause.{HaltCause}
use Rattle.ct_disk.specs.declared.turn.HaltCause.TheVariants.{Write, Memory as NoRoom}
use Rattle.ct_disk.specs.Disk.{AllImages, LeavesOnly}
use Rattle.ct_log.specs.Chunks.{open_chunk}
use Rattle.ct_log.specs.Flow.{IsAtRest}
use Rattle.ct_log.specs.Log.{IsLog, durable_text}
use Rattle.ct_log.specs.Stages.{Stands}
use Rattle.ct_log.specs.declared.log.Log.{Log}
use Rattle.ct_yard.specs.Telling.{Telling}
use Rattle.ct_yard.specs.Machine.{HasHaltCause}

-- a device that fails is a cause of its own, and so is want of memory
abbrev pub halt_cause : DiskError → HaltCause
halt_cause Fault = Write
halt_cause Memory = NoRoom

-- all groups that waited are in the log, in a chunk of their own
pub record IsFlushed {L : Type 0} (disk : Telling L) (old new : Log L) : Type 0 where
  pub at_rest : IsAtRest new.flow
  pub next : new.flow.next ≡ old.flow.next
  pub end : new.flow.end ≡ old.flow.end + 5 + length old.flow.waiting
  pub log : IsTrue disk.tells → IsLog disk.content disk.may_leave old → IsLog disk.content disk.may_leave new
  pub text : IsTrue disk.tells → IsLog disk.content disk.may_leave old → durable_text disk.content new ≡ durable_text disk.content old ++ open_chunk old.flow.waiting
  pub moments : IsTrue disk.tells → IsLog disk.content disk.may_leave old → LeavesOnly disk.left_since (Stands (durable_text disk.content old) old.flow.waiting) old.device new.device
  pub faults : disk.faults old.device ≤ disk.faults new.device

-- a crash leaves the log with that chunk or without it, and there was a cause to halt
pub record IsBroken {L : Type 0} (disk : Telling L) (error : DiskError) (old new : Log L) : Type 0 where
  pub log : IsTrue disk.tells → IsLog disk.content disk.may_leave old → IsLog disk.content disk.may_leave new
  pub stands : IsTrue disk.tells → IsLog disk.content disk.may_leave old → AllImages (Stands (durable_text disk.content old) old.flow.waiting) (disk.may_leave new.device)
  pub moments : IsTrue disk.tells → IsLog disk.content disk.may_leave old → LeavesOnly disk.left_since (Stands (durable_text disk.content old) old.flow.waiting) old.device new.device
  pub end : new.flow.end ≡ old.flow.end
  pub cause : HasHaltCause (halt_cause error) (disk.faults old.device) (disk.faults new.device)

-- a whole flush, by its answer
abbrev pub Flushes : {L : Type 0} → Telling L → Result Unit DiskError → Log L → Log L → Type 0
Flushes disk (Ok _) old new = IsFlushed disk old new
Flushes disk (Err error) old new = IsBroken disk error old new
