-- What a log on a device stands for, and what a crash may leave of it.
use Rattle.std.specs.Prelude.{ℕ, List, ◌++◌, take, Result, Ok, Err}
use Rattle.ct_disk.specs.declared.fault.DiskError.{DiskError}
use Rattle.ct_log.specs.Chunks.{open_chunk}
use Rattle.ct_log.specs.Stages.{LeftAt, ReadAt}
use Rattle.ct_log.specs.declared.log.Log.{Log}
use Rattle.ct_log.specs.declared.stage.FlushAt.{FlushAt}
use Rattle.ct_log.specs.declared.stage.FlushAt.TheVariants.{Body, Sync, Gate, Done}

-- the durable text: what stands before the gate that ends the log
abbrev pub durable_text : {D : Type 0} → (D → List ℕ) → Log D → List ℕ
durable_text content log = take log.flow.end (content log.device)

-- The device holds the durable text, and behind it as much of the chunk under way as the stage of the flush says: as read, and in all that a crash may leave.
pub record IsLog {D : Type 0} (content : D → List ℕ) (may_leave : D → List ℕ → Type 0) (log : Log D) : Type 0 where
  pub read : ReadAt log.flow.stage (durable_text content log) log.flow.taken (content log.device)
  pub left : (c : List ℕ) → may_leave log.device c → LeftAt log.flow.stage (durable_text content log) log.flow.taken c

-- the durable text after a step of a flush of these groups, by its answer
abbrev pub text_after : Result FlushAt DiskError → List ℕ → List ℕ → List ℕ
text_after (Ok Body) text groups = text
text_after (Ok Sync) text groups = text
text_after (Ok Gate) text groups = text
text_after (Ok Done) text groups = text ++ open_chunk groups
text_after (Err _) text groups = text
