use Rattle.std.proofs.Common.{◌-◌, ◌^◌, ◌≤◌, Bool, IsTrue, ℕ, List}
use Rattle.ct_log.specs.Flow.{SameFlow}
use Rattle.ct_log.specs.Reading.{IsRead, IsWindow, log_bytes}
use Rattle.ct_log.specs.declared.log.Log.{Log}
use Rattle.ct_recover.specs.Replaying.{IsWithin, ReplaysTo}
use Rattle.ct_recover.specs.declared.replay.Replay.{Replay}
use Rattle.ct_recover.proofs.replay.replay_log.Given as goal

-- The chunks so far are replayed, and the log is as it was.
pub record IsRunning {L : Type 0} (tells : Bool) (content : L → List ℕ) (may_leave : L → List ℕ → Type 0) (left_since : L → L → List ℕ → Type 0) (count_of : L → ℕ) (log : Log L) (old : Replay) (now : Log L) (new : Replay) : Type 0 where
  pub up_to : ReplaysTo tells (log_bytes (content log.device)) old new
  pub within : IsWithin new
  pub flow : SameFlow log.flow now.flow
  pub read : IsTrue tells → IsRead content may_leave left_since log.device now.device
  pub later : count_of log.device ≤ count_of now.device

abbrev pub invariant-loop-window : goal.invariant-loop-window
invariant-loop-window g l =
    IsRunning g.L.Disk.tells g.L.Disk.content g.L.Disk.may_leave g.L.Disk.left_since g.L.Disk.faults l.fn.log l.initial.replay l.log l.replay
    × IsWindow g.L.Disk.tells g.L.Disk.content g.L.Disk.size l.log.device l.window

abbrev pub decreases-loop-window : goal.decreases-loop-window
decreases-loop-window g l = 2 ^ 62 - l.replay.place
