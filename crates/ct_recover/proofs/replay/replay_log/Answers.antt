use Rattle.std.proofs.Common.{◌≡◌, ◌≤◌, Bool, true, IsTrue, ℕ, List, Ok, drop, ap, ◌∙◌, subst, arith}
use Rattle.ct_log.specs.Flow.{SameFlow}
use Rattle.ct_log.specs.Reading.{IsRead, log_bytes}
use Rattle.ct_log.specs.declared.flow.Flow.{Flow}
use Rattle.ct_log.specs.declared.log.Log.{Log}
use Rattle.ct_log.proofs.HeadReads.{IsRead-then}
use Rattle.ct_recover.specs.Replaying.{IsWithin, ReplaysChunk}
use Rattle.ct_recover.specs.declared.replay.Replay.{Replay}
use Rattle.ct_recover.proofs.ChunkReplays.{chunk_more, chunk_none, of_told}
use Rattle.ct_recover.proofs.replay.replay_log.Invariants.{IsRunning}
use Rattle.ct_recover.proofs.replay.replay_log.Goals as goal

still : (old mid new : Flow) → SameFlow old mid → SameFlow mid new → SameFlow old new
still old mid new first second = record {
  end = second.end ∙ first.end;
  stage = second.stage ∙ first.stage;
  taken = second.taken ∙ first.taken;
  waiting = second.waiting ∙ first.waiting;
  durable = second.durable ∙ first.durable;
  taken_up_to = second.taken_up_to ∙ first.taken_up_to;
  next = second.next ∙ first.next;
}

on : {L : Type 0} (tells : Bool) (content : L → List ℕ) (may_leave : L → List ℕ → Type 0) (left_since : L → L → List ℕ → Type 0) (count_of : L → ℕ) (log mid now : Log L) (old so new : Replay) (more : Bool)
    → IsRunning tells content may_leave left_since count_of log old mid so → more ≡ true
    → ReplaysChunk tells (drop so.place (log_bytes (content mid.device))) (Ok more) so new → IsWithin new → SameFlow mid.flow now.flow
    → (IsTrue tells → IsRead content may_leave left_since mid.device now.device) → count_of mid.device ≤ count_of now.device
    → IsRunning tells content may_leave left_since count_of log old now new
on tells content may_leave left_since count_of log mid now old so new more running is replayed within flow read later =
    let bytes = log_bytes (content log.device) in
    let other = log_bytes (content mid.device) in
    let one : ReplaysChunk tells (drop so.place other) (Ok true) so new = subst (λ b. ReplaysChunk tells (drop so.place other) (Ok b) so new) is replayed in
    let here = of_told tells (drop so.place bytes) (drop so.place other) (λ told. ap (λ (l : List ℕ). drop so.place (log_bytes l)) (running.read told).same) so new (Ok true) one in
    record {
      up_to = chunk_more tells bytes old so new running.up_to here;
      within = within;
      flow = still log.flow mid.flow now.flow running.flow flow;
      read = λ told. IsRead-then content may_leave left_since log.device mid.device now.device (running.read told) (read told);
      later = omega (arith, running.later, later);
    }

pub loop-window-preserved : goal.loop-window-preserved
loop-window-preserved g c = (
  on g.L.Disk.tells g.L.Disk.content g.L.Disk.may_leave g.L.Disk.left_since g.L.Disk.faults c.args.log.now c.loop-window.log c.replay_chunk.new.log c.args.replay.now c.loop-window.replay c.replay_chunk.new.replay
      c.in-Ok-true.field-0 c.loop-window.invariant.0 c.in-Ok-true.field-0-test c.in-Ok-true.ensures.replayed c.in-Ok-true.ensures.within c.in-Ok-true.ensures.flow c.in-Ok-true.ensures.read c.in-Ok-true.ensures.later,
  c.in-Ok-true.ensures.window,
)

pub loop-window-init : goal.loop-window-init
loop-window-init g c = (
  record {
    up_to = chunk_none g.L.Disk.tells (log_bytes (g.L.Disk.content c.args.log.now.device)) c.args.replay.now c.requires.within;
    within = c.requires.within;
    flow = c.in-Ok.ensures.flow;
    read = c.in-Ok.ensures.read;
    later = c.in-Ok.ensures.cause.later;
  },
  c.in-Ok.ensures.window,
)
