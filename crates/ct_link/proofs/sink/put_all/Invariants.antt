use Rattle.std.proofs.Common.{length, ◌-◌}
use Rattle.ct_link.proofs.Parts.{IsWrittenSoFar}
use Rattle.ct_link.proofs.sink.put_all.Given as goal

abbrev pub invariant-loop-done : goal.invariant-loop-done
invariant-loop-done g l =
    IsWrittenSoFar (g.O.Sink.written l.initial.out) (g.O.Sink.written l.out) l.bytes l.done (g.O.Sink.faults l.initial.out) (g.O.Sink.faults l.out)

abbrev pub decreases-loop-done : goal.decreases-loop-done
decreases-loop-done g l = length l.bytes - l.done
