use Rattle.std.proofs.Common.{◌≡◌, drop, find}
use Rattle.ct_latch.specs.Latches.{bars}
use Rattle.ct_latch.proofs.latches.barring_op.Given as goal

abbrev pub invariant-loop-hold : goal.invariant-loop-hold
invariant-loop-hold l =
    find (bars l.node l.op l.own) l.holds ≡ find (bars l.node l.op l.own) (drop l.hold-index l.rest)
