use Rattle.ct_yard.specs.Yards.{IsSettled}
use Rattle.ct_isam.proofs.tests.replies.Given as goal

abbrev pub invariant-loop-line : goal.invariant-loop-line
invariant-loop-line g l = IsSettled l.yard
