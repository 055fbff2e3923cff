use Rattle.std.proofs.Common.{◌≡◌, None}
use Rattle.ct_yard.specs.Yards.{IsSettled}
use Rattle.ct_session.proofs.tests.answer_all.Given as goal

abbrev pub invariant-loop-line : goal.invariant-loop-line
invariant-loop-line g l = record {
  settled : IsSettled l.yard;
  idle : l.run.asked ≡ None;
}
