use Rattle.std.proofs.Common.{arith, rules}
use Rattle.ct_link.proofs.Parts.{Appends-more, AppendsPart-kept}
use Rattle.ct_link.proofs.sink.put_all.Goals as goal

pub returns-in_err-done-clause-err : goal.returns-in_err-done-clause-err
returns-in_err-done-clause-err g c =
    AppendsPart-kept c.from_residual.result _ (g.O.Sink.written c.loop-done.out) _ c.args.bytes.now c.loop-done.done
    c.loop-done-test.true c.loop-done.invariant.appended c.in_err-done.ensures.written

pub loop-done-preserved : goal.loop-done-preserved
loop-done-preserved g c = record {
  within = omega (arith, c.in_ok-done.ensures.bound);
  appended = Appends-more _ (g.O.Sink.written c.loop-done.out) _ c.args.bytes.now c.loop-done.done c.in_ok-done.field-0
      c.loop-done.invariant.appended c.in_ok-done.ensures.written;
  faultless = search rules;
}
