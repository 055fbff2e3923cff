use Rattle.std.proofs.Common.{sym}
use Rattle.ct_log.proofs.Zeros.{front_to_zero, all_before_zero}
use Rattle.ct_log.proofs.pages.before_zero.Goals as goal

pub returns-in-Some-clause-before : goal.returns-in-Some-clause-before
returns-in-Some-clause-before c = front_to_zero c.args.bytes.now c.in-Some.end (sym c.in-Some.ensures.place)

pub returns-in-None-clause-before : goal.returns-in-None-clause-before
returns-in-None-clause-before c = all_before_zero c.args.bytes.now (sym c.in-None.ensures.place)
