use Rattle.ct_tree.proofs.News.{own_from_range, may_all}
use Rattle.ct_tree.proofs.tests.run_on.Goals as goal

pub run-requires-clause-numbers : goal.run-requires-clause-numbers
run-requires-clause-numbers c = own_from_range c.args.programs.now c.requires.numbers

pub run-requires-clause-marks : goal.run-requires-clause-marks
run-requires-clause-marks c any = may_all c.args.programs.now
