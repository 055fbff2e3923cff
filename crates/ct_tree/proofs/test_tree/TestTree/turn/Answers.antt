use Rattle.ct_tree.proofs.News.{may_one}
use Rattle.ct_tree.proofs.test_tree.TestTree.turn.Goals as goal

pub turn-requires-clause-mark : goal.turn-requires-clause-mark
turn-requires-clause-mark c = may_one c.args.program.now
