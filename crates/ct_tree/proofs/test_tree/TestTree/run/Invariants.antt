use Rattle.ct_tree.specs.Schedules.{IsReady}
use Rattle.ct_tree.proofs.test_tree.TestTree.run.Given as goal

abbrev pub invariant-loop-turn : goal.invariant-loop-turn
invariant-loop-turn l = IsReady l.program
