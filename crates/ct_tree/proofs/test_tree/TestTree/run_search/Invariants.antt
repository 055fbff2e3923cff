use Rattle.ct_tree.specs.Answers.{IsSearchingBy}
use Rattle.ct_tree.proofs.test_tree.TestTree.run_search.Given as goal

abbrev pub invariant-loop-turn : goal.invariant-loop-turn
invariant-loop-turn l = IsSearchingBy l.search.seek l.search.stage
