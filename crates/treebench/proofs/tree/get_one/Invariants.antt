use Rattle.ct_tree.specs.Answers.{IsSearchingBy}
use Rattle.treebench.proofs.tree.get_one.Given as goal

abbrev pub invariant-loop-turn : goal.invariant-loop-turn
invariant-loop-turn l = IsSearchingBy l.search.seek l.search.stage
