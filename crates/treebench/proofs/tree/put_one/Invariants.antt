use Rattle.ct_tree.specs.Answers.{IsPair, IsPutting}
use Rattle.treebench.proofs.tree.put_one.Given as goal

abbrev pub invariant-loop-turn : goal.invariant-loop-turn
invariant-loop-turn l = record { pair : IsPair l.put.walk.target; open_stage : IsPutting l.put.stage }
