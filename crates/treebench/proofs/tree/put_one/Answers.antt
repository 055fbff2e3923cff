use Rattle.std.proofs.Common.{inr}
use Rattle.treebench.proofs.tree.put_one.Goals as goal

pub turn-requires-clause-mark : goal.turn-requires-clause-mark
turn-requires-clause-mark c = inr (λ pair is. tt)
