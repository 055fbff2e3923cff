use Rattle.std.proofs.Common.{◌≡◌, ◌++◌}
use Rattle.ct_pairs.proofs.ordered.move_up_to.Given as goal

abbrev pub invariant-loop-set : goal.invariant-loop-set
invariant-loop-set l = l.set.keys ++ l.tail.items ≡ l.fn.set.keys ++ l.fn.tail.items

abbrev pub decreases-loop-set : goal.decreases-loop-set
decreases-loop-set l = l.tail.len
