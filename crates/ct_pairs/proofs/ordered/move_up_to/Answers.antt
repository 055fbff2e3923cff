use Rattle.std.proofs.Common.{subst, sym}
use Rattle.ct_pairs.proofs.PairLists.{IsInOrder}
use Rattle.ct_pairs.proofs.Joined.{IsInOrder-back}
use Rattle.ct_pairs.proofs.ordered.move_up_to.Goals as goal

pub begins_up_to-requires : goal.begins_up_to-requires
begins_up_to-requires c = IsInOrder-back c.loop-set.set.keys c.loop-set.tail.items (subst IsInOrder (sym c.loop-set.invariant) c.requires)
