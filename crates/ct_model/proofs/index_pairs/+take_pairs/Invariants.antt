use Rattle.std.proofs.Common.{length}
use Rattle.ct_model.proofs.index_pairs.+take_pairs.Given as goal

abbrev pub decreases-take_pairs : goal.decreases-take_pairs
decreases-take_pairs l = length l.pairs.now
