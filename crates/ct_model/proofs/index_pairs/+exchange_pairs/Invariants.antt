use Rattle.std.proofs.Common.{length}
use Rattle.ct_model.proofs.index_pairs.+exchange_pairs.Given as goal

abbrev pub decreases-exchange_pairs : goal.decreases-exchange_pairs
decreases-exchange_pairs l = length l.pairs.now
