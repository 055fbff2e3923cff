use Rattle.std.proofs.Common.{length}
use Rattle.ct_model.proofs.index_pairs.+put_each_free.Given as goal

abbrev pub decreases-put_each_free : goal.decreases-put_each_free
decreases-put_each_free l = length l.pairs.now
