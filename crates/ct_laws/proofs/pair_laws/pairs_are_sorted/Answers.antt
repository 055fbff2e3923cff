use Rattle.ct_laws.proofs.Pairs.{IsSorted-pairs_of, IsPermutation-pairs_of}
use Rattle.ct_laws.proofs.pair_laws.pairs_are_sorted.Goals as goal

pub returns-clause-sorted : goal.returns-clause-sorted
returns-clause-sorted c = IsSorted-pairs_of

pub returns-clause-same : goal.returns-clause-same
returns-clause-same c = IsPermutation-pairs_of
