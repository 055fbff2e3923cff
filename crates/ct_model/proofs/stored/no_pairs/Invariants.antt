-- No pairs for each index so far.
use Rattle.std.proofs.Common.{◌≡◌, [], take}
use Rattle.ct_model.specs.EachIndex.{pairs_of_each}
use Rattle.ct_model.proofs.stored.no_pairs.Given as goal

abbrev pub invariant-loop-index : goal.invariant-loop-index
invariant-loop-index l = l.pairs.items ≡ pairs_of_each (take l._index-index l.indexes) []
