use Rattle.std.proofs.Common.{◌≡◌, take, map}
use Rattle.ct_isam.specs.Calls.{described_index}
use Rattle.ct_isam.proofs.creating.described_indexes.Given as goal

abbrev pub invariant-loop-index : goal.invariant-loop-index
invariant-loop-index l = map described_index (take l.index-index l.indexes) ≡ l.all
