use Rattle.std.proofs.Common.{◌≡◌, ◌++◌, reverse}
use Rattle.std.specs.Slice.Iter.{iter_rest}
use Rattle.std.specs.Iterator.Adapters.{rev_source}
use Rattle.ct_key.specs.Parts.{in_order}
use Rattle.ct_key.proofs.parts.add_reversed.Given as goal

abbrev pub invariant-loop-byte : goal.invariant-loop-byte
invariant-loop-byte l = record {
  can : (goal.iterator-loop-byte).can_next l.byte-iterator;
  ends : (goal.iterator-loop-byte).is_finite l.byte-iterator;
  added : l.into ++ in_order l.desc (reverse (iter_rest (rev_source l.byte-iterator))) ≡ l.fn.into ++ in_order l.desc (reverse l.bytes);
}
