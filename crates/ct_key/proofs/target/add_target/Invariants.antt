use Rattle.std.proofs.Common.{◌≡◌, ◌+◌, ◌++◌, length, drop}
use Rattle.ct_key.specs.Target.{target_bytes}
use Rattle.ct_key.proofs.target.add_target.Given as goal

abbrev pub invariant-loop-seg : goal.invariant-loop-seg
invariant-loop-seg l = record {
  added : l.into ++ target_bytes (drop l.seg-index l.segs) l.rest ≡ l.fn.into ++ target_bytes l.segs l.fn.target;
  len : length l.into + length l.rest ≡ length l.fn.into + length l.fn.target;
}
