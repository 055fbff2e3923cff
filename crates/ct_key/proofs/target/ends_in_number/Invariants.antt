use Rattle.std.proofs.Common.{◌≡◌, drop}
use Rattle.ct_key.specs.Target.{ends_in_number}
use Rattle.ct_key.proofs.target.ends_in_number.Given as goal

abbrev pub invariant-loop-seg : goal.invariant-loop-seg
invariant-loop-seg l = ends_in_number (drop l.seg-index l.segs) l.left ≡ ends_in_number l.segs l.len
