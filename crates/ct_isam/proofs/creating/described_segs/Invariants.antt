use Rattle.std.proofs.Common.{◌≡◌, take, map}
use Rattle.ct_isam.specs.Calls.{described_seg}
use Rattle.ct_isam.proofs.creating.described_segs.Given as goal

abbrev pub invariant-loop-seg : goal.invariant-loop-seg
invariant-loop-seg l = map described_seg (take l.seg-index l.segs) ≡ l.all
