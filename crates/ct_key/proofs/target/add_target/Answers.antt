use Rattle.std.proofs.Common.{get_or, arith}
use Rattle.ct_key.proofs.PartLemmas.{length_added}
use Rattle.ct_key.proofs.TargetLemmas.{target_more}
use Rattle.ct_key.proofs.target.add_target.Goals as goal

pub loop-seg-preserved : goal.loop-seg-preserved
loop-seg-preserved c =
    let added = target_more c.args.segs.now c.loop-seg.seg-index _ c.loop-seg.into c.loop-seg.rest.now _ c.loop-seg-test.true c.loop-seg.invariant.added in
    let len = length_added (get_or c.args.segs.now c.loop-seg.seg-index _) c.loop-seg.into c.add_part.new.into c.split_at.result.0.now c.add_part.ensures in
    record {
      added = rw (c.add_part.ensures, c.split_at.ensures.front, c.split_at.ensures.back, c.min.ensures, c.from.ensures) added;
      len = omega arith;
    }
