use Rattle.std.proofs.Common.{take}
use Rattle.std.specs.List.{flat_map}
use Rattle.std.proofs.lemmas.List.{get_or_default}
use Rattle.std.proofs.lemmas.List.Elements.{All-more}
use Rattle.ct_codec.proofs.Writes.{KeepsFront-after, on_err, written_more}
use Rattle.ct_change_codec.specs.DefinitionFormat.{seg_codec, FitsSeg}
use Rattle.ct_change_codec.proofs.write_definitions.push_segs.Goals as goal

pub returns-in_err-push_seg-clause-err : goal.returns-in_err-push_seg-clause-err
returns-in_err-push_seg-clause-err c =
    let written = flat_map seg_codec.text (take c.loop-seg.seg-index c.args.segs.now) in
    on_err c.from_residual.result (KeepsFront-after c.args.into.now.items written c.loop-seg.into.items c.push_seg.new.into.items c.loop-seg.invariant.written c.in_err-push_seg.ensures.err)

pub loop-seg-preserved : goal.loop-seg-preserved
loop-seg-preserved c =
    let segs = c.args.segs.now in
    let at = c.loop-seg.seg-index in
    record {
      written = written_more seg_codec.text c.args.into.now.items c.loop-seg.into.items c.push_seg.new.into.items segs at _ c.loop-seg-test.true (get_or_default segs at _ _ c.loop-seg-test.true) c.loop-seg.invariant.written c.in_ok-push_seg.ensures.ok;
      fits = All-more FitsSeg segs at _ c.loop-seg-test.true c.loop-seg.invariant.fits c.in_ok-push_seg.ensures.fits;
    }
