use Rattle.std.proofs.lemmas.Result.{err_from_is_err_and}
use Rattle.ct_codec.specs.Formats.{read_times}
use Rattle.ct_codec.proofs.Loops.{times_begins, times_goes_on, times_fails, times_ends}
use Rattle.ct_change_codec.specs.DefinitionFormat.{seg_codec}
use Rattle.ct_change_codec.proofs.read_definitions.segs_of.Goals as goal

pub loop-init : goal.loop-init
loop-init c = rw c.new-segs.ensures (times_begins seg_codec c.args.count c.args.bytes.now)

pub loop-preserved : goal.loop-preserved
loop-preserved c =
    rw c.in_ok-push.ensures.ok (times_goes_on seg_codec c.loop.segs c.args.count c.loop.counter c.loop.rest.now c.in_ok-seg.seg c.in_ok-seg.after.now (read_times seg_codec c.args.count c.args.bytes.now) c.loop-test.true c.in_ok-seg.ensures c.loop.invariant)

pub returns-in_err-seg : goal.returns-in_err-seg
returns-in_err-seg c =
    let p = err_from_is_err_and c.from_residual.result c.from_residual.ensures.1 in
    rw (p.1, p.2) (times_fails seg_codec c.in_err-seg.field-0.0 c.loop.segs c.args.count c.loop.counter c.loop.rest.now (read_times seg_codec c.args.count c.args.bytes.now) c.loop-test.true c.in_err-seg.ensures c.loop.invariant)

pub returns : goal.returns
returns c = times_ends seg_codec c.loop.segs c.args.count c.loop.counter c.loop.rest.now (read_times seg_codec c.args.count c.args.bytes.now) c.loop-test.false c.loop.invariant
