use Rattle.std.proofs.lemmas.Result.{err_from_is_err_and}
use Rattle.ct_codec.specs.Formats.{read_times}
use Rattle.ct_codec.proofs.Loops.{times_begins, times_goes_on, times_fails, times_ends}
use Rattle.ct_change_codec.specs.DefinitionFormat.{index_codec}
use Rattle.ct_change_codec.proofs.read_definitions.indexes_of.Goals as goal

pub loop-init : goal.loop-init
loop-init c = rw c.new-indexes.ensures (times_begins index_codec c.args.count c.args.bytes.now)

pub loop-preserved : goal.loop-preserved
loop-preserved c =
    rw c.in_ok-push.ensures.ok (times_goes_on index_codec c.loop.indexes c.args.count c.loop.counter c.loop.rest.now c.in_ok-index.index c.in_ok-index.after.now (read_times index_codec c.args.count c.args.bytes.now) c.loop-test.true c.in_ok-index.ensures c.loop.invariant)

pub returns-in_err-index : goal.returns-in_err-index
returns-in_err-index c =
    let p = err_from_is_err_and c.from_residual.result c.from_residual.ensures.1 in
    rw (p.1, p.2) (times_fails index_codec c.in_err-index.field-0.0 c.loop.indexes c.args.count c.loop.counter c.loop.rest.now (read_times index_codec c.args.count c.args.bytes.now) c.loop-test.true c.in_err-index.ensures c.loop.invariant)

pub returns : goal.returns
returns c = times_ends index_codec c.loop.indexes c.args.count c.loop.counter c.loop.rest.now (read_times index_codec c.args.count c.args.bytes.now) c.loop-test.false c.loop.invariant
