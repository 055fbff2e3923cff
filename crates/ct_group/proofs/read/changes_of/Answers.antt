use Rattle.std.proofs.lemmas.Result.{err_from_is_err_and}
use Rattle.ct_codec.specs.Formats.{read_times}
use Rattle.ct_codec.proofs.Loops.{times_begins, times_goes_on, times_fails, times_ends}
use Rattle.ct_change_codec.specs.ChangeFormat.{change_codec}
use Rattle.ct_group.proofs.read.changes_of.Goals as goal

pub loop-init : goal.loop-init
loop-init c = rw c.emptied-changes.ensures (times_begins change_codec c.args.count c.args.bytes.now)

pub loop-preserved : goal.loop-preserved
loop-preserved c =
    rw c.in_ok-push.ensures.ok (times_goes_on change_codec c.loop.changes c.args.count c.loop.counter c.loop.rest.now c.in_ok-change.change c.in_ok-change.after.now (read_times change_codec c.args.count c.args.bytes.now) c.loop-test.true c.in_ok-change.ensures c.loop.invariant)

pub returns-in_err-change : goal.returns-in_err-change
returns-in_err-change c =
    let p = err_from_is_err_and c.from_residual.result c.from_residual.ensures.1 in
    rw (p.1, p.2) (times_fails change_codec c.in_err-change.field-0.0 c.loop.changes c.args.count c.loop.counter c.loop.rest.now (read_times change_codec c.args.count c.args.bytes.now) c.loop-test.true c.in_err-change.ensures c.loop.invariant)

pub returns : goal.returns
returns c = times_ends change_codec c.loop.changes c.args.count c.loop.counter c.loop.rest.now (read_times change_codec c.args.count c.args.bytes.now) c.loop-test.false c.loop.invariant
