use Rattle.std.proofs.lemmas.Result.{err_from_is_err_and}
use Rattle.ct_codec.specs.Formats.{read_times}
use Rattle.ct_codec.proofs.Loops.{times_begins, times_goes_on, times_fails, times_ends}
use Rattle.ct_group.specs.Groups.{unfinished_codec}
use Rattle.ct_group.proofs.read.unfinished_of.Goals as goal

pub loop-init : goal.loop-init
loop-init c = rw c.new-unfinished.ensures (times_begins unfinished_codec c.args.count c.args.bytes.now)

pub loop-preserved : goal.loop-preserved
loop-preserved c =
    rw c.in_ok-push.ensures.ok (times_goes_on unfinished_codec c.loop.unfinished c.args.count c.loop.counter c.loop.rest.now c.in_ok-one.one c.in_ok-one.after.now (read_times unfinished_codec c.args.count c.args.bytes.now) c.loop-test.true c.in_ok-one.ensures.reads c.loop.invariant)

pub returns-in_err-one : goal.returns-in_err-one
returns-in_err-one c =
    let p = err_from_is_err_and c.from_residual.result c.from_residual.ensures.1 in
    rw (p.1, p.2) (times_fails unfinished_codec c.in_err-one.field-0.0 c.loop.unfinished c.args.count c.loop.counter c.loop.rest.now (read_times unfinished_codec c.args.count c.args.bytes.now) c.loop-test.true c.in_err-one.ensures.reads c.loop.invariant)

pub returns : goal.returns
returns c = times_ends unfinished_codec c.loop.unfinished c.args.count c.loop.counter c.loop.rest.now (read_times unfinished_codec c.args.count c.args.bytes.now) c.loop-test.false c.loop.invariant
