use Rattle.std.proofs.Common.{refl}
use Rattle.std.proofs.lemmas.Result.{err_from_is_err_and}
use Rattle.ct_yard.specs.Telling.{telling}
use Rattle.ct_log.specs.declared.stage.Stage.TheVariants.{Written, Stable, Opened}
use Rattle.ct_yard.proofs.Flushes.{first, second, third, fourth, failed_at_once, failed_last}
use Rattle.ct_yard.proofs.flushing.flush.Goals as goal

pub returns-in_err-flush_step : goal.returns-in_err-flush_step
returns-in_err-flush_step g c =
    let disk = telling g.L.Disk.tells g.L.Disk.faults g.L.Disk.content g.L.Disk.may_leave g.L.Disk.left_since in
    let s0 = c.args.log.now in
    let s1 = c.flush_step.new.self in
    let e1 = c.in_err-flush_step.ensures in
    let p = err_from_is_err_and c.from_residual.result c.from_residual.ensures.1 in
    failed_at_once disk c.from_residual.result c.in_err-flush_step.field-0.0 p.0 s0 s1 p.1 p.2 c.requires.idle c.requires.none (record { flow = e1.flow; log = e1.log; text = e1.text; any_moment = e1.any_moment; cause = e1.cause })

pub returns-in_err-flush_step-2 : goal.returns-in_err-flush_step-2
returns-in_err-flush_step-2 g c =
    let disk = telling g.L.Disk.tells g.L.Disk.faults g.L.Disk.content g.L.Disk.may_leave g.L.Disk.left_since in
    let s0 = c.args.log.now in
    let s1 = c.flush_step.new.self in
    let s2 = c.flush_step-2.new.self in
    let e1 = c.in_ok-flush_step.ensures in
    let e2 = c.in_err-flush_step-2.ensures in
    let w1 = first disk c.in_ok-flush_step.field-0 s0 s1 c.requires.idle (record { flow = e1.flow; log = e1.log; text = e1.text; any_moment = e1.any_moment; cause = e1.cause }) in
    let p = err_from_is_err_and c.from_residual-in_err-flush_step-2.result c.from_residual-in_err-flush_step-2.ensures.1 in
    failed_last disk c.from_residual-in_err-flush_step-2.result c.in_err-flush_step-2.field-0.0 p.0 Written s0 s1 s2 p.1 p.2 w1 (record { flow = e2.flow; log = e2.log; text = e2.text; any_moment = e2.any_moment; cause = e2.cause }) refl

pub returns-in_err-flush_step-3 : goal.returns-in_err-flush_step-3
returns-in_err-flush_step-3 g c =
    let disk = telling g.L.Disk.tells g.L.Disk.faults g.L.Disk.content g.L.Disk.may_leave g.L.Disk.left_since in
    let s0 = c.args.log.now in
    let s1 = c.flush_step.new.self in
    let s2 = c.flush_step-2.new.self in
    let s3 = c.flush_step-3.new.self in
    let e1 = c.in_ok-flush_step.ensures in
    let e2 = c.in_ok-flush_step-2.ensures in
    let e3 = c.in_err-flush_step-3.ensures in
    let w1 = first disk c.in_ok-flush_step.field-0 s0 s1 c.requires.idle (record { flow = e1.flow; log = e1.log; text = e1.text; any_moment = e1.any_moment; cause = e1.cause }) in
    let w2 = second disk c.in_ok-flush_step-2.field-0 s0 s1 s2 w1 (record { flow = e2.flow; log = e2.log; text = e2.text; any_moment = e2.any_moment; cause = e2.cause }) in
    let p = err_from_is_err_and c.from_residual-in_err-flush_step-3.result c.from_residual-in_err-flush_step-3.ensures.1 in
    failed_last disk c.from_residual-in_err-flush_step-3.result c.in_err-flush_step-3.field-0.0 p.0 Stable s0 s2 s3 p.1 p.2 w2 (record { flow = e3.flow; log = e3.log; text = e3.text; any_moment = e3.any_moment; cause = e3.cause }) refl

pub returns-in_err-flush_step-4 : goal.returns-in_err-flush_step-4
returns-in_err-flush_step-4 g c =
    let disk = telling g.L.Disk.tells g.L.Disk.faults g.L.Disk.content g.L.Disk.may_leave g.L.Disk.left_since in
    let s0 = c.args.log.now in
    let s1 = c.flush_step.new.self in
    let s2 = c.flush_step-2.new.self in
    let s3 = c.flush_step-3.new.self in
    let s4 = c.flush_step-4.new.self in
    let e1 = c.in_ok-flush_step.ensures in
    let e2 = c.in_ok-flush_step-2.ensures in
    let e3 = c.in_ok-flush_step-3.ensures in
    let e4 = c.in_err-flush_step-4.ensures in
    let w1 = first disk c.in_ok-flush_step.field-0 s0 s1 c.requires.idle (record { flow = e1.flow; log = e1.log; text = e1.text; any_moment = e1.any_moment; cause = e1.cause }) in
    let w2 = second disk c.in_ok-flush_step-2.field-0 s0 s1 s2 w1 (record { flow = e2.flow; log = e2.log; text = e2.text; any_moment = e2.any_moment; cause = e2.cause }) in
    let w3 = third disk c.in_ok-flush_step-3.field-0 s0 s2 s3 w2 (record { flow = e3.flow; log = e3.log; text = e3.text; any_moment = e3.any_moment; cause = e3.cause }) in
    let p = err_from_is_err_and c.from_residual-in_err-flush_step-4.result c.from_residual-in_err-flush_step-4.ensures.1 in
    failed_last disk c.from_residual-in_err-flush_step-4.result c.in_err-flush_step-4.field-0.0 p.0 Opened s0 s3 s4 p.1 p.2 w3 (record { flow = e4.flow; log = e4.log; text = e4.text; any_moment = e4.any_moment; cause = e4.cause }) refl

pub returns : goal.returns
returns g c =
    let disk = telling g.L.Disk.tells g.L.Disk.faults g.L.Disk.content g.L.Disk.may_leave g.L.Disk.left_since in
    let s0 = c.args.log.now in
    let s1 = c.flush_step.new.self in
    let s2 = c.flush_step-2.new.self in
    let s3 = c.flush_step-3.new.self in
    let s4 = c.flush_step-4.new.self in
    let e1 = c.in_ok-flush_step.ensures in
    let e2 = c.in_ok-flush_step-2.ensures in
    let e3 = c.in_ok-flush_step-3.ensures in
    let e4 = c.in_ok-flush_step-4.ensures in
    let w1 = first disk c.in_ok-flush_step.field-0 s0 s1 c.requires.idle (record { flow = e1.flow; log = e1.log; text = e1.text; any_moment = e1.any_moment; cause = e1.cause }) in
    let w2 = second disk c.in_ok-flush_step-2.field-0 s0 s1 s2 w1 (record { flow = e2.flow; log = e2.log; text = e2.text; any_moment = e2.any_moment; cause = e2.cause }) in
    let w3 = third disk c.in_ok-flush_step-3.field-0 s0 s2 s3 w2 (record { flow = e3.flow; log = e3.log; text = e3.text; any_moment = e3.any_moment; cause = e3.cause }) in
    fourth disk c.in_ok-flush_step-4.field-0 s0 s3 s4 w3 (record { flow = e4.flow; log = e4.log; text = e4.text; any_moment = e4.any_moment; cause = e4.cause })
