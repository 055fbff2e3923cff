use Rattle.ct_script.proofs.Parting.{read_one, bad_line, bad_last, read_all}
use Rattle.ct_script.proofs.script.read_script.Goals as goal

pub loop-line-preserved : goal.loop-line-preserved
loop-line-preserved c =
    let read = c.loop-line.invariant in
    let parts = c.in-Some.ensures in
    read_one c.args.text.now c.loop-line.rest.now c.in-Some.line.now c.in-Some.after.now c.without_cr.result.now c.loop-line.reading c.take.new.self read parts.0 parts.1 c.without_cr.ensures (c.in-Ok.ensures read.before read.kept)

pub returns-in-Err : goal.returns-in-Err
returns-in-Err c =
    let read = c.loop-line.invariant in
    let parts = c.in-Some.ensures in
    bad_line c.args.text.now c.loop-line.rest.now c.in-Some.line.now c.in-Some.after.now c.without_cr.result.now c.loop-line.reading c.take.new.self c.in-Err.fault read parts.0 parts.1 c.without_cr.ensures (c.in-Err.ensures read.before read.kept)

pub returns-in-Ok-take : goal.returns-in-Ok-take
returns-in-Ok-take c =
    let read = c.loop-line.invariant in
    read_all c.args.text.now c.loop-line.rest.now c.loop-line.reading c.take-2.new.self read c.in_default.ensures (c.in-Ok-take.ensures read.before read.kept) c.end.result c.end.ensures

pub returns-in-Err-take : goal.returns-in-Err-take
returns-in-Err-take c =
    let read = c.loop-line.invariant in
    bad_last c.args.text.now c.loop-line.rest.now c.loop-line.reading c.take-2.new.self c.in-Err-take.fault read c.in_default.ensures (c.in-Err-take.ensures read.before read.kept)
