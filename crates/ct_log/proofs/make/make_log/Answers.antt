use Rattle.std.proofs.Common.{◌≡◌, length, ap, ◌∙◌, arith}
use Rattle.ct_log.specs.Front.{name_plate}
use Rattle.ct_log.proofs.Fronts.{emptied, id_short, log_of, length-name_plate}
use Rattle.ct_log.proofs.make.make_log.Goals as goal

pub returns-clause-made : goal.returns-clause-made
returns-clause-made g c = λ tells.
    let short = id_short c.args.id.now c.requires.id in
    let plate = g.L.Disk.content c.write_name_plate.new.device in
    let empty = c.in_ok-cut.ensures.content tells ∙ emptied (g.L.Disk.content c.args.device.now) in
    let named : plate ≡ name_plate c.args.id.now c.args.base = c.in_ok-write_name_plate.ensures.written tells empty in
    let size : length plate ≡ 36 = ap length named ∙ length-name_plate c.args.id.now c.args.base short in
    let zeros_behind = c.in_ok-pad.ensures.padded tells (omega arith) in
    c.sync.ensures.content tells ∙ log_of c.args.id.now c.args.base plate (g.L.Disk.content c.pad.new.device) short named zeros_behind
