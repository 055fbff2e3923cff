use Rattle.ct_log.proofs.Fronts.{padded}
use Rattle.ct_log.proofs.make.pad.Goals as goal

pub returns-clause-padded : goal.returns-clause-padded
returns-clause-padded g c = λ tells within.
    padded c.cut.result (g.L.Disk.content c.args.device.now) (g.L.Disk.content c.cut.new.self) c.args.len within (c.cut.ensures.content tells)
