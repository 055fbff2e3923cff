use Rattle.std.proofs.Common.{ap, ◌∙◌}
use Rattle.ct_log.specs.Heads.{head_in}
use Rattle.ct_yard.specs.Telling.{telling}
use Rattle.ct_recover.proofs.Openings.{answers_from, no_head}
use Rattle.ct_recover.proofs.open.open_log.Goals as goal

pub returns-in-Ok : goal.returns-in-Ok
returns-in-Ok g c =
    answers_from (telling g.L.Disk.tells g.L.Disk.faults g.L.Disk.content g.L.Disk.may_leave g.L.Disk.left_since) c.args.device c.in-Ok.log.device c.read_log.result c.in-Ok.ensures.read c.in-Ok.ensures.later
    (c.read_log.ensures (λ here. ap head_in (c.in-Ok.ensures.read here).same ∙ c.in-Ok.ensures.head here))

pub returns-in-Err : goal.returns-in-Err
returns-in-Err g c =
    no_head (telling g.L.Disk.tells g.L.Disk.faults g.L.Disk.content g.L.Disk.may_leave g.L.Disk.left_since) c.args.device c.in-Err.device c.in-Err.fault c.fault_of.result c.fault_of.ensures c.in-Err.ensures.bad c.in-Err.ensures.read c.in-Err.ensures.later c.in-Err.ensures.cause
