use Rattle.std.proofs.Common.{[], ◌∷◌, ◌∙◌}
use Rattle.ct_yard.specs.Telling.{telling}
use Rattle.ct_recover.proofs.Creations.{synced_once}
use Rattle.ct_recover.proofs.create.make_store_log.Goals as goal

pub returns-clause-made : goal.returns-clause-made
returns-clause-made g c = λ tells. c.open_gate.ensures.opened tells c.args.id.now 0 (0 ∷ []) c.requires.id (c.in_default.ensures.made tells)

pub returns-clause-left : goal.returns-clause-left
returns-clause-left g c = λ tells more.
    synced_once (telling g.L.Disk.tells g.L.Disk.faults g.L.Disk.content g.L.Disk.may_leave g.L.Disk.left_since) c.args.id.now c.make_log.new.device c.open_gate.new.device c.requires.id
    (c.in_default.ensures.made tells) (c.in_default.ensures.stable tells) (c.open_gate.ensures.crash tells)
    (λ b since. g.met.L.Disk.only_now c.make_log.new.device b tells since) (λ b left. g.met.L.Disk.counts_now c.make_log.new.device c.open_gate.new.device b tells left)
