use Rattle.std.proofs.Common.{sym, subst}
use Rattle.ct_yard.specs.Telling.{telling}
use Rattle.ct_tool.specs.Runs.{IsMade}
use Rattle.ct_log.proofs.Fronts.{id_short}
use Rattle.ct_tool.proofs.Making.{made}
use Rattle.ct_tool.proofs.create.create.Goals as goal

pub returns-clause-made : goal.returns-clause-made
returns-clause-made g c = λ ends.
    subst (λ pages. IsMade (telling g.P.Disk.tells g.P.Disk.faults g.P.Disk.content g.P.Disk.may_leave g.P.Disk.left_since) (telling g.L.Disk.tells g.L.Disk.faults g.L.Disk.content g.L.Disk.may_leave g.L.Disk.left_since) c.args.id.now pages c.by-2.result.log) (sym c.by-2.ensures.pages)
    (subst (λ log. IsMade (telling g.P.Disk.tells g.P.Disk.faults g.P.Disk.content g.P.Disk.may_leave g.P.Disk.left_since) (telling g.L.Disk.tells g.L.Disk.faults g.L.Disk.content g.L.Disk.may_leave g.L.Disk.left_since) c.args.id.now c.create_store.new.pages log) (sym c.by-2.ensures.log)
    (made (telling g.P.Disk.tells g.P.Disk.faults g.P.Disk.content g.P.Disk.may_leave g.P.Disk.left_since) (telling g.L.Disk.tells g.L.Disk.faults g.L.Disk.content g.L.Disk.may_leave g.L.Disk.left_since) c.args.id.now c.create_store.new.pages c.create_store.new.log (id_short c.args.id.now c.requires.id)
    c.in_default.ensures.pages c.in_default.ensures.pages_stable c.in_default.ensures.log c.in_default.ensures.log_stable))
