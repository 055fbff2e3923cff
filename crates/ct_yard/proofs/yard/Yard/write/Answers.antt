use Rattle.std.proofs.Common.{◌≡◌, ◌++◌, List, ℕ, Some, Err, refl, sym, ap, ◌∙◌, subst}
use Rattle.ct_disk.specs.declared.turn.HaltCause.{HaltCause}
use Rattle.ct_log.specs.Flow.{Queued}
use Rattle.ct_log.specs.declared.log.Log.{Log}
use Rattle.ct_yard.specs.Telling.{telling}
use Rattle.ct_yard.specs.declared.yard.CommitFault.{CommitFault}
use Rattle.ct_yard.specs.declared.yard.CommitFault.TheVariants.{Halted}
use Rattle.ct_yard.specs.Flushing.{IsBroken, halt_cause}
use Rattle.ct_yard.specs.Writes.{Writes}
use Rattle.ct_yard.proofs.Flushes.{broken_stops}
use Rattle.ct_yard.proofs.yard.Yard.write.Goals as goal

pub returns-in-Err : goal.returns-in-Err
returns-in-Err g c =
    let old = c.args.self.now in
    let mid = c.append.new.self in
    let new = c.halted.new.self in
    let queued : Queued c.args.group.now old.log.flow mid.flow = c.in_ok-append.ensures.ok in
    let rest = c.requires.settled.at_rest c.requires.running in
    let broken : IsBroken (telling g.L.Disk.tells g.L.Disk.faults g.L.Disk.content g.L.Disk.may_leave g.L.Disk.left_since) c.in-Err.error mid new.log =
    subst (λ (l : Log g.row.L.Denot). IsBroken (telling g.L.Disk.tells g.L.Disk.faults g.L.Disk.content g.L.Disk.may_leave g.L.Disk.left_since) c.in-Err.error mid l) (sym c.halted.ensures.log) c.in-Err.ensures in
    subst (λ (fault : CommitFault). Writes (telling g.L.Disk.tells g.L.Disk.faults g.L.Disk.content g.L.Disk.may_leave g.L.Disk.left_since) c.args.group.now (Err fault) old new)
    (sym (c.halted.ensures.fault ∙ ap (λ (cause : HaltCause). Halted cause) c.halt_cause.ensures))
    (broken_stops (telling g.L.Disk.tells g.L.Disk.faults g.L.Disk.content g.L.Disk.may_leave g.L.Disk.left_since) c.in-Err.error c.args.group.now old new mid
    c.append.ensures.device c.append.ensures.text (queued.waiting ∙ ap (λ (l : List ℕ). l ++ c.args.group.now) rest.waiting) queued.end c.append.ensures.log
    broken c.halted.ensures.pages (c.halted.ensures.halt ∙ ap (λ (cause : HaltCause). Some cause) c.halt_cause.ensures) c.halted.ensures.front)
