use Rattle.std.proofs.Common.{◌∙◌, ◌≤◌, ℕ, List, length, refl, sym, ap, subst, Ok, Err}
use Rattle.std.proofs.lemmas.Result.{err_from_is_err_and}
use Rattle.ct_yard.specs.Telling.{telling}
use Rattle.ct_yard.proofs.Commits.{narrower, full, failed, performed}
use Rattle.ct_yard.specs.declared.yard.CommitFault.{CommitFault}
use Rattle.ct_yard.specs.Machine.{Machine, Commits}
use Rattle.ct_yard.specs.Writes.{has_room_for}
use Rattle.ct_yard.specs.Yards.{StandsFor, KeptThrough}
use Rattle.ct_yard.proofs.yard.Yard.commit.Goals as goal

pub returns-then-not-has_room-clause-commits : goal.returns-then-not-has_room-clause-commits
returns-then-not-has_room-clause-commits g c = λ founded front machine told stands.
    subst (λ (fault : CommitFault). (then : Machine) × Commits machine c.args.change (Err fault) then × StandsFor founded (telling g.L.Disk.tells g.L.Disk.faults g.L.Disk.content g.L.Disk.may_leave g.L.Disk.left_since) front then c.halted.new.self
    × KeptThrough founded (telling g.L.Disk.tells g.L.Disk.faults g.L.Disk.content g.L.Disk.may_leave g.L.Disk.left_since) front machine c.args.self.now.log.device then c.halted.new.self.log.device) (sym c.halted.ensures.fault)
    (full founded (telling g.L.Disk.tells g.L.Disk.faults g.L.Disk.content g.L.Disk.may_leave g.L.Disk.left_since) c.args.self.now c.args.change c.in_ok-transaction.transaction c.as_slice-group.result.now front machine
    c.requires.running c.in_ok-transaction.ensures (c.as_slice-group.ensures.value ∙ c.in_ok-group.ensures.text) stands c.halted.new.self (sym c.has_room.ensures ∙ c.if-not-has_room.true) c.halted.ensures.halt c.halted.ensures.log c.halted.ensures.front)

pub returns-in_err-write-clause-commits : goal.returns-in_err-write-clause-commits
returns-in_err-write-clause-commits g c = λ founded front machine told stands.
    let p = err_from_is_err_and c.from_residual-in_err-write.result c.from_residual-in_err-write.ensures.1 in
    failed founded (telling g.L.Disk.tells g.L.Disk.faults g.L.Disk.content g.L.Disk.may_leave g.L.Disk.left_since) c.args.self.now c.args.change c.in_ok-transaction.transaction c.as_slice-group.result.now front machine
    c.requires.running c.in_ok-transaction.ensures (c.as_slice-group.ensures.value ∙ c.in_ok-group.ensures.text) stands c.write.new.self c.in_ok-group.ensures.fits (subst (λ (l : List ℕ). length l ≤ 8000) (sym c.as_slice-group.ensures.value) c.in_ok-group.ensures.short) c.requires.allowed
    (sym c.has_room.ensures ∙ c.if-not-has_room.false)
    c.from_residual-in_err-write.result c.in_err-write.field-0.0 p.0 p.1 p.2 (narrower founded (telling g.L.Disk.tells g.L.Disk.faults g.L.Disk.content g.L.Disk.may_leave g.L.Disk.left_since) c.as_slice-group.result.now (Err c.in_err-write.field-0.0) c.args.self.now c.write.new.self told c.in_err-write.ensures)

pub returns-clause-commits : goal.returns-clause-commits
returns-clause-commits g c = λ founded front machine told stands.
    performed founded (telling g.L.Disk.tells g.L.Disk.faults g.L.Disk.content g.L.Disk.may_leave g.L.Disk.left_since) c.args.self.now c.args.change c.in_ok-transaction.transaction c.as_slice-group.result.now front machine
    c.requires.running c.in_ok-transaction.ensures (c.as_slice-group.ensures.value ∙ c.in_ok-group.ensures.text) stands c.write.new.self c.in_ok-group.ensures.fits (subst (λ (l : List ℕ). length l ≤ 8000) (sym c.as_slice-group.ensures.value) c.in_ok-group.ensures.short) c.requires.allowed
    (sym c.has_room.ensures ∙ c.if-not-has_room.false)
    c.perform.result c.perform.new.self (narrower founded (telling g.L.Disk.tells g.L.Disk.faults g.L.Disk.content g.L.Disk.may_leave g.L.Disk.left_since) c.as_slice-group.result.now (Ok tt) c.args.self.now c.write.new.self told c.in_ok-write.ensures) c.perform.ensures.log c.perform.ensures.front c.perform.ensures.done
