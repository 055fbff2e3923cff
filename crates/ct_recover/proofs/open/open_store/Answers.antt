use Rattle.std.proofs.Common.{List, ℕ, refl, sym, ap, ◌∙◌, subst}
use Rattle.ct_disk.specs.Disk.{Only}
use Rattle.ct_log.specs.Heads.{has_open_header}
use Rattle.ct_log.specs.Reading.{IsRead, log_bytes}
use Rattle.ct_log.specs.declared.log.Log.{Log}
use Rattle.ct_log.proofs.HeadReads.{IsRead-then}
use Rattle.ct_yard.specs.Telling.{telling}
use Rattle.ct_recover.specs.Opening.{IsBad}
use Rattle.ct_recover.proofs.Yards.{opens, of_ok}
use Rattle.ct_recover.proofs.Kept.{kept_yard, kept_refusal, within_limit}
use Rattle.ct_recover.proofs.open.open_store.Goals as goal

pub returns-then-is_err-clause-bad : goal.returns-then-is_err-clause-bad
returns-then-is_err-clause-bad g c = λ here place is. let none : ⊥ = cc is in absurd none

pub returns-then-is_err-2-clause-bad : goal.returns-then-is_err-2-clause-bad
returns-then-is_err-2-clause-bad g c = λ here place is. let none : ⊥ = cc is in absurd none

pub returns-in-Ok-clause-opened : goal.returns-in-Ok-clause-opened
returns-in-Ok-clause-opened g c =
    opens (telling g.L.Disk.tells g.L.Disk.faults g.L.Disk.content g.L.Disk.may_leave g.L.Disk.left_since) c.args.log c.sync-2.new.self c.in-Ok.field-0 c.assemble.result c.sync-2.ensures.content
    (λ here. of_ok (Only (g.L.Disk.content c.args.log) (g.L.Disk.may_leave c.sync-2.new.self)) c.sync-2.result (cc) (c.sync-2.ensures.stable here))
    c.in-Ok.ensures (λ here. (c.in-Ok.ensures.read here).same) c.assemble.ensures.log c.assemble.ensures.stands

pub returns-in-Ok-clause-open : goal.returns-in-Ok-clause-open
returns-in-Ok-clause-open g c = λ here. ap has_open_header (sym (c.sync-2.ensures.content here)) ∙ c.in-Ok.ensures.is_open here

pub returns-in-Ok-clause-kept : goal.returns-in-Ok-clause-kept
returns-in-Ok-clause-kept g c = λ here head front history founds has.
    kept_yard (g.L.Disk.content c.args.log) head front history founds (within_limit front history.transactions (g.L.Disk.content c.args.log) has) (telling g.L.Disk.tells g.L.Disk.faults g.L.Disk.content g.L.Disk.may_leave g.L.Disk.left_since) c.args.log c.assemble.result here refl (returns-in-Ok-clause-opened g c)

pub returns-in-Ok-clause-log : goal.returns-in-Ok-clause-log
returns-in-Ok-clause-log g c = λ here.
    subst (λ (l : Log g.row.L.Denot). IsRead g.L.Disk.content g.L.Disk.may_leave g.L.Disk.left_since c.args.log l.device) (sym c.assemble.ensures.log)
    (IsRead-then g.L.Disk.content g.L.Disk.may_leave g.L.Disk.left_since c.args.log c.sync-2.new.self c.in-Ok.field-0.log.device
    (record { same = c.sync-2.ensures.content here; goes_on = c.sync-2.ensures.crash here }) (c.in-Ok.ensures.read here))

pub returns-in-Ok-clause-log_stable : goal.returns-in-Ok-clause-log_stable
returns-in-Ok-clause-log_stable g c = λ here image left.
    let now = subst (λ (l : Log g.row.L.Denot). g.L.Disk.may_leave l.device image) c.assemble.ensures.log left in
    let one = (c.in-Ok.ensures.read here).goes_on.now image now in
    one.2 ∙ of_ok (Only (g.L.Disk.content c.args.log) (g.L.Disk.may_leave c.sync-2.new.self)) c.sync-2.result (cc) (c.sync-2.ensures.stable here) one.0 one.1

pub returns-in-Err-clause-bad : goal.returns-in-Err-clause-bad
returns-in-Err-clause-bad g c = λ here place is. subst (λ (l : List ℕ). IsBad (log_bytes l) place) (c.sync-2.ensures.content here) (c.in-Err.ensures.bad here place is)

pub returns-in-Err-clause-kept : goal.returns-in-Err-clause-kept
returns-in-Err-clause-kept g c = λ here head front history founds has.
    kept_refusal (g.L.Disk.content c.args.log) head front history founds (within_limit front history.transactions (g.L.Disk.content c.args.log) has) c.in-Err.fault c.in-Err.ensures.not_empty
    (λ is. ap has_open_header (sym (c.sync-2.ensures.content here)) ∙ c.in-Err.ensures.undone here is) (λ place is. returns-in-Err-clause-bad g c here place is)
