use Rattle.std.proofs.Common.{◌≡◌, ℕ, List, Ok, Err, ap, ◌∙◌}
use Rattle.ct_definitions.specs.declared.change.Change.TheVariants.{Add}
use Rattle.ct_definitions.specs.Changes.{State, allows}
use Rattle.ct_yard.specs.Telling.{telling}
use Rattle.ct_isam.specs.Replies.{number}
use Rattle.ct_isam.specs.Seats.{with_current}
use Rattle.ct_isam.specs.Serving.{AddsAs}
use Rattle.ct_isam.specs.Told.{reply_of}
use Rattle.ct_isam.specs.Making.{told_of}
use Rattle.ct_isam.proofs.Served.{commit_serves, adds, adds_not}
use Rattle.ct_isam.proofs.adding.add_as.Goals as goal

pub returns-in-Ok-commit-clause-serves : goal.returns-in-Ok-commit-clause-serves
returns-in-Ok-commit-clause-serves g c =
    let change = Add c.args.file c.args.num c.args.image in
    let seats = c.args.session.now in
    let kept : c.exchange.new.self ≡ with_current c.args.file (record { num = c.args.num; image = c.args.image }) seats =
    c.in-Ok-exchange.ensures.new ∙ ap (λ (i : List ℕ). with_current c.args.file (record { num = c.args.num; image = i }) seats) (c.in-Ok.ensures ∙ c.as_slice.ensures) in
    commit_serves (telling g.L.Disk.tells g.L.Disk.faults g.L.Disk.content g.L.Disk.may_leave g.L.Disk.left_since) (AddsAs c.args.file c.args.num c.args.image) change (Ok c.in-Ok-commit._transaction) c.args.yard.now c.commit.new.self seats (number c.args.num) c.exchange.new.self
    (λ machine next at commits. adds c.args.file c.args.num c.args.image machine next seats c.exchange.new.self c.in-Ok-commit._transaction (ap (λ (s : State). allows s change) at ∙ c.requires.allowed) commits kept)
    c.in-Ok-commit.ensures.commits

pub returns-in-Err-clause-serves : goal.returns-in-Err-clause-serves
returns-in-Err-clause-serves g c =
    let change = Add c.args.file c.args.num c.args.image in
    let seats = c.args.session.now in
    rw c.from.ensures
    (commit_serves (telling g.L.Disk.tells g.L.Disk.faults g.L.Disk.content g.L.Disk.may_leave g.L.Disk.left_since) (AddsAs c.args.file c.args.num c.args.image) change (Err c.in-Err.fault) c.args.yard.now c.commit.new.self seats (reply_of c.undo.new.self (told_of c.in-Err.fault)) c.undo.new.self
    (λ machine next at commits. adds_not c.args.file c.args.num c.args.image machine next seats c.undo.new.self c.in-Err.fault (ap (λ (s : State). allows s change) at ∙ c.requires.allowed) commits (c.undo.ensures ∙ c.in-Ok-exchange.ensures.undone))
    c.in-Err.ensures.commits)
