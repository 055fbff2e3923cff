use Rattle.std.proofs.Common.{ℕ, List, length, Ok, Err, sym, ap, ◌∙◌, subst}
use Rattle.ct_definitions.specs.declared.store.File.{File}
use Rattle.ct_definitions.specs.declared.change.Change.TheVariants.{Make}
use Rattle.ct_definitions.specs.Changes.{State}
use Rattle.ct_line.specs.declared.call.Call.TheVariants as calls
use Rattle.ct_yard.specs.Telling.{telling}
use Rattle.ct_yard.specs.Machine.{Commits}
use Rattle.ct_isam.specs.Calls.{Replies, create_refusal}
use Rattle.ct_isam.specs.Replies.{number}
use Rattle.ct_isam.specs.Told.{reply_of}
use Rattle.ct_isam.specs.Making.{told_of}
use Rattle.ct_isam.proofs.Served.{commit_serves, made, made_not}
use Rattle.ct_isam.proofs.creating.make.Goals as goal

pub returns-in-Ok-clause-serves : goal.returns-in-Ok-clause-serves
returns-in-Ok-clause-serves g c = λ file same seats.
    let def = c.args.def in
    let files = c.files.result.now in
    commit_serves (telling g.L.Disk.tells g.L.Disk.faults g.L.Disk.content g.L.Disk.may_leave g.L.Disk.left_since) (Replies (calls.Create file)) (Make (length files) def) (Ok c.in-Ok.number) c.args.yard.now c.commit.new.self seats (number c.in-Ok.number) seats
    (λ machine next at commits. made file def machine next seats c.in-Ok.number same (ap (λ (s : State). create_refusal s def) at ∙ c.requires.fine)
    (subst (λ (n : ℕ). Commits machine (Make n def) (Ok c.in-Ok.number) next) (ap (λ (s : List File). length s) (c.files.ensures.files ∙ sym at)) commits))
    c.in-Ok.ensures.commits

pub returns-in-Err-clause-serves : goal.returns-in-Err-clause-serves
returns-in-Err-clause-serves g c = λ file same seats.
    let def = c.args.def in
    let files = c.files.result.now in
    rw c.from.ensures
    (commit_serves (telling g.L.Disk.tells g.L.Disk.faults g.L.Disk.content g.L.Disk.may_leave g.L.Disk.left_since) (Replies (calls.Create file)) (Make (length files) def) (Err c.in-Err.fault) c.args.yard.now c.commit.new.self seats (reply_of seats (told_of c.in-Err.fault)) seats
    (λ machine next at commits. made_not file def machine next seats c.in-Err.fault same (ap (λ (s : State). create_refusal s def) at ∙ c.requires.fine)
    (subst (λ (n : ℕ). Commits machine (Make n def) (Err c.in-Err.fault) next) (ap (λ (s : List File). length s) (c.files.ensures.files ∙ sym at)) commits))
    c.in-Err.ensures.commits)
