use Rattle.std.proofs.Common.{List, ℕ, sym, ap, ◌∙◌}
use Rattle.ct_yard.specs.Telling.{telling}
use Rattle.ct_isam.specs.Calls.{add_refusal}
use Rattle.ct_isam.specs.Told.{reply_of}
use Rattle.ct_isam.proofs.Served.{added_serves}
use Rattle.ct_isam.proofs.adding.add.Goals as goal

pub returns-clause-serves : goal.returns-clause-serves
returns-clause-serves g c =
    let named = c.in-Ok.ensures.ok in
    added_serves (telling g.L.Disk.tells g.L.Disk.faults g.L.Disk.content g.L.Disk.may_leave g.L.Disk.left_since) c.args.yard.now c.add_as.new.yard c.args.name.now c.args.image c.in-Ok.named.file c.in-Ok-number_for.num c.in-Ok.named.found.now
    c.args.session.now (reply_of c.add_as.new.session c.add_as.result) c.add_as.new.session named.number named.found
    (ap (λ (i : List ℕ). add_refusal i c.in-Ok.named.found.now) (sym c.as_slice.ensures) ∙ c.in-Ok-number_for.ensures.fine) c.add_as.ensures.serves
