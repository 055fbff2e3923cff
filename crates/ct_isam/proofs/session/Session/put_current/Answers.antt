use Rattle.std.proofs.Common.{Option, sym, ap, ◌∙◌}
use Rattle.ct_definitions.specs.declared.store.Row.{Row}
use Rattle.ct_isam.specs.declared.session.Seat.{Seat}
use Rattle.ct_isam.specs.Seats.{unused_seat}
use Rattle.ct_isam.specs.Undoing.{with_old}
use Rattle.ct_isam.proofs.Seats.{put_old, old_nowhere, nowhere}
use Rattle.ct_isam.proofs.session.Session.put_current.Goals as goal

pub returns-in_default : goal.returns-in_default
returns-in_default c =
    let d : Seat = unused_seat c.args.file in
    sym (old_nowhere c.args.file c.args.current c.args.self.now d (nowhere c.args.file c.args.self.now d (sym c.in_default.ensures)))

pub returns : goal.returns
returns c =
    put_old c.args.file c.replace-old.new.dest c.self.inside.seats.items c.args.self.now c.in-Some.place c.index_mut-seat.result.now (sym c.in-Some.ensures) (cc) (cc)
    ∙ ap (λ (o : Option Row). with_old c.args.file o c.args.self.now) c.replace-old.ensures.after
