use Rattle.std.proofs.Common.{sym, ap, ◌∙◌}
use Rattle.ct_isam.specs.declared.session.Seat.{Seat}
use Rattle.ct_isam.proofs.Seats.{found_seat, no_seat}
use Rattle.ct_isam.proofs.session.Session.current.Goals as goal

pub returns-in-Some : goal.returns-in-Some
returns-in-Some c = c.as_ref.ensures.value ∙ ap (λ (s : Seat). s.current) (sym (found_seat c.args.file c.args.self.now c.in-Some.seat.now (sym c.in-Some.ensures)))

pub returns-in-None : goal.returns-in-None
returns-in-None c = ap (λ (s : Seat). s.current) (sym (no_seat c.args.file c.args.self.now (sym c.in-None.ensures)))
