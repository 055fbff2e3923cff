use Rattle.std.proofs.Common.{ℕ, List, Option, Some, sym, ap, ◌∙◌, subst}
use Rattle.ct_definitions.specs.declared.store.Row.{Row}
use Rattle.ct_isam.specs.Seats.{seat_of}
use Rattle.ct_isam.specs.Searches.{current_pair, next_in_set}
use Rattle.ct_isam.specs.Looking.{IsFoundBy}
use Rattle.ct_isam.proofs.Outcomes.{set_found}
use Rattle.ct_isam.proofs.searching.next_of_set.Goals as goal

pub returns-in-Ok : goal.returns-in-Ok
returns-in-Ok c =
    let seat = seat_of c.args.place.now.file c.args.session.now in
    set_found c.args.place.now.index seat.set c.in-Some.set.now (current_pair c.args.place.now.def.now seat.current) c.in-Ok.pair c.args.place.now.def.now c.args.place.now.found.now.records c.sought.result
    (sym c.in-Some.ensures) c.if-set-place.false (ap (λ (r : Option Row). current_pair c.args.place.now.def.now r) (sym c.current.ensures) ∙ c.in-Ok.ensures.ok)
    (subst (λ (front : List ℕ). IsFoundBy (Some (next_in_set front c.in-Ok.pair)) c.args.place.now.def.now c.args.place.now.found.now.records c.sought.result) c.as_slice.ensures c.sought.ensures)
