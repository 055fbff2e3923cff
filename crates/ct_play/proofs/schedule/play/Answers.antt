use Rattle.std.proofs.Common.{List, ℕ, take, get_or, sym, subst, ◌∙◌}
use Rattle.std.proofs.lemmas.List.{take_more}
use Rattle.ct_lane.specs.Actors.{Plays}
use Rattle.ct_play.proofs.Turns.{own_numbers, plays_on}
use Rattle.ct_play.proofs.schedule.play.Goals as goal

pub turn_at-requires-clause-numbers : goal.turn_at-requires-clause-numbers
turn_at-requires-clause-numbers g c = own_numbers g.A.Actor.number c.args.actors.now c.loop-place.actors c.loop-place.invariant.0 c.requires.numbers

pub loop-place-preserved : goal.loop-place-preserved
loop-place-preserved g c = (
  c.turn_at.ensures.numbers ∙ c.loop-place.invariant.0,
  (λ fact all. let so = c.loop-place.invariant.1 fact all in c.turn_at.ensures.stands so.0 so.1),
  (λ fact all.
      let so = c.loop-place.invariant.1 fact all in
      let more = take_more c.args.schedule.now c.loop-place.place-index 0 c.loop-place-test.true in
      subst (λ (places : List ℕ). Plays g.A.Actor.makes places c.args.actors.now c.args.value.now c.turn_at.new.actors c.turn_at.new.value) (sym more)
      (plays_on g.A.Actor.makes (take c.loop-place.place-index c.args.schedule.now) (get_or c.args.schedule.now c.loop-place.place-index 0)
      c.args.actors.now c.loop-place.actors c.turn_at.new.actors c.args.value.now c.loop-place.value c.turn_at.new.value
      (c.loop-place.invariant.2 fact all) (c.turn_at.ensures.turned so.0 so.1))),
)
