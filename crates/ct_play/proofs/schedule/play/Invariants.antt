-- The turns so far: numbers are as they were, and where all stood at first, all stand, and the turns were made one after another.
use Rattle.std.proofs.Common.{◌≡◌, map, take}
use Rattle.ct_lane.specs.Actors.{AllStand, Plays}
use Rattle.ct_play.proofs.schedule.play.Given as goal

abbrev pub invariant-loop-place : goal.invariant-loop-place
invariant-loop-place g l =
    (map g.A.Actor.number l.actors ≡ map g.A.Actor.number l.initial.actors)
    × (g.A.Actor.fact l.initial.value → AllStand g.A.Actor.stands l.initial.actors l.initial.value → g.A.Actor.fact l.value × AllStand g.A.Actor.stands l.actors l.value)
    × (g.A.Actor.fact l.initial.value → AllStand g.A.Actor.stands l.initial.actors l.initial.value → Plays g.A.Actor.makes (take l.place-index l.schedule) l.initial.actors l.initial.value l.actors l.value)
