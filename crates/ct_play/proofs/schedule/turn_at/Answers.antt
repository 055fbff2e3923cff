use Rattle.std.proofs.Common.{get_or, refl}
use Rattle.std.proofs.lemmas.Option.{slice_get-get_or}
use Rattle.ct_play.proofs.Turns.{numbers_stay, all_stand}
use Rattle.ct_play.proofs.schedule.turn_at.Goals as goal

pub returns-clause-numbers : goal.returns-clause-numbers
returns-clause-numbers g c =
    let old = get_or c.args.actors.now c.args.place c.index-actors-place.result in
    let at = slice_get-get_or c.args.actors.now c.args.place c.index-actors-place.result c.requires.place in
    numbers_stay g.A.Actor.number c.args.actors.now c.args.place old c.turn-answer.new.self at c.turn-answer.ensures.number

pub returns-clause-stands : goal.returns-clause-stands
returns-clause-stands g c = λ fact all.
    let old = get_or c.args.actors.now c.args.place c.index-actors-place.result in
    let at = slice_get-get_or c.args.actors.now c.args.place c.index-actors-place.result c.requires.place in
    let here = all c.args.place old at in
    let both = c.turn-answer.ensures.stands fact here in (
      both.0,
      all_stand g.A.Actor.stands g.A.Actor.number c.args.actors.now c.args.place old c.turn-answer.new.self c.args.value.now c.turn-answer.new.value
          c.requires.place at c.requires.numbers all both.1 (c.turn-answer.ensures.keeps fact here),
    )

pub returns-clause-turned : goal.returns-clause-turned
returns-clause-turned g c = λ fact all.
    let old = get_or c.args.actors.now c.args.place c.index-actors-place.result in
    let at = slice_get-get_or c.args.actors.now c.args.place c.index-actors-place.result c.requires.place in
    record { before = old; after = c.turn-answer.new.self; answer = c.turn-answer.result; was = at; is = refl; makes_step = c.turn-answer.ensures.makes fact (all c.args.place old at) }
