use Rattle.std.proofs.Common.{◌<◌, length, rules, arith, vec_capacity}
use Rattle.std.proofs.lemmas.List.{get_or_default}
use Rattle.ct_tree.proofs.Lists.{SoFar-next, may_still}
use Rattle.ct_tree.proofs.schedule.run.Goals as goal

pub loop-place-preserved : goal.loop-place-preserved
loop-place-preserved g c =
    let within : c.loop-place.place-index < length c.args.schedule.now = omega arith in
    SoFar-next _ c.args.programs.now c.loop-place.programs c.turn_at-answer.new.programs c.args.schedule.now c.loop-place.place-index c.loop-place.happened.items c.push_reserved.new.self.items (vec_capacity c.loop-place.happened) (vec_capacity c.push_reserved.new.self) (g.N.Nodes.sound c.args.nodes.now) (g.N.Nodes.sound c.loop-place.nodes) (g.N.Nodes.sound c.turn_at-answer.new.nodes) (g.N.Nodes.world c.args.nodes.now) (g.N.Nodes.world c.loop-place.nodes) (g.N.Nodes.world c.turn_at-answer.new.nodes)
    c.push_reserved.ensures.items c.loop-place.invariant c.push_reserved.ensures.capacity within (search (rules, get_or_default))
    c.turn_at-answer.ensures.stands c.turn_at-answer.ensures.numbers c.turn_at-answer.ensures.tasks c.turn_at-answer.ensures.ready c.turn_at-answer.ensures.marks c.turn_at-answer.ensures.happens

pub turn_at-answer-requires-clause-marks : goal.turn_at-answer-requires-clause-marks
turn_at-answer-requires-clause-marks g c any = may_still (g.N.Nodes.allows any) c.args.programs.now c.loop-place.programs c.loop-place.invariant.numbers c.loop-place.invariant.marks c.loop-place.invariant.tasks (c.requires.marks any)
