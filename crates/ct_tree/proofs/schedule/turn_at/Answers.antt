use Rattle.std.proofs.Common.{◌≡◌, ℕ, get_or, ap}
use Rattle.ct_node.specs.Worlds.{with_lost}
use Rattle.ct_tree.specs.Schedules.{task_of, op_of, mark_of}
use Rattle.ct_tree_laws.specs.declared.walk.Walk.{Walk}
use Rattle.ct_tree.proofs.Lists.{map-turned, turned_ready, turned_stand, happens_at}
use Rattle.ct_tree.proofs.schedule.turn_at.Goals as goal

pub returns-clause-stands : goal.returns-clause-stands
returns-clause-stands g c = λ lost sound stand.
    let p = get_or c.args.programs.now c.args.place c.index-programs-place.result in
    let one = stand c.args.place c.index-programs-place.result c.requires.place in
    let stepped = c.turn.ensures.stepped lost sound one in
    (stepped.0, turned_stand c.args.programs.now c.args.place p c.turn.new.program (with_lost lost (g.N.Nodes.world c.args.nodes.now)) (with_lost lost (g.N.Nodes.world c.turn.new.nodes)) c.requires.place (ap (get_or c.args.programs.now c.args.place) c.index-programs-place.is) c.requires.numbers c.turn.ensures.walk stepped.1 (c.turn.ensures.counted lost sound one) (c.turn.ensures.come lost sound one) stand)

pub returns-clause-numbers : goal.returns-clause-numbers
returns-clause-numbers g c = map-turned op_of c.args.programs.now c.args.place (get_or c.args.programs.now c.args.place c.index-programs-place.result) c.turn.new.program c.requires.place (ap (get_or c.args.programs.now c.args.place) c.index-programs-place.is) (ap (λ (walk : Walk). walk.op) c.turn.ensures.walk)

pub returns-clause-tasks : goal.returns-clause-tasks
returns-clause-tasks g c = map-turned task_of c.args.programs.now c.args.place (get_or c.args.programs.now c.args.place c.index-programs-place.result) c.turn.new.program c.requires.place (ap (get_or c.args.programs.now c.args.place) c.index-programs-place.is) c.turn.ensures.task

pub returns-clause-ready : goal.returns-clause-ready
returns-clause-ready g c = turned_ready c.args.programs.now c.args.place c.turn.new.program c.requires.place c.turn.ensures.ready c.requires.ready

pub returns-clause-marks : goal.returns-clause-marks
returns-clause-marks g c = map-turned mark_of c.args.programs.now c.args.place (get_or c.args.programs.now c.args.place c.index-programs-place.result) c.turn.new.program c.requires.place (ap (get_or c.args.programs.now c.args.place) c.index-programs-place.is) c.turn.ensures.mark

pub returns-clause-happens : goal.returns-clause-happens
returns-clause-happens g c = λ lost sound stand. happens_at c.args.programs.now c.args.place (get_or c.args.programs.now c.args.place c.index-programs-place.result) c.turn.result (with_lost lost (g.N.Nodes.world c.args.nodes.now)) (with_lost lost (g.N.Nodes.world c.turn.new.nodes)) c.requires.place (ap (get_or c.args.programs.now c.args.place) c.index-programs-place.is) (c.turn.ensures.happens lost sound (stand c.args.place c.index-programs-place.result c.requires.place))

pub turn-requires-clause-mark : goal.turn-requires-clause-mark
turn-requires-clause-mark g c = c.requires.marks c.args.nodes.now c.args.place c.index-programs-place.result c.requires.place
