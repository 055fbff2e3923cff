use Rattle.std.proofs.Common.{vec_capacity}
use Rattle.ct_tree.proofs.Lists.{SoFar}
use Rattle.ct_tree.proofs.schedule.run.Given as goal

abbrev pub invariant-loop-place : goal.invariant-loop-place
invariant-loop-place g l = SoFar l.initial.programs l.programs l.schedule l.place-index l.happened.items (vec_capacity l.happened) (g.N.Nodes.sound l.initial.nodes) (g.N.Nodes.sound l.nodes) (g.N.Nodes.world l.initial.nodes) (g.N.Nodes.world l.nodes)
