use Rattle.ct_tree_laws.proofs.SplitTurns.{allocate_stepped, allocate_keys}
use Rattle.ct_node.specs.Worlds.{with_lost}
use Rattle.std.proofs.Common.{ap}
use Rattle.ct_tree.proofs.split.allocate.Goals as goal

pub returns-clause-turned : goal.returns-clause-turned
returns-clause-turned g c = λ lost sound stands. (
  (c.in-Done.ensures.sound lost sound),
  (allocate_stepped c.args.walk.now c.args.page c.in-Done.right (with_lost lost (g.N.Nodes.world c.args.nodes.now)) (with_lost lost (g.N.Nodes.world c.fresh.new.self)) stands c.in-Done.ensures.page (ap (with_lost lost) c.in-Done.ensures.world)),
  (allocate_keys c.args.walk.now c.args.page (with_lost lost (g.N.Nodes.world c.args.nodes.now)) (with_lost lost (g.N.Nodes.world c.fresh.new.self)) stands (ap (with_lost lost) c.in-Done.ensures.world)),
)
