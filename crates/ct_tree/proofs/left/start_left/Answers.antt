use Rattle.std.proofs.Common.{refl, inl, inr}
use Rattle.ct_tree_laws.proofs.LeftTurns.{left_rooted}
use Rattle.ct_tree.proofs.OneTurn.{visits}
use Rattle.ct_node.specs.Worlds.{with_lost}
use Rattle.std.proofs.Common.{ap}
use Rattle.ct_tree_laws.proofs.Turns.{keys_same}
use Rattle.ct_tree.proofs.left.start_left.Goals as goal

pub returns-in-Done-clause-turned : goal.returns-in-Done-clause-turned
returns-in-Done-clause-turned g c = λ lost sound stands. (
  (c.in-Done.ensures.sound lost sound),
  (let seen = c.in-Done.ensures.seen in
      left_rooted c.args.walk.now c.args.low c.args.or_at seen.0 c.in-Done.page (with_lost lost (g.N.Nodes.world c.args.nodes.now)) (with_lost lost (g.N.Nodes.world c.root.new.self)) stands (ap (with_lost lost) c.in-Done.ensures.world) seen.1 seen.2),
  (keys_same (with_lost lost (g.N.Nodes.world c.args.nodes.now)) (with_lost lost (g.N.Nodes.world c.root.new.self)) (ap (with_lost lost) c.in-Done.ensures.world)),
)

pub returns-in-Done-clause-rule : goal.returns-in-Done-clause-rule
returns-in-Done-clause-rule g c = inr (visits (g.N.Nodes.world c.args.nodes.now) (g.N.Nodes.world c.root.new.self) c.in-Done.ensures.world, (c.in-Done.page, c.in-Done.ensures.seen, refl))

pub returns-in-More-clause-rule : goal.returns-in-More-clause-rule
returns-in-More-clause-rule g c = inl (record { same = refl; world = c.in-More.ensures.world; less = c.in-More.ensures.left })
