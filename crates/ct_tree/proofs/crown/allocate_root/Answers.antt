use Rattle.std.proofs.Common.{refl, inl, inr, ap}
use Rattle.ct_tree_laws.specs.declared.walk.Stage.TheVariants as stage
use Rattle.ct_tree_laws.specs.declared.rise.Rise.TheVariants as rise
use Rattle.ct_tree_laws.proofs.PostingCrowns.{root_allocated}
use Rattle.ct_tree_laws.proofs.PostingSplits.{above_allocated_keys}
use Rattle.ct_node.specs.Worlds.{World}
use Rattle.ct_node.specs.Worlds.{with_lost}
use Rattle.ct_tree.proofs.crown.allocate_root.Goals as goal

pub returns-in-Done-clause-turned : goal.returns-in-Done-clause-turned
returns-in-Done-clause-turned g c = λ lost sound stands. (
  (c.in-Done.ensures.sound lost sound),
  (root_allocated c.args.walk.now c.args.separator c.in-Done.root (with_lost lost (g.N.Nodes.world c.args.nodes.now)) (with_lost lost (g.N.Nodes.world c.fresh.new.self)) stands c.in-Done.ensures.page (ap (with_lost lost) c.in-Done.ensures.world)),
  (above_allocated_keys c.args.walk.now (stage.Post c.args.separator rise.Grow) (with_lost lost (g.N.Nodes.world c.args.nodes.now)) (with_lost lost (g.N.Nodes.world c.fresh.new.self)) stands (ap (with_lost lost) c.in-Done.ensures.world)),
)

pub returns-in-Done-clause-rule : goal.returns-in-Done-clause-rule
returns-in-Done-clause-rule g c = inr (ap (λ (v : World). v.pages) c.in-Done.ensures.world, ap (λ root. stage.Post c.args.separator (rise.Crown root)) c.in-Done.ensures.page)

pub returns-in-More-clause-rule : goal.returns-in-More-clause-rule
returns-in-More-clause-rule g c = inl (record { same = refl; world = c.in-More.ensures.world; less = c.in-More.ensures.left })
