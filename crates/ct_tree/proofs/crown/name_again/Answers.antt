use Rattle.std.proofs.Common.{◌≡◌, refl, inl, inr}
use Rattle.ct_tree_laws.specs.declared.walk.Stage.TheVariants as stage
use Rattle.ct_tree_laws.specs.declared.rise.Rise.TheVariants as rise
use Rattle.ct_tree_laws.proofs.PostingCrowns.{root_still, root_other, named_tidy, named_freed_keys}
use Rattle.ct_tree.proofs.OneTurn.{visits, visits_free}
use Rattle.ct_node.specs.Worlds.{with_lost}
use Rattle.std.proofs.Common.{ap}
use Rattle.ct_tree_laws.proofs.Turns.{keys_same}
use Rattle.ct_tree.proofs.crown.name_again.Goals as goal

pub returns-then-page-separator-clause-turned : goal.returns-then-page-separator-clause-turned
returns-then-page-separator-clause-turned g c = λ lost sound stands. (
  (c.in-Done.ensures.sound lost sound),
  (let left : c.in-Done.page ≡ c.args.separator.left = cc in
      root_still c.args.walk.now c.args.separator c.in-Done.page (with_lost lost (g.N.Nodes.world c.args.nodes.now)) (with_lost lost (g.N.Nodes.world c.root.new.self)) stands (ap (with_lost lost) c.in-Done.ensures.world) left c.in-Done.ensures.seen),
  (keys_same (with_lost lost (g.N.Nodes.world c.args.nodes.now)) (with_lost lost (g.N.Nodes.world c.root.new.self)) (ap (with_lost lost) c.in-Done.ensures.world)),
)

pub returns-in-Done-clause-turned : goal.returns-in-Done-clause-turned
returns-in-Done-clause-turned g c = λ lost sound stands. (
  (c.free.ensures.sound lost (c.in-Done.ensures.sound lost sound)
      (named_tidy c.args.walk.now c.args.separator (with_lost lost (g.N.Nodes.world c.args.nodes.now)) (with_lost lost (g.N.Nodes.world c.root.new.self)) stands (ap (with_lost lost) c.in-Done.ensures.world))),
  (root_other c.args.walk.now c.args.separator c.in-Done.page (with_lost lost (g.N.Nodes.world c.args.nodes.now)) (with_lost lost (g.N.Nodes.world c.root.new.self)) (with_lost lost (g.N.Nodes.world c.free.new.self)) stands (ap (with_lost lost) c.in-Done.ensures.world) (ap (with_lost lost) c.free.ensures.world) c.in-Done.ensures.seen),
  (named_freed_keys c.args.walk.now (stage.Post c.args.separator rise.Named) c.args.walk.now.at.page (with_lost lost (g.N.Nodes.world c.args.nodes.now)) (with_lost lost (g.N.Nodes.world c.root.new.self)) (with_lost lost (g.N.Nodes.world c.free.new.self)) stands (ap (with_lost lost) c.in-Done.ensures.world) (ap (with_lost lost) c.free.ensures.world)),
)

pub returns-then-page-separator-clause-rule : goal.returns-then-page-separator-clause-rule
returns-then-page-separator-clause-rule g c = inr (visits (g.N.Nodes.world c.args.nodes.now) (g.N.Nodes.world c.root.new.self) c.in-Done.ensures.world, (c.in-Done.page, c.in-Done.ensures.seen, inl refl))

pub returns-in-Done-clause-rule : goal.returns-in-Done-clause-rule
returns-in-Done-clause-rule g c = inr (visits_free _ (g.N.Nodes.world c.args.nodes.now) (g.N.Nodes.world c.root.new.self) (g.N.Nodes.world c.free.new.self) c.in-Done.ensures.world c.free.ensures.world, (c.in-Done.page, c.in-Done.ensures.seen, inr refl))

pub returns-in-More-clause-rule : goal.returns-in-More-clause-rule
returns-in-More-clause-rule g c = inl (record { same = refl; world = c.in-More.ensures.world; less = c.in-More.ensures.left })
