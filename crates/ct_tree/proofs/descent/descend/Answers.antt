use Rattle.std.proofs.Common.{refl, sym, ◌∙◌}
use Rattle.ct_node.specs.declared.target.Place.TheVariants.{Right, Down}
use Rattle.ct_tree_laws.proofs.Turns.{descend_right, descend_down, descend_bad}
use Rattle.ct_tree.proofs.Counting.{no_way_back}
use Rattle.ct_tree.proofs.Onward.{goes_right, goes_down, goes_nowhere, leads_right, leads_down}
use Rattle.ct_node.specs.Worlds.{with_lost}
use Rattle.ct_tree.proofs.descent.descend.Goals as goal

pub returns-then-is_past-clause-turned : goal.returns-then-is_past-clause-turned
returns-then-is_past-clause-turned g c = λ lost sound stands. (
  (sound),
  (let w = with_lost lost (g.N.Nodes.world c.args.nodes.now) in
      let node = c.node-node.result.now in
      descend_right c.args.walk.now c.args.page node c.right-right.result w w stands c.node-node.ensures refl
      (goes_right node c.args.walk.now.target c.right-right.result (sym c.is_past.ensures ∙ c.if-is_past.true) c.right-right.ensures)),
  (λ at keys chain. chain),
)

pub returns-clause-turned : goal.returns-clause-turned
returns-clause-turned g c = λ lost sound stands. (
  (sound),
  (let w = with_lost lost (g.N.Nodes.world c.args.nodes.now) in
      let node = c.node-node.result.now in
      descend_down c.args.walk.now c.args.page node c.in-Some.below w w stands c.node-node.ensures refl
      (goes_down node c.args.walk.now.target c.place_below-place.result c.in-Some.below (sym c.is_past.ensures ∙ c.if-is_past.false) (sym c.is_leaf.ensures ∙ c.if-is_leaf.false) c.place_below-place.ensures (sym c.in-Some.is ∙ c.child.ensures))),
  (λ at keys chain. chain),
)

pub returns-then-right-page-clause-turned : goal.returns-then-right-page-clause-turned
returns-then-right-page-clause-turned g c = λ lost sound stands. absurd (
    let w = with_lost lost (g.N.Nodes.world c.args.nodes.now) in
    let node = c.node-node.result.now in
    no_way_back w w c.args.walk.now.at c.args.walk.now.target c.args.page node (Right c.right-right.result) refl (let here = stands in (here.tree, here.leaves, here.is, here.place.1)) c.node-node.ensures
    (sym (goes_right node c.args.walk.now.target c.right-right.result (sym c.is_past.ensures ∙ c.if-is_past.true) c.right-right.ensures)) (leads_right c.args.page c.right-right.result c.if-right-page.true))

pub returns-in_default-clause-turned : goal.returns-in_default-clause-turned
returns-in_default-clause-turned g c = λ lost sound stands. absurd (
    let w = with_lost lost (g.N.Nodes.world c.args.nodes.now) in
    let node = c.node-node.result.now in
    descend_bad c.args.walk.now c.args.page node w w stands c.node-node.ensures refl
    (goes_nowhere node c.args.walk.now.target c.place_below-place.result (sym c.is_past.ensures ∙ c.if-is_past.false) (sym c.is_leaf.ensures ∙ c.if-is_leaf.false) c.place_below-place.ensures (sym c.in_default.is ∙ c.child.ensures))
    (sym c.is_leaf.ensures ∙ c.if-is_leaf.false))

pub returns-then-below-page-clause-turned : goal.returns-then-below-page-clause-turned
returns-then-below-page-clause-turned g c = λ lost sound stands. absurd (
    let w = with_lost lost (g.N.Nodes.world c.args.nodes.now) in
    let node = c.node-node.result.now in
    no_way_back w w c.args.walk.now.at c.args.walk.now.target c.args.page node (Down c.in-Some.below) refl (let here = stands in (here.tree, here.leaves, here.is, here.place.1)) c.node-node.ensures
    (sym (goes_down node c.args.walk.now.target c.place_below-place.result c.in-Some.below (sym c.is_past.ensures ∙ c.if-is_past.false) (sym c.is_leaf.ensures ∙ c.if-is_leaf.false) c.place_below-place.ensures (sym c.in-Some.is ∙ c.child.ensures))) (leads_down c.args.page c.in-Some.below c.if-below-page.true))
