use Rattle.std.proofs.Common.{sym, ◌∙◌, subst, refl}
use Rattle.ct_definitions.specs.Pairs.{Pair}
use Rattle.ct_tree_laws.specs.declared.walk.Stage.TheVariants as stage
use Rattle.ct_tree_laws.specs.declared.left.Way.TheVariants as way
use Rattle.ct_tree_laws.specs.Stands.{Stepped}
use Rattle.ct_tree_laws.proofs.LeftTurns.{left_down_right, left_down_down, left_down_here, left_down_end, left_down_bad}
use Rattle.ct_tree.proofs.Counting.{no_way_back}
use Rattle.ct_node.specs.declared.target.Target.TheVariants.{Before}
use Rattle.ct_node.specs.Worlds.{with_lost}
use Rattle.ct_tree.proofs.left.descend_left.Goals as goal

pub returns-in-Right-clause-turned : goal.returns-in-Right-clause-turned
returns-in-Right-clause-turned g c = λ lost sound stands. (
  (sound),
  (let w = with_lost lost (g.N.Nodes.world c.args.nodes.now) in
      let node = c.node-node.result.now in
      subst (λ (low : Pair). Stepped c.args.walk.now (stage.Left low c.args.or_at (way.Down c.in-Right.right)) w w) (sym c.next_before-place.ensures.low)
      (left_down_right c.args.walk.now c.args.low c.args.or_at c.args.page node c.in-Right.right w w stands c.node-node.ensures refl (sym c.in-Right.is ∙ c.next_before-place.ensures.place))),
  (λ at keys chain. chain),
)

pub returns-in-Down-clause-turned : goal.returns-in-Down-clause-turned
returns-in-Down-clause-turned g c = λ lost sound stands. (
  (sound),
  (let w = with_lost lost (g.N.Nodes.world c.args.nodes.now) in
      let node = c.node-node.result.now in
      subst (λ (low : Pair). Stepped c.args.walk.now (stage.Left low c.args.or_at (way.Down c.in-Down.below)) w w) (sym c.next_before-place.ensures.low)
      (left_down_down c.args.walk.now c.args.low c.args.or_at c.args.page node c.in-Down.below w w stands c.node-node.ensures refl (sym c.in-Down.is ∙ c.next_before-place.ensures.place))),
  (λ at keys chain. chain),
)

pub returns-in-Here-clause-turned : goal.returns-in-Here-clause-turned
returns-in-Here-clause-turned g c = λ lost sound stands. (
  (sound),
  (let w = with_lost lost (g.N.Nodes.world c.args.nodes.now) in
      let node = c.node-node.result.now in
      subst (λ (low : Pair). Stepped c.args.walk.now (stage.Left low c.args.or_at (way.Leaf c.args.page)) w w) (sym c.next_before-place.ensures.low)
      (left_down_here c.args.walk.now c.args.low c.args.or_at c.args.page node c.in-Here.field-0 w w stands c.node-node.ensures refl (sym c.in-Here.is ∙ c.next_before-place.ensures.place))),
  (λ at keys chain. chain),
)

pub returns-then-leaf-clause-turned : goal.returns-then-leaf-clause-turned
returns-then-leaf-clause-turned g c = λ lost sound stands. (
  (sound),
  (let w = with_lost lost (g.N.Nodes.world c.args.nodes.now) in
      let node = c.node-node.result.now in
      subst (λ (low : Pair). Stepped c.args.walk.now (stage.Left low c.args.or_at (way.Leaf c.args.page)) w w) (sym c.next_before-place.ensures.low)
      (left_down_end c.args.walk.now c.args.low c.args.or_at c.args.page node w w stands c.node-node.ensures refl (cc))),
  (λ at keys chain. chain),
)

pub returns-in-End-clause-turned : goal.returns-in-End-clause-turned
returns-in-End-clause-turned g c = λ lost sound stands. absurd (
    let w = with_lost lost (g.N.Nodes.world c.args.nodes.now) in
    let node = c.node-node.result.now in
    left_down_bad c.args.walk.now c.args.low c.args.or_at c.args.page node w w stands c.node-node.ensures refl (sym c.in-End.is ∙ c.next_before-place.ensures.place) (cc))

pub returns-then-leads_to-clause-turned : goal.returns-then-leads_to-clause-turned
returns-then-leads_to-clause-turned g c = λ lost sound stands. absurd (
    no_way_back (with_lost lost (g.N.Nodes.world c.args.nodes.now)) (with_lost lost (g.N.Nodes.world c.args.nodes.now)) c.args.walk.now.at (Before c.args.low) c.args.page c.node-node.result.now c.next_before-place.result.0 refl (let here = stands in (here.tree, here.leaves, here.is, here.place.2)) c.node-node.ensures (sym c.next_before-place.ensures.place) (cc))
