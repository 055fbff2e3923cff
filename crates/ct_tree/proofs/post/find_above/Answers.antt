use Rattle.std.proofs.Common.{◌≡◌, ◌∙◌, Some, refl, sym, subst, inl, inr}
use Rattle.ct_definitions.specs.Pairs.{Pair}
use Rattle.ct_node.specs.declared.target.Target.TheVariants.{At}
use Rattle.ct_node.specs.declared.target.Place.TheVariants as place
use Rattle.ct_node.specs.Places.{next_place}
use Rattle.ct_tree_laws.specs.declared.walk.Stage.TheVariants as stage
use Rattle.ct_tree_laws.specs.declared.rise.Separator.{Separator}
use Rattle.ct_tree_laws.specs.declared.rise.Rise.TheVariants as rise
use Rattle.ct_tree_laws.specs.Stands.{Stands}
use Rattle.ct_tree_laws.proofs.PostingTurns.{way_right, way_down, way_ends, way_stepped, way_bad}
use Rattle.ct_tree.proofs.OneTurn.{not_itself_right, not_itself_down, goes_right, goes_down}
use Rattle.ct_tree.proofs.Counting.{no_way_back}
use Rattle.ct_node.specs.Worlds.{with_lost}
use Rattle.ct_tree.proofs.post.find_above.Goals as goal

pub returns-in-Right-clause-turned : goal.returns-in-Right-clause-turned
returns-in-Right-clause-turned g c = λ lost sound stands. (
  (sound),
  (let w = with_lost lost (g.N.Nodes.world c.args.nodes.now) in
      let node = c.node-node.result.now in
      let on : place.Right c.in-Right.right ≡ next_place node (At c.args.separator.low) = sym c.in-Right.is ∙ c.place_of-place.ensures.place in
      let to : Pair → Separator = λ low. record { low = low; child = c.args.separator.child; left = c.args.separator.left } in
      let stands = way_right c.args.walk.now c.args.separator c.args.page c.args.above node c.in-Right.right w stands c.node-node.ensures on in
      way_stepped c.args.walk.now c.args.separator c.args.page c.args.above c.on_way.result w w refl
      (c.on_way.ensures.stands c.args.walk.now w (subst (λ low. Stands c.args.walk.now (stage.Post (to low) (rise.Down c.in-Right.right c.args.above)) w) (sym c.place_of-place.ensures.pair) stands))),
  (λ at keys chain. chain),
)

pub returns-in-Down-clause-turned : goal.returns-in-Down-clause-turned
returns-in-Down-clause-turned g c = λ lost sound stands. (
  (sound),
  (let w = with_lost lost (g.N.Nodes.world c.args.nodes.now) in
      let node = c.node-node.result.now in
      let on : place.Down c.in-Down.below ≡ next_place node (At c.args.separator.low) = sym c.in-Down.is ∙ c.place_of-place.ensures.place in
      let to : Pair → Separator = λ low. record { low = low; child = c.args.separator.child; left = c.args.separator.left } in
      let stands = way_down c.args.walk.now c.args.separator c.args.page c.args.above node c.in-Down.below w stands c.node-node.ensures on in
      way_stepped c.args.walk.now c.args.separator c.args.page c.args.above c.on_way-in-Down.result w w refl
      (c.on_way-in-Down.ensures.stands c.args.walk.now w (subst (λ low. Stands c.args.walk.now (stage.Post (to low) (rise.Down c.in-Down.below (Some c.args.page))) w) (sym c.place_of-place.ensures.pair) stands))),
  (λ at keys chain. chain),
)

pub returns-in-Here-clause-turned : goal.returns-in-Here-clause-turned
returns-in-Here-clause-turned g c = λ lost sound stands. (
  (sound),
  (let w = with_lost lost (g.N.Nodes.world c.args.nodes.now) in
      way_stepped c.args.walk.now c.args.separator c.args.page c.args.above stage.Start w w refl (way_ends c.args.walk.now c.args.separator c.args.page c.args.above w stands)),
  (λ at keys chain. chain),
)

pub returns-then-leaf-clause-turned : goal.returns-then-leaf-clause-turned
returns-then-leaf-clause-turned g c = λ lost sound stands. (
  (sound),
  (let w = with_lost lost (g.N.Nodes.world c.args.nodes.now) in
      way_stepped c.args.walk.now c.args.separator c.args.page c.args.above stage.Start w w refl (way_ends c.args.walk.now c.args.separator c.args.page c.args.above w stands)),
  (λ at keys chain. chain),
)

pub returns-in-Here-clause-rule : goal.returns-in-Here-clause-rule
returns-in-Here-clause-rule g c = inr (refl, inl refl)

pub returns-then-leaf-clause-rule : goal.returns-then-leaf-clause-rule
returns-then-leaf-clause-rule g c = inr (refl, inl refl)

pub returns-in-Right-clause-rule : goal.returns-in-Right-clause-rule
returns-in-Right-clause-rule g c =
    let w = g.N.Nodes.world c.args.nodes.now in
    inr (goes_right c.args.walk.now c.args.separator c.place_of-place.result.1 c.args.page c.in-Right.right c.args.above w c.on_way.result c.place_of-place.ensures.pair
    (not_itself_right c.args.page c.in-Right.right c.place_of-place.result.0 (cc) c.in-Right.is) (c.node-node.result.now, c.node-node.ensures, sym c.place_of-place.ensures.place ∙ c.in-Right.is) c.on_way.ensures.goes)

pub returns-in-Down-clause-rule : goal.returns-in-Down-clause-rule
returns-in-Down-clause-rule g c =
    let w = g.N.Nodes.world c.args.nodes.now in
    inr (goes_down c.args.walk.now c.args.separator c.place_of-place.result.1 c.args.page c.in-Down.below c.args.above w c.on_way-in-Down.result c.place_of-place.ensures.pair
    (not_itself_down c.args.page c.in-Down.below c.place_of-place.result.0 (cc) c.in-Down.is) (c.node-node.result.now, c.node-node.ensures, sym c.place_of-place.ensures.place ∙ c.in-Down.is) c.on_way-in-Down.ensures.goes)

pub returns-in-End-clause-turned : goal.returns-in-End-clause-turned
returns-in-End-clause-turned g c = λ lost sound stands. absurd (
    let w = with_lost lost (g.N.Nodes.world c.args.nodes.now) in
    let node = c.node-node.result.now in
    let on : place.End ≡ next_place node (At c.args.separator.low) = sym c.in-End.is ∙ c.place_of-place.ensures.place in
    way_bad c.args.walk.now c.args.separator c.args.page c.args.above node w w stands c.node-node.ensures refl on (cc))

pub returns-then-leads_to-clause-turned : goal.returns-then-leads_to-clause-turned
returns-then-leads_to-clause-turned g c = λ lost sound stands. absurd (
    let w = with_lost lost (g.N.Nodes.world c.args.nodes.now) in
    no_way_back w w c.args.walk.now.at (At c.args.separator.low) c.args.page c.node-node.result.now c.place_of-place.result.0 refl
    (let here = stands in (here.tree, here.leaves, here.is, here.place.1.1)) c.node-node.ensures (sym c.place_of-place.ensures.place) (cc))
