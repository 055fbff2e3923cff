use Rattle.std.proofs.Common.{◌≡◌, true, refl, sym, ap, ◌∙◌}
use Rattle.ct_node.specs.Worlds.{Holds, page_at}
use Rattle.ct_tree_laws.specs.declared.walk.Stage.TheVariants as stage
use Rattle.ct_tree_laws.proofs.PutTurns.{held_right, freed_keys}
use Rattle.ct_tree.proofs.Counting.{no_right_back}
use Rattle.ct_tree.proofs.Onward.{goes_right}
use Rattle.ct_node.specs.Worlds.{with_lost}
use Rattle.ct_tree.proofs.take.take_held.Goals as goal

pub returns-then-is_past-clause-turned : goal.returns-then-is_past-clause-turned
returns-then-is_past-clause-turned g c = λ lost sound stands. (
  (c.free.ensures.sound lost (sound)
      (stands.place.0)),
  (let w = with_lost lost (g.N.Nodes.world c.args.nodes.now) in
      let node = c.copy_into.new.into in
      let seen : page_at w c.args.page ≡ Holds node = c.node.ensures ∙ ap Holds (sym c.copy_into.ensures) in
      held_right c.args.walk.now c.args.page node c.right-right.result w w (with_lost lost (g.N.Nodes.world c.free.new.self)) stands seen refl (ap (with_lost lost) c.free.ensures.world)
      (goes_right node c.args.walk.now.target c.right-right.result (sym c.is_past.ensures ∙ c.if-is_past.true) c.right-right.ensures)),
  (let w = with_lost lost (g.N.Nodes.world c.args.nodes.now) in
      freed_keys c.args.walk.now (stage.Held c.args.page) c.args.page w w (with_lost lost (g.N.Nodes.world c.free.new.self)) stands refl (ap (with_lost lost) c.free.ensures.world)),
)

pub returns-then-right-page-clause-turned : goal.returns-then-right-page-clause-turned
returns-then-right-page-clause-turned g c = λ lost sound stands. absurd (
    let w = with_lost lost (g.N.Nodes.world c.args.nodes.now) in
    let node = c.copy_into.new.into in
    let seen : page_at w c.args.page ≡ Holds node = c.node.ensures ∙ ap Holds (sym c.copy_into.ensures) in
    no_right_back w w c.args.walk.now.at true c.args.walk.now.target c.args.page c.right-right.result node refl (let here = stands in (here.tree, here.leaves, here.is, here.place.1.0, here.place.1.1)) seen
    (goes_right node c.args.walk.now.target c.right-right.result (sym c.is_past.ensures ∙ c.if-is_past.true) c.right-right.ensures) c.if-right-page.true)
