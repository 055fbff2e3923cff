use Rattle.std.proofs.Common.{◌≡◌, ◌-◌, suc, length, sym, refl, arith, ◌∙◌, subst, false}
use Rattle.std.proofs.lemmas.List.{length-map}
use Rattle.ct_definitions.specs.Pairs.{Pair}
use Rattle.ct_node.specs.Nodes.{pairs_in, pair_in}
use Rattle.ct_node.specs.Places.{is_ahead, begins_below}
use Rattle.ct_tree_laws.specs.declared.walk.Stage.TheVariants as stage
use Rattle.ct_tree_laws.specs.declared.left.Way.TheVariants as way
use Rattle.ct_tree_laws.specs.Stands.{Stepped}
use Rattle.ct_tree_laws.proofs.PutTurns.{freed_keys}
use Rattle.ct_tree_laws.proofs.LeftLists.{prefix_short}
use Rattle.ct_tree_laws.proofs.LeftTurns.{left_next_past, left_next_on}
use Rattle.ct_tree_laws.proofs.LeftFinds.{left_next_some, left_next_none}
use Rattle.ct_tree_laws.proofs.Turns.{stays}
use Rattle.ct_tree.proofs.Counting.{begins_lower}
use Rattle.ct_node.specs.Worlds.{with_lost}
use Rattle.std.proofs.Common.{ap}
use Rattle.ct_tree.proofs.left.look_left.Goals as goal

pub returns-in-Right-clause-turned : goal.returns-in-Right-clause-turned
returns-in-Right-clause-turned g c = λ lost sound stands. (
  (c.free.ensures.sound lost (sound)
      (stands.place.0)),
  (let w = with_lost lost (g.N.Nodes.world c.args.nodes.now) in
      let node = c.node-node.result.now in
      subst (λ (low : Pair). Stepped c.args.walk.now (stage.Left low c.args.or_at (way.Down c.in-Right.right)) w (with_lost lost (g.N.Nodes.world c.free.new.self))) (sym c.next_before-place.ensures.low)
      (left_next_past c.args.walk.now c.args.low c.args.or_at c.args.page node c.in-Right.right w w (with_lost lost (g.N.Nodes.world c.free.new.self)) stands
      c.node-node.ensures refl (ap (with_lost lost) c.free.ensures.world) (sym c.in-Right.is ∙ c.next_before-place.ensures.place))),
  (freed_keys c.args.walk.now (stage.Left c.args.low c.args.or_at (way.Shared c.args.page)) c.args.page (with_lost lost (g.N.Nodes.world c.args.nodes.now)) (with_lost lost (g.N.Nodes.world c.args.nodes.now)) (with_lost lost (g.N.Nodes.world c.free.new.self)) stands refl (ap (with_lost lost) c.free.ensures.world)),
)

pub pair-pair-requires : goal.pair-pair-requires
pair-pair-requires g c =
    let node = c.node-node.result.now in
    let short = prefix_short (is_ahead c.args.or_at c.args.walk.now.target) (pairs_in node) in
    let count : length (pairs_in node) ≡ length node.entries = length-map node.entries pair_in in
    let place = c.count_ahead-before.ensures in
    omega arith

pub returns-then-before-gt0-clause-turned : goal.returns-then-before-gt0-clause-turned
returns-then-before-gt0-clause-turned g c = λ lost sound stands. (
  (sound),
  (let w = with_lost lost (g.N.Nodes.world c.args.nodes.now) in
      subst (λ (low : Pair). Stepped c.args.walk.now (stage.Left low c.args.or_at (way.Shared c.args.page)) w w) (sym c.next_before-place.ensures.low) (stays c.args.walk.now (stage.Left c.args.low c.args.or_at (way.Shared c.args.page)) w w refl stands)),
  (λ at keys chain. chain),
)

pub returns-then-before-gt0-clause-found : goal.returns-then-before-gt0-clause-found
returns-then-before-gt0-clause-found g c = λ lost sound stands.
    let w = with_lost lost (g.N.Nodes.world c.args.nodes.now) in
    let node = c.node-node.result.now in
    let is = c.node-node.ensures in
    let before : c.count_ahead-before.result ≡ suc (c.count_ahead-before.result - 1) = omega arith in
    λ keys chain. sym (left_next_some c.args.walk.now c.args.low c.args.or_at c.args.page node (c.count_ahead-before.result - 1) c.pair-pair.result w is (λ q one. c.in_default.not-Right q (c.next_before-place.ensures.place ∙ one)) (sym c.count_ahead-before.ensures ∙ before) c.pair-pair.ensures stands keys chain)

pub returns-in-Some-clause-turned : goal.returns-in-Some-clause-turned
returns-in-Some-clause-turned g c = λ lost sound stands. (
  (sound),
  (let w = with_lost lost (g.N.Nodes.world c.args.nodes.now) in
      let node = c.node-node.result.now in
      let is = c.node-node.ensures in
      let none : c.count_ahead-before.result ≡ 0 = omega arith in
      left_next_on c.args.walk.now c.args.low c.args.or_at c.args.page node c.in-Some.next w w stands is refl (λ q one. c.in_default.not-Right q (c.next_before-place.ensures.place ∙ one)) (sym c.count_ahead-before.ensures ∙ none) (sym c.low.ensures ∙ c.in-Some.is)),
  (λ at keys chain. chain),
)

pub returns-in-None-clause-turned : goal.returns-in-None-clause-turned
returns-in-None-clause-turned g c = λ lost sound stands. (
  (sound),
  (let w = with_lost lost (g.N.Nodes.world c.args.nodes.now) in
      subst (λ (low : Pair). Stepped c.args.walk.now (stage.Left low c.args.or_at (way.Shared c.args.page)) w w) (sym c.next_before-place.ensures.low) (stays c.args.walk.now (stage.Left c.args.low c.args.or_at (way.Shared c.args.page)) w w refl stands)),
  (λ at keys chain. chain),
)

pub returns-in-None-clause-found : goal.returns-in-None-clause-found
returns-in-None-clause-found g c = λ lost sound stands.
    let w = with_lost lost (g.N.Nodes.world c.args.nodes.now) in
    let node = c.node-node.result.now in
    let is = c.node-node.ensures in
    let none : c.count_ahead-before.result ≡ 0 = omega arith in
    λ keys chain. sym (left_next_none c.args.walk.now c.args.low c.args.or_at c.args.page node w is (λ q one. c.in_default.not-Right q (c.next_before-place.ensures.place ∙ one)) (sym c.count_ahead-before.ensures ∙ none) (sym c.low.ensures ∙ c.in-None.is) stands keys chain)

pub returns-then-not-begins_below-clause-turned : goal.returns-then-not-begins_below-clause-turned
returns-then-not-begins_below-clause-turned g c = λ lost sound stands. absurd (
    begins_lower c.args.walk.now (with_lost lost (g.N.Nodes.world c.args.nodes.now)) (with_lost lost (g.N.Nodes.world c.args.nodes.now)) c.args.low c.args.or_at c.args.page c.node-node.result.now stands refl c.node-node.ensures (subst (λ (low : Pair). begins_below c.node-node.result.now.low low ≡ false) c.next_before-place.ensures.low (cc)))
