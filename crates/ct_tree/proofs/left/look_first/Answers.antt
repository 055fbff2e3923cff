use Rattle.std.proofs.Common.{◌≡◌, ◌-◌, suc, true, length, sym, refl, arith, ◌∙◌}
use Rattle.std.proofs.lemmas.List.{length-map}
use Rattle.ct_node.specs.Nodes.{pairs_in, pair_in}
use Rattle.ct_node.specs.Places.{is_ahead}
use Rattle.ct_tree_laws.specs.declared.walk.Stage.TheVariants as stage
use Rattle.ct_tree_laws.proofs.SearchTurns.{again_keys}
use Rattle.ct_tree_laws.proofs.LeftLists.{prefix_short}
use Rattle.ct_tree_laws.proofs.LeftTurns.{left_first_past, left_first_on}
use Rattle.ct_tree_laws.proofs.LeftFinds.{left_first_some, left_first_none}
use Rattle.ct_tree.proofs.Counting.{no_right_back}
use Rattle.ct_tree.proofs.Onward.{goes_right, goes_not_right}
use Rattle.ct_node.specs.Worlds.{with_lost}
use Rattle.std.proofs.Common.{ap}
use Rattle.ct_tree.proofs.left.look_first.Goals as goal

pub returns-then-is_past-clause-turned : goal.returns-then-is_past-clause-turned
returns-then-is_past-clause-turned g c = λ lost sound stands. (
  (c.free_all.ensures.sound lost (sound)
      (stands.place.0)),
  (let w = with_lost lost (g.N.Nodes.world c.args.nodes.now) in
      let node = c.node-node.result.now in
      left_first_past c.args.walk.now c.args.page node c.right-right.result w w (with_lost lost (g.N.Nodes.world c.free_all.new.self)) stands
      c.node-node.ensures refl (ap (with_lost lost) c.free_all.ensures.world) (goes_right node c.args.walk.now.target c.right-right.result (sym c.is_past.ensures ∙ c.if-is_past.true) c.right-right.ensures)),
  (again_keys c.args.walk.now (stage.SharedLeft c.args.page) (with_lost lost (g.N.Nodes.world c.args.nodes.now)) (with_lost lost (g.N.Nodes.world c.args.nodes.now)) (with_lost lost (g.N.Nodes.world c.free_all.new.self)) stands refl (ap (with_lost lost) c.free_all.ensures.world)),
)

pub pair-requires : goal.pair-requires
pair-requires g c =
    let node = c.node-node.result.now in
    let short = prefix_short (is_ahead c.args.or_at c.args.walk.now.target) (pairs_in node) in
    let count : length (pairs_in node) ≡ length node.entries = length-map node.entries pair_in in
    let place = c.count_ahead-ahead.ensures in
    omega arith

pub returns-then-ahead-gt0-clause-found : goal.returns-then-ahead-gt0-clause-found
returns-then-ahead-gt0-clause-found g c = λ lost sound stands.
    let w = with_lost lost (g.N.Nodes.world c.args.nodes.now) in
    let node = c.node-node.result.now in
    let is = c.node-node.ensures in
    let ahead : c.count_ahead-ahead.result ≡ suc (c.count_ahead-ahead.result - 1) = omega arith in
    λ keys chain. sym (left_first_some c.args.walk.now c.args.or_at c.args.page node (c.count_ahead-ahead.result - 1) c.pair.result w is (λ q one. goes_not_right node c.args.walk.now.target q (sym c.is_past.ensures ∙ c.if-is_past.false) one) (sym c.count_ahead-ahead.ensures ∙ ahead) c.pair.ensures stands keys chain)

pub returns-in_default-clause-found : goal.returns-in_default-clause-found
returns-in_default-clause-found g c = λ lost sound stands.
    let w = with_lost lost (g.N.Nodes.world c.args.nodes.now) in
    let node = c.node-node.result.now in
    let is = c.node-node.ensures in
    let none : c.count_ahead-ahead.result ≡ 0 = omega arith in
    λ keys chain. c.requires.unfound ∙ sym (left_first_none c.args.walk.now c.args.or_at c.args.page node w is (λ q one. goes_not_right node c.args.walk.now.target q (sym c.is_past.ensures ∙ c.if-is_past.false) one) (sym c.count_ahead-ahead.ensures ∙ none) (sym c.low.ensures ∙ c.in_default.is) stands keys chain)

pub returns-clause-turned : goal.returns-clause-turned
returns-clause-turned g c = λ lost sound stands. (
  (sound),
  (let w = with_lost lost (g.N.Nodes.world c.args.nodes.now) in
      let node = c.node-node.result.now in
      let is = c.node-node.ensures in
      let none : c.count_ahead-ahead.result ≡ 0 = omega arith in
      left_first_on c.args.walk.now c.args.or_at c.args.page node c.in-Some.low w w stands is refl (λ q one. goes_not_right node c.args.walk.now.target q (sym c.is_past.ensures ∙ c.if-is_past.false) one) (sym c.count_ahead-ahead.ensures ∙ none) (sym c.low.ensures ∙ c.in-Some.is)),
  (λ at keys chain. chain),
)

pub returns-then-right-page-clause-turned : goal.returns-then-right-page-clause-turned
returns-then-right-page-clause-turned g c = λ lost sound stands. absurd (
    let w = with_lost lost (g.N.Nodes.world c.args.nodes.now) in
    let node = c.node-node.result.now in
    no_right_back w w c.args.walk.now.at true c.args.walk.now.target c.args.page c.right-right.result node refl (let here = stands in (here.tree, here.leaves, here.is, here.place.1.0, here.place.1.1)) c.node-node.ensures
    (goes_right node c.args.walk.now.target c.right-right.result (sym c.is_past.ensures ∙ c.if-is_past.true) c.right-right.ensures) c.if-right-page.true)
