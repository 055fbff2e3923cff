use Rattle.std.proofs.Common.{◌≡◌, ◌≤◌, true, length, sym, refl, arith, ◌∙◌, ap, subst}
use Rattle.std.specs.Prelude.{slice_get}
use Rattle.std.specs.List.{AllPass}
use Rattle.std.proofs.lemmas.List.{length-map}
use Rattle.ct_node.specs.Nodes.{pairs_in, pair_in}
use Rattle.ct_node.specs.Places.{is_ahead}
use Rattle.ct_node.specs.declared.target.Target.TheVariants.{Last}
use Rattle.ct_tree_laws.specs.declared.walk.Stage.TheVariants as stage
use Rattle.ct_tree_laws.proofs.SearchTurns.{again_keys, shared_right, shared_past}
use Rattle.ct_tree_laws.proofs.Finds.{search_some, search_none, all_from_prefix}
use Rattle.ct_tree.proofs.Counting.{no_right_back}
use Rattle.ct_tree.proofs.Onward.{goes_right, goes_not_right}
use Rattle.ct_node.specs.Worlds.{with_lost}
use Rattle.ct_tree.proofs.search.look_shared.Goals as goal

pub returns-then-is_past-clause-turned : goal.returns-then-is_past-clause-turned
returns-then-is_past-clause-turned g c = λ lost sound stands. (
  (c.free_all.ensures.sound lost (sound)
      (stands.place.0)),
  (let w = with_lost lost (g.N.Nodes.world c.args.nodes.now) in
      let node = c.node-node.result.now in
      shared_past c.args.walk.now c.args.above c.args.page node c.right-right.result w w (with_lost lost (g.N.Nodes.world c.free_all.new.self)) stands
      c.node-node.ensures refl (ap (with_lost lost) c.free_all.ensures.world) (goes_right node c.args.walk.now.target c.right-right.result (sym c.is_past.ensures ∙ c.if-is_past.true) c.right-right.ensures)),
  (again_keys c.args.walk.now (stage.Shared c.args.page c.args.above) (with_lost lost (g.N.Nodes.world c.args.nodes.now)) (with_lost lost (g.N.Nodes.world c.args.nodes.now)) (with_lost lost (g.N.Nodes.world c.free_all.new.self)) stands refl (ap (with_lost lost) c.free_all.ensures.world)),
)

pub returns-then-place-count-clause-found : goal.returns-then-place-count-clause-found
returns-then-place-count-clause-found g c = λ lost sound stands.
    let w = with_lost lost (g.N.Nodes.world c.args.nodes.now) in
    let node = c.node-node.result.now in
    let is = c.node-node.ensures in
    λ keys chain. sym (search_some c.args.walk.now c.args.above c.args.page node c.pair.result w is (ap (slice_get (pairs_in node)) (sym c.count_ahead-place.ensures) ∙ c.pair.ensures) stands keys chain)

pub returns-then-not-is_past-clause-found : goal.returns-then-not-is_past-clause-found
returns-then-not-is_past-clause-found g c = λ lost sound stands.
    let w = with_lost lost (g.N.Nodes.world c.args.nodes.now) in
    let node = c.node-node.result.now in
    let is = c.node-node.ensures in
    let count : c.count.result ≡ length (pairs_in node) = c.count.ensures.count ∙ sym (length-map node.entries pair_in) in
    let long : length (pairs_in node) ≤ c.count_ahead-place.result = omega arith in
    let clear : AllPass (is_ahead c.args.above c.args.walk.now.target) (pairs_in node) = all_from_prefix (is_ahead c.args.above c.args.walk.now.target) (pairs_in node) (subst (λ n. length (pairs_in node) ≤ n) c.count_ahead-place.ensures long) in
    λ keys chain. c.requires.unfound ∙ sym (search_none c.args.walk.now c.args.above c.args.page node w is clear (λ q one. goes_not_right node Last q (sym c.is_past-2.ensures ∙ c.if-not-is_past.true) one) stands keys chain)

pub returns-clause-turned : goal.returns-clause-turned
returns-clause-turned g c = λ lost sound stands. (
  (sound),
  (let w = with_lost lost (g.N.Nodes.world c.args.nodes.now) in
      let node = c.node-node.result.now in
      let is = c.node-node.ensures in
      let count : c.count.result ≡ length (pairs_in node) = c.count.ensures.count ∙ sym (length-map node.entries pair_in) in
      let long : length (pairs_in node) ≤ c.count_ahead-place.result = omega arith in
      let clear : AllPass (is_ahead c.args.above c.args.walk.now.target) (pairs_in node) = all_from_prefix (is_ahead c.args.above c.args.walk.now.target) (pairs_in node) (subst (λ n. length (pairs_in node) ≤ n) c.count_ahead-place.ensures long) in
      shared_right c.args.walk.now c.args.above c.args.page node c.right-right-2.result w w stands is refl clear (goes_right node Last c.right-right-2.result (sym c.is_past-2.ensures ∙ c.if-not-is_past.false) c.right-right-2.ensures)),
  (λ at keys chain. chain),
)

pub returns-then-right-page-clause-turned : goal.returns-then-right-page-clause-turned
returns-then-right-page-clause-turned g c = λ lost sound stands. absurd (
    let w = with_lost lost (g.N.Nodes.world c.args.nodes.now) in
    let node = c.node-node.result.now in
    no_right_back w w c.args.walk.now.at true c.args.walk.now.target c.args.page c.right-right.result node refl (let here = stands in (here.tree, here.leaves, here.is, here.place.1.0, here.place.1.1)) c.node-node.ensures
    (goes_right node c.args.walk.now.target c.right-right.result (sym c.is_past.ensures ∙ c.if-is_past.true) c.right-right.ensures) c.if-right-page.true)

pub returns-then-right-page-2-clause-turned : goal.returns-then-right-page-2-clause-turned
returns-then-right-page-2-clause-turned g c = λ lost sound stands. absurd (
    let w = with_lost lost (g.N.Nodes.world c.args.nodes.now) in
    let node = c.node-node.result.now in
    no_right_back w w c.args.walk.now.at true Last c.args.page c.right-right-2.result node refl (let here = stands in (here.tree, here.leaves, here.is, here.place.1.0, here.place.1.1)) c.node-node.ensures
    (goes_right node Last c.right-right-2.result (sym c.is_past-2.ensures ∙ c.if-not-is_past.false) c.right-right-2.ensures) c.if-right-page-2.true)
