use Rattle.std.proofs.Common.{refl, inr}
use Rattle.ct_node.specs.Worlds.{rooted}
use Rattle.ct_tree_laws.proofs.PostingCrowns.{raises_root, root_named_tidy, root_named, root_named_keys}
use Rattle.ct_tree.proofs.Done.{after_done, after_other}
use Rattle.ct_tree.proofs.OneTurn.{waits_first, named_pages}
use Rattle.ct_tree_laws.specs.declared.walk.Stage.TheVariants as stage
use Rattle.ct_tree_laws.specs.declared.rise.Rise.TheVariants as rise
use Rattle.ct_node.specs.Worlds.{with_lost}
use Rattle.ct_tree_laws.proofs.Lost.{lost_after_root}
use Rattle.ct_tree.proofs.Sound.{root_done, root_other}
use Rattle.std.proofs.Common.{ap, arith}
use Rattle.ct_tree_laws.proofs.Turns.{stays, keys_same}
use Rattle.ct_tree.proofs.crown.name_root.Goals as goal

pub returns-clause-turned : goal.returns-clause-turned
returns-clause-turned g c = λ lost sound stands. (
  (c.free.ensures.sound lost (root_done c.set_root-named.result c.args.walk.now.op c.args.walk.now.at c.args.root (with_lost lost (g.N.Nodes.world c.args.nodes.now)) (g.N.Nodes.sound c.set_root-named.new.self lost)
      (raises_root c.args.walk.now c.args.separator c.args.root (with_lost lost (g.N.Nodes.world c.args.nodes.now)) stands)
      (c.set_root-named.ensures.sound lost sound))
      (let w = with_lost lost (g.N.Nodes.world c.args.nodes.now) in
      let mid = with_lost lost (g.N.Nodes.world c.set_root-named.new.self) in
      root_named_tidy c.args.walk.now c.args.separator c.args.root w mid stands (after_done c.set_root-named.result (λ _. rooted c.args.walk.now.op c.args.walk.now.at c.args.root w) w mid (cc) (lost_after_root lost c.set_root-named.result c.args.walk.now.op c.args.walk.now.at c.args.root (g.N.Nodes.world c.args.nodes.now) (g.N.Nodes.world c.set_root-named.new.self) (omega arith) c.set_root-named.ensures.world)))),
  (let w = with_lost lost (g.N.Nodes.world c.args.nodes.now) in
      let mid = with_lost lost (g.N.Nodes.world c.set_root-named.new.self) in
      root_named c.args.walk.now c.args.separator c.args.root w mid (with_lost lost (g.N.Nodes.world c.free.new.self)) stands (after_done c.set_root-named.result (λ _. rooted c.args.walk.now.op c.args.walk.now.at c.args.root w) w mid (cc) (lost_after_root lost c.set_root-named.result c.args.walk.now.op c.args.walk.now.at c.args.root (g.N.Nodes.world c.args.nodes.now) (g.N.Nodes.world c.set_root-named.new.self) (omega arith) c.set_root-named.ensures.world)) (ap (with_lost lost) c.free.ensures.world)),
  (let w = with_lost lost (g.N.Nodes.world c.args.nodes.now) in
      let mid = with_lost lost (g.N.Nodes.world c.set_root-named.new.self) in
      root_named_keys c.args.walk.now c.args.separator c.args.root w mid (with_lost lost (g.N.Nodes.world c.free.new.self)) stands (after_done c.set_root-named.result (λ _. rooted c.args.walk.now.op c.args.walk.now.at c.args.root w) w mid (cc) (lost_after_root lost c.set_root-named.result c.args.walk.now.op c.args.walk.now.at c.args.root (g.N.Nodes.world c.args.nodes.now) (g.N.Nodes.world c.set_root-named.new.self) (omega arith) c.set_root-named.ensures.world)) (ap (with_lost lost) c.free.ensures.world)),
)

pub returns-then-not-is_done-clause-rule : goal.returns-then-not-is_done-clause-rule
returns-then-not-is_done-clause-rule g c = waits_first c.set_root-named.result c.args.walk.now (g.N.Nodes.world c.args.nodes.now) (g.N.Nodes.world c.set_root-named.new.self) (g.N.Nodes.left c.args.nodes.now) (g.N.Nodes.left c.set_root-named.new.self) (stage.Post c.args.separator (rise.Crowned c.args.root)) (cc) (after_other c.set_root-named.result (λ _. rooted c.args.walk.now.op c.args.walk.now.at c.args.root (g.N.Nodes.world c.args.nodes.now)) (g.N.Nodes.world c.args.nodes.now) (g.N.Nodes.world c.set_root-named.new.self) (cc) c.set_root-named.ensures.world) c.set_root-named.ensures.left

pub returns-clause-rule : goal.returns-clause-rule
returns-clause-rule g c = inr (named_pages c.set_root-named.result c.args.walk.now.op c.args.walk.now.at c.args.root _ (g.N.Nodes.world c.args.nodes.now) (g.N.Nodes.world c.set_root-named.new.self) (g.N.Nodes.world c.free.new.self) (cc) c.set_root-named.ensures.world c.free.ensures.world, refl)

pub returns-then-not-is_done-clause-turned : goal.returns-then-not-is_done-clause-turned
returns-then-not-is_done-clause-turned g c = λ lost sound stands.
    let w = with_lost lost (g.N.Nodes.world c.args.nodes.now) in
    let now = with_lost lost (g.N.Nodes.world c.set_root-named.new.self) in
    let same = ap (with_lost lost) (after_other c.set_root-named.result (λ _. rooted c.args.walk.now.op c.args.walk.now.at c.args.root (g.N.Nodes.world c.args.nodes.now)) (g.N.Nodes.world c.args.nodes.now) (g.N.Nodes.world c.set_root-named.new.self) (cc) c.set_root-named.ensures.world) in
    (root_other c.set_root-named.result c.args.walk.now.op c.args.walk.now.at c.args.root w (g.N.Nodes.sound c.set_root-named.new.self lost) (cc) (c.set_root-named.ensures.sound lost sound), stays c.args.walk.now (stage.Post c.args.separator (rise.Crowned c.args.root)) w now same stands, keys_same w now same)
