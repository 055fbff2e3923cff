use Rattle.std.proofs.Common.{◌<◌, length, arith, refl, inr, subst}
use Rattle.ct_node.specs.Worlds.{edited, Right}
use Rattle.ct_tree_laws.proofs.PostingSplits.{above_enough, writes_above, above_written, above_written_keys}
use Rattle.ct_tree.proofs.Done.{after_done, after_other}
use Rattle.ct_node.specs.Nodes.{NodeValue}
use Rattle.ct_tree.specs.Rules.{Writes}
use Rattle.ct_tree.proofs.OneTurn.{waits_first, written}
use Rattle.ct_tree_laws.specs.declared.walk.Stage.TheVariants as stage
use Rattle.ct_tree_laws.specs.declared.rise.Rise.TheVariants as rise
use Rattle.ct_tree_laws.proofs.Turns.{stays, keys_same}
use Rattle.ct_node.specs.Worlds.{with_lost, no_mark}
use Rattle.ct_tree_laws.proofs.Lost.{lost_after_edit}
use Rattle.ct_tree.proofs.Sound.{edit_done, edit_other}
use Rattle.std.proofs.Common.{ap, inl}
use Rattle.ct_tree.proofs.split_above.write_above.Goals as goal

pub returns-clause-turned : goal.returns-clause-turned
returns-clause-turned g c = λ lost sound stands. (
  (edit_done c.edit-edited.result (g.N.Nodes.allows c.args.nodes.now c.args.walk.now.op no_mark) c.args.walk.now.op c.args.right c.upper_half.new.into no_mark (g.N.Nodes.world c.args.nodes.now) (with_lost lost (g.N.Nodes.world c.args.nodes.now)) (g.N.Nodes.sound c.edit-edited.new.self lost)
      (let w = with_lost lost (g.N.Nodes.world c.args.nodes.now) in
      let node = c.node-node.result.now in
      Right refl (writes_above c.args.walk.now c.args.separator c.args.page c.args.right node c.upper_half.new.into w c.node-node.ensures c.upper_half.ensures.node stands))
      (inl refl) (c.edit-edited.ensures.sound lost sound)),
  (let w = with_lost lost (g.N.Nodes.world c.args.nodes.now) in
      let now = with_lost lost (g.N.Nodes.world c.edit-edited.new.self) in
      let node = c.node-node.result.now in
      above_written c.args.walk.now c.args.separator c.args.page c.args.right node c.upper_half.new.into w now stands c.node-node.ensures c.upper_half.ensures.node
      (after_done c.edit-edited.result (λ _. edited c.args.walk.now.op c.args.right c.upper_half.new.into w) w now (cc) (lost_after_edit lost c.edit-edited.result c.args.walk.now.op c.args.right c.upper_half.new.into (g.N.Nodes.world c.args.nodes.now) (g.N.Nodes.world c.edit-edited.new.self) (omega arith) c.edit-edited.ensures.world))),
  (let w = with_lost lost (g.N.Nodes.world c.args.nodes.now) in
      let now = with_lost lost (g.N.Nodes.world c.edit-edited.new.self) in
      let node = c.node-node.result.now in
      above_written_keys c.args.walk.now c.args.separator c.args.page c.args.right node c.upper_half.new.into w now stands c.node-node.ensures c.upper_half.ensures.node
      (after_done c.edit-edited.result (λ _. edited c.args.walk.now.op c.args.right c.upper_half.new.into w) w now (cc) (lost_after_edit lost c.edit-edited.result c.args.walk.now.op c.args.right c.upper_half.new.into (g.N.Nodes.world c.args.nodes.now) (g.N.Nodes.world c.edit-edited.new.self) (omega arith) c.edit-edited.ensures.world))),
)

pub returns-then-not-is_done-clause-rule : goal.returns-then-not-is_done-clause-rule
returns-then-not-is_done-clause-rule g c =
    let w = g.N.Nodes.world c.args.nodes.now in
    let now = g.N.Nodes.world c.edit-edited.new.self in
    waits_first c.edit-edited.result c.args.walk.now w now (g.N.Nodes.left c.args.nodes.now) (g.N.Nodes.left c.edit-edited.new.self) (stage.Post c.args.separator (rise.Split c.args.page c.args.right)) (cc)
    (after_other c.edit-edited.result (λ _. edited c.args.walk.now.op c.args.right c.upper_half.new.into w) w now (cc) c.edit-edited.ensures.world) c.edit-edited.ensures.left

pub returns-clause-rule : goal.returns-clause-rule
returns-clause-rule g c =
    let w = g.N.Nodes.world c.args.nodes.now in
    let now = g.N.Nodes.world c.edit-edited.new.self in
    inr ((c.node-node.result.now, c.node-node.ensures, c.count.ensures.node, omega arith, subst (λ (n : NodeValue). Writes c.args.right n w now) c.upper_half.ensures.node (written c.edit-edited.result c.args.walk.now.op c.args.right c.upper_half.new.into w w now (cc) refl c.edit-edited.ensures.world)), refl)

pub returns-then-not-is_done-clause-turned : goal.returns-then-not-is_done-clause-turned
returns-then-not-is_done-clause-turned g c = λ lost sound stands.
    let w = with_lost lost (g.N.Nodes.world c.args.nodes.now) in
    let now = with_lost lost (g.N.Nodes.world c.edit-edited.new.self) in
    let same = ap (with_lost lost) (after_other c.edit-edited.result (λ _. edited c.args.walk.now.op c.args.right c.upper_half.new.into (g.N.Nodes.world c.args.nodes.now)) (g.N.Nodes.world c.args.nodes.now) (g.N.Nodes.world c.edit-edited.new.self) (cc) c.edit-edited.ensures.world) in
    ((edit_other c.edit-edited.result (g.N.Nodes.allows c.args.nodes.now c.args.walk.now.op no_mark) c.args.walk.now.op c.args.right c.upper_half.new.into no_mark (g.N.Nodes.world c.args.nodes.now) (with_lost lost (g.N.Nodes.world c.args.nodes.now)) (g.N.Nodes.sound c.edit-edited.new.self lost) (cc) (c.edit-edited.ensures.sound lost sound)), stays c.args.walk.now (stage.Post c.args.separator (rise.Split c.args.page c.args.right)) w now same stands, keys_same w now same)

pub returns-then-count-lt2-clause-turned : goal.returns-then-count-lt2-clause-turned
returns-then-count-lt2-clause-turned g c = λ lost sound stands. absurd (
    let w = with_lost lost (g.N.Nodes.world c.args.nodes.now) in
    let node = c.node-node.result.now in
    let few : length node.entries < 2 = omega arith in
    above_enough c.args.walk.now c.args.separator c.args.page c.args.right node w w stands c.node-node.ensures refl few)
