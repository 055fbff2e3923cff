use Rattle.std.proofs.Common.{refl}
use Rattle.ct_node.specs.Worlds.{edited, Right}
use Rattle.ct_tree_laws.proofs.SplitTurns.{writes_right, write_stepped, write_keys}
use Rattle.ct_tree.proofs.Done.{after_done}
use Rattle.ct_node.specs.Worlds.{with_lost, no_mark}
use Rattle.ct_tree_laws.proofs.Lost.{lost_after_edit}
use Rattle.ct_tree.proofs.Sound.{edit_done}
use Rattle.std.proofs.Common.{inl, arith}
use Rattle.ct_tree.proofs.split.write_right.Goals as goal

pub returns-clause-turned : goal.returns-clause-turned
returns-clause-turned g c = λ lost sound stands. (
  (edit_done c.edit-edited.result (g.N.Nodes.allows c.args.nodes.now c.args.walk.now.op no_mark) c.args.walk.now.op c.args.right c.upper_half.new.into no_mark (g.N.Nodes.world c.args.nodes.now) (with_lost lost (g.N.Nodes.world c.args.nodes.now)) (g.N.Nodes.sound c.edit-edited.new.self lost)
      (let w = with_lost lost (g.N.Nodes.world c.args.nodes.now) in
      let node = c.node-node.result.now in
      Right refl (writes_right c.args.walk.now c.args.page c.args.right node c.upper_half.new.into w c.node-node.ensures c.upper_half.ensures.node stands))
      (inl refl) (c.edit-edited.ensures.sound lost sound)),
  (let w = with_lost lost (g.N.Nodes.world c.args.nodes.now) in
      let now = with_lost lost (g.N.Nodes.world c.edit-edited.new.self) in
      let node = c.node-node.result.now in
      write_stepped c.args.walk.now c.args.page c.args.right node c.upper_half.new.into w now stands c.node-node.ensures c.upper_half.ensures.node
      (after_done c.edit-edited.result (λ _. edited c.args.walk.now.op c.args.right c.upper_half.new.into w) w now (cc) (lost_after_edit lost c.edit-edited.result c.args.walk.now.op c.args.right c.upper_half.new.into (g.N.Nodes.world c.args.nodes.now) (g.N.Nodes.world c.edit-edited.new.self) (omega arith) c.edit-edited.ensures.world))),
  (let w = with_lost lost (g.N.Nodes.world c.args.nodes.now) in
      let now = with_lost lost (g.N.Nodes.world c.edit-edited.new.self) in
      let node = c.node-node.result.now in
      write_keys c.args.walk.now c.args.page c.args.right node c.upper_half.new.into w now stands c.node-node.ensures c.upper_half.ensures.node
      (after_done c.edit-edited.result (λ _. edited c.args.walk.now.op c.args.right c.upper_half.new.into w) w now (cc) (lost_after_edit lost c.edit-edited.result c.args.walk.now.op c.args.right c.upper_half.new.into (g.N.Nodes.world c.args.nodes.now) (g.N.Nodes.world c.edit-edited.new.self) (omega arith) c.edit-edited.ensures.world))),
)
