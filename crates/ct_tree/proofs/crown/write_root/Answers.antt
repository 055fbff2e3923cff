use Rattle.std.proofs.Common.{◌≡◌, length, arith, refl, ap, ◌∙◌, subst, inr}
use Rattle.ct_node.specs.Worlds.{Holds, page_at, edited, Crowns}
use Rattle.ct_tree_laws.specs.declared.rise.Separator.{Separator}
use Rattle.ct_tree_laws.specs.Stands.{node_over}
use Rattle.ct_tree_laws.proofs.PostingCrowns.{crown_key, crown_writes, crown_written, crown_written_keys}
use Rattle.ct_tree.proofs.Done.{after_done, after_other}
use Rattle.ct_node.specs.Nodes.{NodeValue}
use Rattle.ct_tree.proofs.OneTurn.{waits_first, written, crown_roomy}
use Rattle.ct_tree_laws.specs.declared.walk.Stage.TheVariants as stage
use Rattle.ct_tree_laws.specs.declared.rise.Rise.TheVariants as rise
use Rattle.ct_tree_laws.proofs.Turns.{stays, keys_same}
use Rattle.ct_node.specs.Worlds.{with_lost, no_mark}
use Rattle.ct_tree_laws.proofs.Lost.{lost_after_edit}
use Rattle.ct_tree.proofs.Sound.{edit_done, edit_other}
use Rattle.std.proofs.Common.{inl}
use Rattle.ct_tree.proofs.crown.write_root.Goals as goal

pub returns-clause-turned : goal.returns-clause-turned
returns-clause-turned g c = λ lost sound stands. (
  (edit_done c.edit-edited.result (g.N.Nodes.allows c.args.nodes.now c.args.walk.now.op no_mark) c.args.walk.now.op c.args.root c.post.new.self no_mark (g.N.Nodes.world c.args.nodes.now) (with_lost lost (g.N.Nodes.world c.args.nodes.now)) (g.N.Nodes.sound c.edit-edited.new.self lost)
      (let w = with_lost lost (g.N.Nodes.world c.args.nodes.now) in
      let node = c.node-node.result.now in
      let seen : page_at w c.args.separator.left ≡ Holds node = subst (λ (x : Separator). page_at w x.left ≡ Holds node) c.separator.view_is c.node-node.ensures in
      let over : c.node_over-new.result ≡ node_over node c.args.separator.left = subst (λ (x : Separator). c.node_over-new.result ≡ node_over node x.left) c.separator.view_is c.node_over-new.ensures in
      Crowns refl (crown_writes c.args.walk.now c.args.separator c.args.root node c.node_over-new.result c.post.new.self w seen over c.post.ensures.node c.count-count.ensures.node stands))
      (inl refl) (c.edit-edited.ensures.sound lost sound)),
  (let w = with_lost lost (g.N.Nodes.world c.args.nodes.now) in
      let now = with_lost lost (g.N.Nodes.world c.edit-edited.new.self) in
      let node = c.node-node.result.now in
      let seen : page_at w c.args.separator.left ≡ Holds node = subst (λ (x : Separator). page_at w x.left ≡ Holds node) c.separator.view_is c.node-node.ensures in
      let over : c.node_over-new.result ≡ node_over node c.args.separator.left = subst (λ (x : Separator). c.node_over-new.result ≡ node_over node x.left) c.separator.view_is c.node_over-new.ensures in
      crown_written c.args.walk.now c.args.separator c.args.root node c.node_over-new.result c.post.new.self w now stands seen over c.post.ensures.node c.count-count.ensures.node
      (after_done c.edit-edited.result (λ _. edited c.args.walk.now.op c.args.root c.post.new.self w) w now (cc) (lost_after_edit lost c.edit-edited.result c.args.walk.now.op c.args.root c.post.new.self (g.N.Nodes.world c.args.nodes.now) (g.N.Nodes.world c.edit-edited.new.self) (omega arith) c.edit-edited.ensures.world))),
  (let w = with_lost lost (g.N.Nodes.world c.args.nodes.now) in
      let now = with_lost lost (g.N.Nodes.world c.edit-edited.new.self) in
      let node = c.node-node.result.now in
      let seen : page_at w c.args.separator.left ≡ Holds node = subst (λ (x : Separator). page_at w x.left ≡ Holds node) c.separator.view_is c.node-node.ensures in
      let over : c.node_over-new.result ≡ node_over node c.args.separator.left = subst (λ (x : Separator). c.node_over-new.result ≡ node_over node x.left) c.separator.view_is c.node_over-new.ensures in
      crown_written_keys c.args.walk.now c.args.separator c.args.root node c.node_over-new.result c.post.new.self w now stands seen over c.post.ensures.node c.count-count.ensures.node
      (after_done c.edit-edited.result (λ _. edited c.args.walk.now.op c.args.root c.post.new.self w) w now (cc) (lost_after_edit lost c.edit-edited.result c.args.walk.now.op c.args.root c.post.new.self (g.N.Nodes.world c.args.nodes.now) (g.N.Nodes.world c.edit-edited.new.self) (omega arith) c.edit-edited.ensures.world))),
)

pub returns-then-not-is_done-clause-rule : goal.returns-then-not-is_done-clause-rule
returns-then-not-is_done-clause-rule g c =
    let w = g.N.Nodes.world c.args.nodes.now in
    let now = g.N.Nodes.world c.edit-edited.new.self in
    waits_first c.edit-edited.result c.args.walk.now w now (g.N.Nodes.left c.args.nodes.now) (g.N.Nodes.left c.edit-edited.new.self) (stage.Post c.args.separator (rise.Crown c.args.root)) (cc)
    (after_other c.edit-edited.result (λ _. edited c.args.walk.now.op c.args.root c.post.new.self w) w now (cc) c.edit-edited.ensures.world) c.edit-edited.ensures.left

pub returns-clause-rule : goal.returns-clause-rule
returns-clause-rule g c =
    let w = g.N.Nodes.world c.args.nodes.now in
    let now = g.N.Nodes.world c.edit-edited.new.self in
    let node = c.node-node.result.now in
    let over : c.node_over-new.result ≡ node_over node c.args.separator.left = subst (λ (x : Separator). c.node_over-new.result ≡ node_over node x.left) c.separator.view_is c.node_over-new.ensures in
    inr ((c.post.new.self, ap (λ (v : NodeValue). v.leaf) c.post.ensures.node ∙ ap (λ (v : NodeValue). v.leaf) over, crown_roomy node c.node_over-new.result c.post.new.self _ c.args.separator.left over c.post.ensures.node c.count-count.ensures.node, written c.edit-edited.result c.args.walk.now.op c.args.root c.post.new.self w w now (cc) refl c.edit-edited.ensures.world), refl)

pub returns-then-not-is_done-clause-turned : goal.returns-then-not-is_done-clause-turned
returns-then-not-is_done-clause-turned g c = λ lost sound stands.
    let w = with_lost lost (g.N.Nodes.world c.args.nodes.now) in
    let now = with_lost lost (g.N.Nodes.world c.edit-edited.new.self) in
    let same = ap (with_lost lost) (after_other c.edit-edited.result (λ _. edited c.args.walk.now.op c.args.root c.post.new.self (g.N.Nodes.world c.args.nodes.now)) (g.N.Nodes.world c.args.nodes.now) (g.N.Nodes.world c.edit-edited.new.self) (cc) c.edit-edited.ensures.world) in
    ((edit_other c.edit-edited.result (g.N.Nodes.allows c.args.nodes.now c.args.walk.now.op no_mark) c.args.walk.now.op c.args.root c.post.new.self no_mark (g.N.Nodes.world c.args.nodes.now) (with_lost lost (g.N.Nodes.world c.args.nodes.now)) (g.N.Nodes.sound c.edit-edited.new.self lost) (cc) (c.edit-edited.ensures.sound lost sound)), stays c.args.walk.now (stage.Post c.args.separator (rise.Crown c.args.root)) w now same stands, keys_same w now same)

pub returns-then-key_len-as_slice-clause-turned : goal.returns-then-key_len-as_slice-clause-turned
returns-then-key_len-as_slice-clause-turned g c = λ lost sound stands. absurd (
    let w = with_lost lost (g.N.Nodes.world c.args.nodes.now) in
    let node = c.node-node.result.now in
    let seen : page_at w c.args.separator.left ≡ Holds node = subst (λ (x : Separator). page_at w x.left ≡ Holds node) c.separator.view_is c.node-node.ensures in
    let text = ap (λ (x : Separator). length x.low.key) c.separator.view_is in
    let bytes = ap length c.as_slice.ensures in
    crown_key c.args.walk.now c.args.separator c.args.root node w w stands seen refl
    (λ same. absurd (omega (arith, same, text, bytes, c.key_len.ensures))))
