use Rattle.std.proofs.Common.{◌≡◌, ℕ, ◌/◌, ◌≤◌, length, refl, ap, sym, ◌∙◌}
use Rattle.ct_node.specs.Worlds.{Holds, page_at, edited, Cuts}
use Rattle.ct_tree_laws.proofs.PostingZeros.{middle_low}
use Rattle.ct_tree_laws.proofs.SplitTurns.{cuts_left, cut_is_tidy, cut_stepped, cut_keys}
use Rattle.ct_tree.proofs.Done.{after_done, after_other}
use Rattle.ct_node.specs.Worlds.{with_lost, no_mark}
use Rattle.ct_tree_laws.proofs.Lost.{lost_after_edit}
use Rattle.ct_tree.proofs.Sound.{edit_done, edit_other}
use Rattle.std.proofs.Common.{inl, arith}
use Rattle.ct_tree_laws.specs.declared.walk.Stage.TheVariants as stage
use Rattle.std.proofs.Common.{subst}
use Rattle.ct_tree_laws.specs.Stands.{Stepped}
use Rattle.ct_tree_laws.proofs.Turns.{stays, keys_same}
use Rattle.ct_tree.proofs.split.cut_left.Goals as goal

pub returns-clause-turned : goal.returns-clause-turned
returns-clause-turned g c = λ lost sound stands. (
  (c.free.ensures.sound lost (edit_done c.edit-edited.result (g.N.Nodes.allows c.args.nodes.now c.args.walk.now.op no_mark) c.args.walk.now.op c.args.page c.cut.new.self no_mark (g.N.Nodes.world c.args.nodes.now) (with_lost lost (g.N.Nodes.world c.args.nodes.now)) (g.N.Nodes.sound c.edit-edited.new.self lost)
      (let w = with_lost lost (g.N.Nodes.world c.args.nodes.now) in
      let node = c.copy_into.new.into in
      let seen : page_at w c.args.page ≡ Holds node = c.node.ensures ∙ ap Holds (sym c.copy_into.ensures) in
      Cuts refl (cuts_left c.args.walk.now c.args.page c.args.right node c.cut.new.self w seen c.cut.ensures.node stands))
      (inl refl) (c.edit-edited.ensures.sound lost sound))
      (let w = with_lost lost (g.N.Nodes.world c.args.nodes.now) in
      let mid = with_lost lost (g.N.Nodes.world c.edit-edited.new.self) in
      let node = c.copy_into.new.into in
      let seen : page_at w c.args.page ≡ Holds node = c.node.ensures ∙ ap Holds (sym c.copy_into.ensures) in
      cut_is_tidy c.args.walk.now c.args.page c.args.right node c.cut.new.self w mid stands seen c.cut.ensures.node
      (after_done c.edit-edited.result (λ _. edited c.args.walk.now.op c.args.page c.cut.new.self w) w mid (cc) (lost_after_edit lost c.edit-edited.result c.args.walk.now.op c.args.page c.cut.new.self (g.N.Nodes.world c.args.nodes.now) (g.N.Nodes.world c.edit-edited.new.self) (omega arith) c.edit-edited.ensures.world)))),
  (let w = with_lost lost (g.N.Nodes.world c.args.nodes.now) in
      let mid = with_lost lost (g.N.Nodes.world c.edit-edited.new.self) in
      let node = c.copy_into.new.into in
      let seen : page_at w c.args.page ≡ Holds node = c.node.ensures ∙ ap Holds (sym c.copy_into.ensures) in
      let enough : 2 ≤ length node.entries = c.is_full.ensures.enough (cc) in
      cut_stepped c.args.walk.now c.args.page c.args.right node c.cut.new.self c.pair-low.result w mid (with_lost lost (g.N.Nodes.world c.free.new.self)) stands seen
      (middle_low node (c.count.result / 2) c.pair-low.result c.count.ensures.node enough c.count.ensures.keys (ap (λ (n : ℕ). n / 2) c.count.ensures.count) c.pair-low.ensures)
      c.cut.ensures.node
      (after_done c.edit-edited.result (λ _. edited c.args.walk.now.op c.args.page c.cut.new.self w) w mid (cc) (lost_after_edit lost c.edit-edited.result c.args.walk.now.op c.args.page c.cut.new.self (g.N.Nodes.world c.args.nodes.now) (g.N.Nodes.world c.edit-edited.new.self) (omega arith) c.edit-edited.ensures.world))
      (ap (with_lost lost) c.free.ensures.world)),
  (let w = with_lost lost (g.N.Nodes.world c.args.nodes.now) in
      let mid = with_lost lost (g.N.Nodes.world c.edit-edited.new.self) in
      let node = c.copy_into.new.into in
      let seen : page_at w c.args.page ≡ Holds node = c.node.ensures ∙ ap Holds (sym c.copy_into.ensures) in
      cut_keys c.args.walk.now c.args.page c.args.right node c.cut.new.self w mid (with_lost lost (g.N.Nodes.world c.free.new.self)) stands seen c.cut.ensures.node
      (after_done c.edit-edited.result (λ _. edited c.args.walk.now.op c.args.page c.cut.new.self w) w mid (cc) (lost_after_edit lost c.edit-edited.result c.args.walk.now.op c.args.page c.cut.new.self (g.N.Nodes.world c.args.nodes.now) (g.N.Nodes.world c.edit-edited.new.self) (omega arith) c.edit-edited.ensures.world))
      (ap (with_lost lost) c.free.ensures.world)),
)

pub returns-then-not-is_done-clause-turned : goal.returns-then-not-is_done-clause-turned
returns-then-not-is_done-clause-turned g c = λ lost sound stands.
    let w = with_lost lost (g.N.Nodes.world c.args.nodes.now) in
    let now = with_lost lost (g.N.Nodes.world c.edit-edited.new.self) in
    let same = ap (with_lost lost) (after_other c.edit-edited.result (λ _. edited c.args.walk.now.op c.args.page c.cut.new.self (g.N.Nodes.world c.args.nodes.now)) (g.N.Nodes.world c.args.nodes.now) (g.N.Nodes.world c.edit-edited.new.self) (cc) c.edit-edited.ensures.world) in
    (edit_other c.edit-edited.result (g.N.Nodes.allows c.args.nodes.now c.args.walk.now.op no_mark) c.args.walk.now.op c.args.page c.cut.new.self no_mark (g.N.Nodes.world c.args.nodes.now) w (g.N.Nodes.sound c.edit-edited.new.self lost) (cc) (c.edit-edited.ensures.sound lost sound), subst (λ at. Stepped c.args.walk.now at w now) (sym c.requires.at) (stays c.args.walk.now (stage.Cut c.args.page c.args.right) w now same stands), keys_same w now same)
