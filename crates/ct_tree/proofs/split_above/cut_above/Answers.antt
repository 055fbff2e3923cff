use Rattle.std.proofs.Common.{◌≡◌, ℕ, ◌/◌, ◌≤◌, length, refl, ap, inl, inr, sym, ◌∙◌, false, Some}
use Rattle.std.specs.Prelude.{slice_get}
use Rattle.ct_node.specs.Nodes.{pairs_in}
use Rattle.ct_node.specs.Worlds.{Holds, page_at, edited, Cuts}
use Rattle.ct_tree_laws.specs.declared.walk.Stage.TheVariants as stage
use Rattle.ct_tree_laws.specs.declared.rise.Rise.TheVariants as rise
use Rattle.ct_tree_laws.proofs.Turns.{stays, keys_same}
use Rattle.ct_tree_laws.proofs.PostingZeros.{middle_low}
use Rattle.ct_tree_laws.proofs.PostingSplits.{cuts_above, cut_above_is_tidy, cut_above_left, cut_above_right, cut_above_keys}
use Rattle.ct_tree.proofs.Done.{after_done, after_other}
use Rattle.ct_node.specs.Halves.{middle_of, lower_half}
use Rattle.ct_tree.proofs.OneTurn.{waits_first, written_free}
use Rattle.ct_tree.specs.Rules.{is_full}
use Rattle.ct_tree.proofs.Counting.{above_is_full}
use Rattle.std.proofs.lemmas.Bool.{false≢true}
use Rattle.ct_node.specs.Worlds.{with_lost, no_mark}
use Rattle.ct_tree_laws.proofs.Lost.{lost_after_edit}
use Rattle.ct_tree.proofs.Sound.{edit_done, edit_other}
use Rattle.std.proofs.Common.{arith}
use Rattle.ct_tree.proofs.split_above.cut_above.Goals as goal

pub returns-then-not-is_done-clause-turned : goal.returns-then-not-is_done-clause-turned
returns-then-not-is_done-clause-turned g c = λ lost sound stands.
    let w = with_lost lost (g.N.Nodes.world c.args.nodes.now) in
    let now = with_lost lost (g.N.Nodes.world c.edit-edited.new.self) in
    let same = ap (with_lost lost) (after_other c.edit-edited.result (λ _. edited c.args.walk.now.op c.args.page c.cut.new.self (g.N.Nodes.world c.args.nodes.now)) (g.N.Nodes.world c.args.nodes.now) (g.N.Nodes.world c.edit-edited.new.self) (cc) c.edit-edited.ensures.world) in
    ((edit_other c.edit-edited.result (g.N.Nodes.allows c.args.nodes.now c.args.walk.now.op no_mark) c.args.walk.now.op c.args.page c.cut.new.self no_mark (g.N.Nodes.world c.args.nodes.now) (with_lost lost (g.N.Nodes.world c.args.nodes.now)) (g.N.Nodes.sound c.edit-edited.new.self lost) (cc) (c.edit-edited.ensures.sound lost sound)), stays c.args.walk.now (stage.Post c.args.separator (rise.Cut c.args.page c.args.right)) w now same stands, keys_same w now same)

pub returns-then-covers-clause-turned : goal.returns-then-covers-clause-turned
returns-then-covers-clause-turned g c = λ lost sound stands. (
  (c.free.ensures.sound lost (edit_done c.edit-edited.result (g.N.Nodes.allows c.args.nodes.now c.args.walk.now.op no_mark) c.args.walk.now.op c.args.page c.cut.new.self no_mark (g.N.Nodes.world c.args.nodes.now) (with_lost lost (g.N.Nodes.world c.args.nodes.now)) (g.N.Nodes.sound c.edit-edited.new.self lost)
      (let w = with_lost lost (g.N.Nodes.world c.args.nodes.now) in
      let node = c.copy_into.new.into in
      let seen : page_at w c.args.page ≡ Holds node = c.node.ensures ∙ ap Holds (sym c.copy_into.ensures) in
      Cuts refl (cuts_above c.args.walk.now c.args.separator c.args.page c.args.right node w seen stands c.cut.new.self c.cut.ensures.node))
      (inl refl) (c.edit-edited.ensures.sound lost sound))
      (let w = with_lost lost (g.N.Nodes.world c.args.nodes.now) in
      let mid = with_lost lost (g.N.Nodes.world c.edit-edited.new.self) in
      let node = c.copy_into.new.into in
      let seen : page_at w c.args.page ≡ Holds node = c.node.ensures ∙ ap Holds (sym c.copy_into.ensures) in
      cut_above_is_tidy c.args.walk.now c.args.separator c.args.page c.args.right node c.cut.new.self w mid stands seen c.cut.ensures.node
      (after_done c.edit-edited.result (λ _. edited c.args.walk.now.op c.args.page c.cut.new.self w) w mid (cc) (lost_after_edit lost c.edit-edited.result c.args.walk.now.op c.args.page c.cut.new.self (g.N.Nodes.world c.args.nodes.now) (g.N.Nodes.world c.edit-edited.new.self) (omega arith) c.edit-edited.ensures.world)))),
  (let w = with_lost lost (g.N.Nodes.world c.args.nodes.now) in
      let mid = with_lost lost (g.N.Nodes.world c.edit-edited.new.self) in
      let node = c.copy_into.new.into in
      let seen : page_at w c.args.page ≡ Holds node = c.node.ensures ∙ ap Holds (sym c.copy_into.ensures) in
      let enough : 2 ≤ length node.entries = c.is_full.ensures.enough (cc) in
      cut_above_left c.args.walk.now c.args.separator c.args.page c.args.right node c.cut.new.self c.pair-low.result w mid (with_lost lost (g.N.Nodes.world c.free.new.self)) stands seen
      (middle_low node (c.count.result / 2) c.pair-low.result c.count.ensures.node enough c.count.ensures.keys (ap (λ (n : ℕ). n / 2) c.count.ensures.count) c.pair-low.ensures)
      c.cut.ensures.node (cc)
      (after_done c.edit-edited.result (λ _. edited c.args.walk.now.op c.args.page c.cut.new.self w) w mid (cc) (lost_after_edit lost c.edit-edited.result c.args.walk.now.op c.args.page c.cut.new.self (g.N.Nodes.world c.args.nodes.now) (g.N.Nodes.world c.edit-edited.new.self) (omega arith) c.edit-edited.ensures.world))
      (ap (with_lost lost) c.free.ensures.world)),
  (let w = with_lost lost (g.N.Nodes.world c.args.nodes.now) in
      let mid = with_lost lost (g.N.Nodes.world c.edit-edited.new.self) in
      let node = c.copy_into.new.into in
      let seen : page_at w c.args.page ≡ Holds node = c.node.ensures ∙ ap Holds (sym c.copy_into.ensures) in
      cut_above_keys c.args.walk.now c.args.separator c.args.page c.args.right c.args.right node c.cut.new.self w mid (with_lost lost (g.N.Nodes.world c.free.new.self)) stands seen c.cut.ensures.node
      (after_done c.edit-edited.result (λ _. edited c.args.walk.now.op c.args.page c.cut.new.self w) w mid (cc) (lost_after_edit lost c.edit-edited.result c.args.walk.now.op c.args.page c.cut.new.self (g.N.Nodes.world c.args.nodes.now) (g.N.Nodes.world c.edit-edited.new.self) (omega arith) c.edit-edited.ensures.world))
      (ap (with_lost lost) c.free.ensures.world)),
)

pub returns-clause-turned : goal.returns-clause-turned
returns-clause-turned g c = λ lost sound stands. (
  (c.free-2.ensures.sound lost (edit_done c.edit-edited.result (g.N.Nodes.allows c.args.nodes.now c.args.walk.now.op no_mark) c.args.walk.now.op c.args.page c.cut.new.self no_mark (g.N.Nodes.world c.args.nodes.now) (with_lost lost (g.N.Nodes.world c.args.nodes.now)) (g.N.Nodes.sound c.edit-edited.new.self lost)
      (let w = with_lost lost (g.N.Nodes.world c.args.nodes.now) in
      let node = c.copy_into.new.into in
      let seen : page_at w c.args.page ≡ Holds node = c.node.ensures ∙ ap Holds (sym c.copy_into.ensures) in
      Cuts refl (cuts_above c.args.walk.now c.args.separator c.args.page c.args.right node w seen stands c.cut.new.self c.cut.ensures.node))
      (inl refl) (c.edit-edited.ensures.sound lost sound))
      (let w = with_lost lost (g.N.Nodes.world c.args.nodes.now) in
      let mid = with_lost lost (g.N.Nodes.world c.edit-edited.new.self) in
      let node = c.copy_into.new.into in
      let seen : page_at w c.args.page ≡ Holds node = c.node.ensures ∙ ap Holds (sym c.copy_into.ensures) in
      cut_above_is_tidy c.args.walk.now c.args.separator c.args.page c.args.right node c.cut.new.self w mid stands seen c.cut.ensures.node
      (after_done c.edit-edited.result (λ _. edited c.args.walk.now.op c.args.page c.cut.new.self w) w mid (cc) (lost_after_edit lost c.edit-edited.result c.args.walk.now.op c.args.page c.cut.new.self (g.N.Nodes.world c.args.nodes.now) (g.N.Nodes.world c.edit-edited.new.self) (omega arith) c.edit-edited.ensures.world)))),
  (let w = with_lost lost (g.N.Nodes.world c.args.nodes.now) in
      let mid = with_lost lost (g.N.Nodes.world c.edit-edited.new.self) in
      let node = c.copy_into.new.into in
      let seen : page_at w c.args.page ≡ Holds node = c.node.ensures ∙ ap Holds (sym c.copy_into.ensures) in
      let enough : 2 ≤ length node.entries = c.is_full.ensures.enough (cc) in
      cut_above_right c.args.walk.now c.args.separator c.args.page c.args.right node c.cut.new.self c.pair-low.result w mid (with_lost lost (g.N.Nodes.world c.free-2.new.self)) stands seen
      (middle_low node (c.count.result / 2) c.pair-low.result c.count.ensures.node enough c.count.ensures.keys (ap (λ (n : ℕ). n / 2) c.count.ensures.count) c.pair-low.ensures)
      c.cut.ensures.node (cc)
      (after_done c.edit-edited.result (λ _. edited c.args.walk.now.op c.args.page c.cut.new.self w) w mid (cc) (lost_after_edit lost c.edit-edited.result c.args.walk.now.op c.args.page c.cut.new.self (g.N.Nodes.world c.args.nodes.now) (g.N.Nodes.world c.edit-edited.new.self) (omega arith) c.edit-edited.ensures.world))
      (ap (with_lost lost) c.free-2.ensures.world)),
  (let w = with_lost lost (g.N.Nodes.world c.args.nodes.now) in
      let mid = with_lost lost (g.N.Nodes.world c.edit-edited.new.self) in
      let node = c.copy_into.new.into in
      let seen : page_at w c.args.page ≡ Holds node = c.node.ensures ∙ ap Holds (sym c.copy_into.ensures) in
      cut_above_keys c.args.walk.now c.args.separator c.args.page c.args.right c.args.page node c.cut.new.self w mid (with_lost lost (g.N.Nodes.world c.free-2.new.self)) stands seen c.cut.ensures.node
      (after_done c.edit-edited.result (λ _. edited c.args.walk.now.op c.args.page c.cut.new.self w) w mid (cc) (lost_after_edit lost c.edit-edited.result c.args.walk.now.op c.args.page c.cut.new.self (g.N.Nodes.world c.args.nodes.now) (g.N.Nodes.world c.edit-edited.new.self) (omega arith) c.edit-edited.ensures.world))
      (ap (with_lost lost) c.free-2.ensures.world)),
)

pub returns-then-not-is_done-clause-rule : goal.returns-then-not-is_done-clause-rule
returns-then-not-is_done-clause-rule g c =
    let w = g.N.Nodes.world c.args.nodes.now in
    let now = g.N.Nodes.world c.edit-edited.new.self in
    waits_first c.edit-edited.result c.args.walk.now w now (g.N.Nodes.left c.args.nodes.now) (g.N.Nodes.left c.edit-edited.new.self) (stage.Post c.args.separator (rise.Cut c.args.page c.args.right)) (cc)
    (after_other c.edit-edited.result (λ _. edited c.args.walk.now.op c.args.page c.cut.new.self w) w now (cc) c.edit-edited.ensures.world) c.edit-edited.ensures.left

pub returns-then-covers-clause-rule : goal.returns-then-covers-clause-rule
returns-then-covers-clause-rule g c =
    let w = g.N.Nodes.world c.args.nodes.now in
    let node = c.copy_into.new.into in
    let seen : page_at w c.args.page ≡ Holds node = c.node.ensures ∙ ap Holds (sym c.copy_into.ensures) in
    let middle : slice_get (pairs_in node) (middle_of node) ≡ Some c.pair-low.result = ap (λ (n : ℕ). slice_get (pairs_in node) (n / 2)) (sym c.count.ensures.count) ∙ c.pair-low.ensures in
    inr (node.leaf, (node, seen, c.is_full.ensures.node, refl, cc, written_free c.edit-edited.result c.args.walk.now.op c.args.page (lower_half c.args.right node) c.cut.new.self _ w w (g.N.Nodes.world c.edit-edited.new.self) (g.N.Nodes.world c.free.new.self) (cc) refl c.cut.ensures.node c.edit-edited.ensures.world c.free.ensures.world), (c.args.page, record { low = c.pair-low.result; child = c.args.right; left = c.args.page }, node, inl refl, refl, seen, middle, refl))

pub returns-clause-rule : goal.returns-clause-rule
returns-clause-rule g c =
    let w = g.N.Nodes.world c.args.nodes.now in
    let node = c.copy_into.new.into in
    let seen : page_at w c.args.page ≡ Holds node = c.node.ensures ∙ ap Holds (sym c.copy_into.ensures) in
    let middle : slice_get (pairs_in node) (middle_of node) ≡ Some c.pair-low.result = ap (λ (n : ℕ). slice_get (pairs_in node) (n / 2)) (sym c.count.ensures.count) ∙ c.pair-low.ensures in
    inr (node.leaf, (node, seen, c.is_full.ensures.node, refl, cc, written_free c.edit-edited.result c.args.walk.now.op c.args.page (lower_half c.args.right node) c.cut.new.self _ w w (g.N.Nodes.world c.edit-edited.new.self) (g.N.Nodes.world c.free-2.new.self) (cc) refl c.cut.ensures.node c.edit-edited.ensures.world c.free-2.ensures.world), (c.args.right, record { low = c.pair-low.result; child = c.args.right; left = c.args.page }, node, inr refl, refl, seen, middle, refl))

pub returns-then-not-is_full-clause-turned : goal.returns-then-not-is_full-clause-turned
returns-then-not-is_full-clause-turned g c = λ lost sound stands. absurd (
    let w = with_lost lost (g.N.Nodes.world c.args.nodes.now) in
    let node = c.copy_into.new.into in
    let seen : page_at w c.args.page ≡ Holds node = c.node.ensures ∙ ap Holds (sym c.copy_into.ensures) in
    above_is_full c.args.walk.now c.args.separator c.args.page c.args.right node w w stands seen refl (λ full. let other : is_full node ≡ false = cc in false≢true (sym other ∙ full)))
