use Rattle.std.proofs.Common.{◌≡◌, nat_lt, length, refl, sym, ap, ◌∙◌, subst, false, inl, inr}
use Rattle.ct_node.specs.Nodes.{capacity_of, NodeValue}
use Rattle.ct_node.specs.Worlds.{edited, Posts, World}
use Rattle.ct_tree_laws.specs.declared.walk.Stage.TheVariants as stage
use Rattle.ct_tree_laws.specs.declared.rise.Rise.TheVariants as rise
use Rattle.ct_tree_laws.specs.Stands.{Stepped}
use Rattle.ct_tree_laws.proofs.Turns.{stays, keys_same}
use Rattle.ct_tree_laws.proofs.PostingTurns.{held_for, begins_inner, held_done, held_full, posts_child, posted_tidy, posted_stepped, posted_keys, half_roomy}
use Rattle.ct_tree_laws.proofs.PostingCrowns.{named_freed_keys}
use Rattle.ct_tree.proofs.Done.{after_done, is_above_for_from, after_other}
use Rattle.ct_tree.proofs.OneTurn.{waits_first, posts_none, posts_one, room_some, edited_pages, inner_of, posted_not_roomy}
use Rattle.ct_node.specs.Worlds.{with_lost, no_mark}
use Rattle.ct_tree_laws.proofs.Lost.{lost_after_edit}
use Rattle.ct_tree.proofs.Sound.{edit_done, edit_other}
use Rattle.std.proofs.Common.{arith}
use Rattle.ct_tree.proofs.post.post_within.Goals as goal

pub returns-then-has-clause-turned : goal.returns-then-has-clause-turned
returns-then-has-clause-turned g c = λ lost sound stands. (
  (c.free.ensures.sound lost (sound)
      stands.place.1.0),
  (let w = with_lost lost (g.N.Nodes.world c.args.nodes.now) in
      let now = with_lost lost (g.N.Nodes.world c.free.new.self) in
      subst (λ to. Stepped c.args.walk.now to w now) (sym c.after_post.ensures) (held_done c.args.walk.now c.args.separator c.args.page c.args.next w now stands (ap (with_lost lost) c.free.ensures.world))),
  (let w = with_lost lost (g.N.Nodes.world c.args.nodes.now) in
      named_freed_keys c.args.walk.now (stage.Post c.args.separator (rise.Held c.args.page c.args.next)) c.args.page w w (with_lost lost (g.N.Nodes.world c.free.new.self)) stands refl (ap (with_lost lost) c.free.ensures.world)),
)

pub returns-then-not-fits-clause-turned : goal.returns-then-not-fits-clause-turned
returns-then-not-fits-clause-turned g c = λ lost sound stands. (
  (sound),
  (let w = with_lost lost (g.N.Nodes.world c.args.nodes.now) in
      let full : nat_lt (length c.args.node.now.entries) (capacity_of c.args.node.now.key_len c.args.node.now.leaf) ≡ false = cc in
      held_full c.args.walk.now c.args.separator c.args.page c.args.next c.args.node.now w w stands refl c.requires.seen c.requires.within full),
  (λ at keys chain. chain),
)

pub returns-clause-turned : goal.returns-clause-turned
returns-clause-turned g c = λ lost sound stands. (
  (c.free-2.ensures.sound lost (edit_done c.edit-edited.result (g.N.Nodes.allows c.args.nodes.now c.args.walk.now.op no_mark) c.args.walk.now.op c.args.page c.post.new.self no_mark (g.N.Nodes.world c.args.nodes.now) (with_lost lost (g.N.Nodes.world c.args.nodes.now)) (g.N.Nodes.sound c.edit-edited.new.self lost)
      (let w = with_lost lost (g.N.Nodes.world c.args.nodes.now) in
      Posts refl (posts_child c.args.walk.now c.args.separator c.args.page c.args.next c.args.node.now c.post.new.self w c.requires.seen c.requires.within (cc) c.count-count.ensures.node c.post.ensures.node stands))
      (inl refl) (c.edit-edited.ensures.sound lost sound))
      (let w = with_lost lost (g.N.Nodes.world c.args.nodes.now) in
      let mid = with_lost lost (g.N.Nodes.world c.edit-edited.new.self) in
      posted_tidy c.args.walk.now c.args.separator c.args.page c.args.next c.args.node.now c.post.new.self w mid stands c.requires.seen
      (after_done c.edit-edited.result (λ _. edited c.args.walk.now.op c.args.page c.post.new.self w) w mid (cc) (lost_after_edit lost c.edit-edited.result c.args.walk.now.op c.args.page c.post.new.self (g.N.Nodes.world c.args.nodes.now) (g.N.Nodes.world c.edit-edited.new.self) (omega arith) c.edit-edited.ensures.world)))),
  (let w = with_lost lost (g.N.Nodes.world c.args.nodes.now) in
      let mid = with_lost lost (g.N.Nodes.world c.edit-edited.new.self) in
      let now = with_lost lost (g.N.Nodes.world c.free-2.new.self) in
      subst (λ to. Stepped c.args.walk.now to w now) (sym c.after_post-2.ensures)
      (posted_stepped c.args.walk.now c.args.separator c.args.page c.args.next c.args.node.now c.post.new.self w mid now stands c.requires.seen
      (λ here. posts_child c.args.walk.now c.args.separator c.args.page c.args.next c.args.node.now c.post.new.self w c.requires.seen c.requires.within (cc) c.count-count.ensures.node c.post.ensures.node here)
      (after_done c.edit-edited.result (λ _. edited c.args.walk.now.op c.args.page c.post.new.self w) w mid (cc) (lost_after_edit lost c.edit-edited.result c.args.walk.now.op c.args.page c.post.new.self (g.N.Nodes.world c.args.nodes.now) (g.N.Nodes.world c.edit-edited.new.self) (omega arith) c.edit-edited.ensures.world))
      (ap (with_lost lost) c.free-2.ensures.world))),
  (let w = with_lost lost (g.N.Nodes.world c.args.nodes.now) in
      let mid = with_lost lost (g.N.Nodes.world c.edit-edited.new.self) in
      let now = with_lost lost (g.N.Nodes.world c.free-2.new.self) in
      posted_keys c.args.walk.now c.args.separator c.args.page c.args.next c.args.node.now c.post.new.self w mid now stands c.requires.seen
      (λ here. posts_child c.args.walk.now c.args.separator c.args.page c.args.next c.args.node.now c.post.new.self w c.requires.seen c.requires.within (cc) c.count-count.ensures.node c.post.ensures.node here)
      (after_done c.edit-edited.result (λ _. edited c.args.walk.now.op c.args.page c.post.new.self w) w mid (cc) (lost_after_edit lost c.edit-edited.result c.args.walk.now.op c.args.page c.post.new.self (g.N.Nodes.world c.args.nodes.now) (g.N.Nodes.world c.edit-edited.new.self) (omega arith) c.edit-edited.ensures.world))
      (ap (with_lost lost) c.free-2.ensures.world)),
)

pub returns-then-not-is_done-clause-rule : goal.returns-then-not-is_done-clause-rule
returns-then-not-is_done-clause-rule g c = waits_first c.edit-edited.result c.args.walk.now (g.N.Nodes.world c.args.nodes.now) (g.N.Nodes.world c.edit-edited.new.self) (g.N.Nodes.left c.args.nodes.now) (g.N.Nodes.left c.edit-edited.new.self) (stage.Post c.args.separator (rise.Held c.args.page c.args.next)) (cc) (after_other c.edit-edited.result (λ _. edited c.args.walk.now.op c.args.page c.post.new.self (g.N.Nodes.world c.args.nodes.now)) (g.N.Nodes.world c.args.nodes.now) (g.N.Nodes.world c.edit-edited.new.self) (cc) c.edit-edited.ensures.world) c.edit-edited.ensures.left

pub returns-then-has-clause-rule : goal.returns-then-has-clause-rule
returns-then-has-clause-rule g c = inr (inl (posts_none c.args.page c.args.next (g.N.Nodes.world c.args.nodes.now) (g.N.Nodes.world c.free.new.self) (ap (λ (v : World). v.pages) c.free.ensures.world), c.after_post.ensures))

pub returns-then-not-fits-clause-rule : goal.returns-then-not-fits-clause-rule
returns-then-not-fits-clause-rule g c = inr (inr (refl, inr refl))

pub returns-clause-rule : goal.returns-clause-rule
returns-clause-rule g c = inr (inl (posts_one c.args.page c.args.next c.post.new.self (g.N.Nodes.world c.args.nodes.now) (g.N.Nodes.world c.free-2.new.self) (cc) (ap (λ (v : NodeValue). v.leaf) c.post.ensures.node ∙ inner_of c.args.node.now c.args.separator.low (cc)) (edited_pages c.edit-edited.result c.args.walk.now.op c.args.page c.post.new.self _ (g.N.Nodes.world c.args.nodes.now) (g.N.Nodes.world c.edit-edited.new.self) (g.N.Nodes.world c.free-2.new.self) (cc) c.edit-edited.ensures.world c.free-2.ensures.world), c.after_post-2.ensures))

pub returns-then-not-is_done-clause-turned : goal.returns-then-not-is_done-clause-turned
returns-then-not-is_done-clause-turned g c = λ lost sound stands.
    let w = with_lost lost (g.N.Nodes.world c.args.nodes.now) in
    let now = with_lost lost (g.N.Nodes.world c.edit-edited.new.self) in
    let same = ap (with_lost lost) (after_other c.edit-edited.result (λ _. edited c.args.walk.now.op c.args.page c.post.new.self (g.N.Nodes.world c.args.nodes.now)) (g.N.Nodes.world c.args.nodes.now) (g.N.Nodes.world c.edit-edited.new.self) (cc) c.edit-edited.ensures.world) in
    ((edit_other c.edit-edited.result (g.N.Nodes.allows c.args.nodes.now c.args.walk.now.op no_mark) c.args.walk.now.op c.args.page c.post.new.self no_mark (g.N.Nodes.world c.args.nodes.now) (with_lost lost (g.N.Nodes.world c.args.nodes.now)) (g.N.Nodes.sound c.edit-edited.new.self lost) (cc) (c.edit-edited.ensures.sound lost sound)), stays c.args.walk.now (stage.Post c.args.separator (rise.Held c.args.page c.args.next)) w now same stands, keys_same w now same)

pub returns-then-not-is_above_for-clause-turned : goal.returns-then-not-is_above_for-clause-turned
returns-then-not-is_above_for-clause-turned g c = λ lost sound stands. absurd (
    let w = with_lost lost (g.N.Nodes.world c.args.nodes.now) in
    (
    let here = stands in
    let facts = held_for c.args.walk.now c.args.separator c.args.page c.args.next c.args.node.now w c.requires.seen here in
    let yes = is_above_for_from c.args.node.now c.args.separator.low facts.0 facts.1 (begins_inner w here.tree c.args.node.now facts.0 facts.2) in
    cc))

pub returns-then-not-leaves_room-clause-turned : goal.returns-then-not-leaves_room-clause-turned
returns-then-not-leaves_room-clause-turned g c = λ lost sound stands. absurd (
    half_roomy c.args.walk.now c.args.separator c.args.page c.args.next c.args.node.now (with_lost lost (g.N.Nodes.world c.args.nodes.now)) (with_lost lost (g.N.Nodes.world c.args.nodes.now)) stands c.requires.seen refl (room_some c.args.next c.post.new.self (cc)).0 (posted_not_roomy c.args.node.now c.post.new.self _ c.post.ensures.node (room_some c.args.next c.post.new.self (cc)).1))
