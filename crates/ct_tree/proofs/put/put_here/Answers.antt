use Rattle.std.proofs.Common.{◌≡◌, ℕ, true, false, cond, sym, ap, ◌∙◌, subst, refl, inl, arith}
use Rattle.std.proofs.lemmas.Bool.{cond-true, cond-false}
use Rattle.ct_node.specs.declared.root.Mark.{Mark}
use Rattle.ct_node.specs.Worlds.{edited, Puts, Adds, with_lost, no_mark}
use Rattle.ct_tree.proofs.Done.{after_done, is_for_from, is_for_parts, goes_done, goes_other, bears_other, caused_done}
use Rattle.ct_tree.proofs.Turning.{step_allowed, step_meant, is_in}
use Rattle.ct_node.specs.Nodes.{pairs_in, has_pair}
use Rattle.ct_tree_laws.specs.Stands.{ChangesKeys}
use Rattle.ct_tree.specs.Answers.{is_done, put_at, has_at}
use Rattle.ct_tree_laws.proofs.PutTurns.{held_is_for, held_ended, present_keys, has_keys, puts_pair, edited_tidy, put_stepped, put_keys}
use Rattle.ct_tree_laws.proofs.Lost.{lost_after_edit}
use Rattle.ct_tree.proofs.Sound.{edit_done}
use Rattle.ct_tree.proofs.put.put_here.Goals as goal

pub returns-then-has-clause-turned : goal.returns-then-has-clause-turned
returns-then-has-clause-turned g c = λ lost sound stands. (
  (c.free.ensures.sound lost (sound)
      (stands.place.0)),
  (held_ended c.args.walk.now c.args.page (with_lost lost (g.N.Nodes.world c.args.nodes.now)) (with_lost lost (g.N.Nodes.world c.free.new.self)) stands (ap (with_lost lost) c.free.ensures.world)),
  (let w = with_lost lost (g.N.Nodes.world c.args.nodes.now) in
      let now = with_lost lost (g.N.Nodes.world c.free.new.self) in
      let facts = is_for_parts c.args.node.now c.in-At.pair (cc) in
      subst (λ target. ChangesKeys c.args.walk.now.at (put_at target) w now) (sym c.in-At.is)
      (present_keys c.args.walk.now c.args.page c.args.node.now c.in-At.pair w now stands c.requires.seen facts.2 (cc) (ap (with_lost lost) c.free.ensures.world))),
)

pub returns-clause-turned : goal.returns-clause-turned
returns-clause-turned g c = λ lost sound stands. (
  (c.free-2.ensures.sound lost (edit_done c.edit-edited.result (g.N.Nodes.allows c.args.nodes.now c.args.walk.now.op c.args.mark) c.args.walk.now.op c.args.page c.put.new.self c.args.mark (g.N.Nodes.world c.args.nodes.now) (with_lost lost (g.N.Nodes.world c.args.nodes.now)) (g.N.Nodes.sound c.edit-edited.new.self lost)
      (let w = with_lost lost (g.N.Nodes.world c.args.nodes.now) in
      let facts = is_for_parts c.args.node.now c.in-At.pair (cc) in
      Puts (puts_pair c.args.walk.now c.args.page c.args.node.now c.put.new.self c.in-At.pair w c.requires.seen facts.0 facts.1 facts.2 (cc) c.count-count.ensures.node c.put.ensures.node stands))
      (step_meant (g.N.Nodes.allows c.args.nodes.now c.args.walk.now.op) c.args.mark c.args.walk.now.target (Adds c.args.walk.now.at) c.in-At.pair c.args.page c.put.new.self (g.N.Nodes.world c.args.nodes.now) c.requires.mark c.in-At.is (c.args.node.now, c.requires.seen, c.put.ensures.node) (is_in lost c.args.walk.now c.args.page c.args.node.now (g.N.Nodes.world c.args.nodes.now) c.requires.seen stands)) (c.edit-edited.ensures.sound lost sound))
      (let w = with_lost lost (g.N.Nodes.world c.args.nodes.now) in
      let mid = with_lost lost (g.N.Nodes.world c.edit-edited.new.self) in
      edited_tidy c.args.walk.now c.args.page c.args.node.now c.put.new.self w mid stands c.requires.seen
      (after_done c.edit-edited.result (λ _. edited c.args.walk.now.op c.args.page c.put.new.self w) w mid (cc) (lost_after_edit lost c.edit-edited.result c.args.walk.now.op c.args.page c.put.new.self (g.N.Nodes.world c.args.nodes.now) (g.N.Nodes.world c.edit-edited.new.self) (omega arith) c.edit-edited.ensures.world)))),
  (let w = with_lost lost (g.N.Nodes.world c.args.nodes.now) in
      let mid = with_lost lost (g.N.Nodes.world c.edit-edited.new.self) in
      let facts = is_for_parts c.args.node.now c.in-At.pair (cc) in
      put_stepped c.args.walk.now c.args.page c.put.new.self w mid (with_lost lost (g.N.Nodes.world c.free-2.new.self)) stands
      (λ here. puts_pair c.args.walk.now c.args.page c.args.node.now c.put.new.self c.in-At.pair w c.requires.seen facts.0 facts.1 facts.2 (cc) c.count-count.ensures.node c.put.ensures.node here)
      (after_done c.edit-edited.result (λ _. edited c.args.walk.now.op c.args.page c.put.new.self w) w mid (cc) (lost_after_edit lost c.edit-edited.result c.args.walk.now.op c.args.page c.put.new.self (g.N.Nodes.world c.args.nodes.now) (g.N.Nodes.world c.edit-edited.new.self) (omega arith) c.edit-edited.ensures.world))
      (ap (with_lost lost) c.free-2.ensures.world)),
  (let w = with_lost lost (g.N.Nodes.world c.args.nodes.now) in
      let mid = with_lost lost (g.N.Nodes.world c.edit-edited.new.self) in
      let now = with_lost lost (g.N.Nodes.world c.free-2.new.self) in
      let facts = is_for_parts c.args.node.now c.in-At.pair (cc) in
      subst (λ target. ChangesKeys c.args.walk.now.at (put_at target) w now) (sym c.in-At.is)
      (put_keys c.args.walk.now c.args.page c.args.node.now c.put.new.self c.in-At.pair w mid now stands c.requires.seen facts.0 facts.1 facts.2 (cc) c.count-count.ensures.node c.put.ensures.node
      (after_done c.edit-edited.result (λ _. edited c.args.walk.now.op c.args.page c.put.new.self w) w mid (cc) (lost_after_edit lost c.edit-edited.result c.args.walk.now.op c.args.page c.put.new.self (g.N.Nodes.world c.args.nodes.now) (g.N.Nodes.world c.edit-edited.new.self) (omega arith) c.edit-edited.ensures.world))
      (ap (with_lost lost) c.free-2.ensures.world))),
)

pub edit-edited-requires : goal.edit-edited-requires
edit-edited-requires g c = record { mark = step_allowed (g.N.Nodes.allows c.args.nodes.now c.args.walk.now.op) c.args.mark c.args.walk.now.target (Adds c.args.walk.now.at) c.in-At.pair c.args.page c.put.new.self (g.N.Nodes.world c.args.nodes.now) c.requires.mark c.in-At.is (c.args.node.now, c.requires.seen, c.put.ensures.node) }

pub returns-clause-cause : goal.returns-clause-cause
returns-clause-cause g c =
    let caused = caused_done c.edit-edited.result (g.N.Nodes.faults c.args.nodes.now) (g.N.Nodes.faults c.edit-edited.new.self) (g.N.Nodes.halted c.args.nodes.now) (g.N.Nodes.halted c.edit-edited.new.self) (cc) c.edit-edited.ensures.cause in
    let later = caused.0 in
    (omega (arith, later, c.free-2.ensures.faults), c.free-2.ensures.halted ∙ caused.1)

pub returns-then-not-is_done-clause-moves_on : goal.returns-then-not-is_done-clause-moves_on
returns-then-not-is_done-clause-moves_on g c = goes_other c.edit-edited.result c.args.mark (λ mark. g.N.Nodes.goes c.args.nodes.now mark c.edit-edited.new.self) (cc) c.edit-edited.ensures.goes

pub returns-clause-moves_on : goal.returns-clause-moves_on
returns-clause-moves_on g c = inl (g.met.N.Nodes.goes_then c.args.nodes.now c.edit-edited.new.self c.free-2.new.self c.args.mark (goes_done c.edit-edited.result c.args.mark (λ mark. g.N.Nodes.goes c.args.nodes.now mark c.edit-edited.new.self) (cc) c.edit-edited.ensures.goes) c.free-2.ensures.goes)

pub returns-then-not-is_done-clause-bears : goal.returns-then-not-is_done-clause-bears
returns-then-not-is_done-clause-bears g c = λ lost sound stands. bears_other c.args.walk.now c.edit-edited.result c.args.mark (with_lost lost (g.N.Nodes.world c.args.nodes.now)) (λ mark. g.N.Nodes.goes c.args.nodes.now mark c.edit-edited.new.self) (cc)

pub returns-then-has-clause-bears : goal.returns-then-has-clause-bears
returns-then-has-clause-bears g c = λ lost sound stands keys chain.
    let w = with_lost lost (g.N.Nodes.world c.args.nodes.now) in
    let facts = is_for_parts c.args.node.now c.in-At.pair (cc) in
    let there : has_pair c.in-At.pair (pairs_in c.args.node.now) ≡ true = cc in
    let has : has_pair c.in-At.pair keys ≡ true = sym (has_keys c.args.walk.now c.args.page c.args.node.now c.in-At.pair w stands c.requires.seen facts.2 keys chain) ∙ there in
    subst (λ (mark : Mark). g.N.Nodes.goes c.args.nodes.now mark c.free.new.self) (sym (ap (λ target. cond (has_at target keys) no_mark c.args.mark) c.in-At.is ∙ cond-true (has_pair c.in-At.pair keys) no_mark c.args.mark has)) c.free.ensures.goes

pub returns-clause-bears : goal.returns-clause-bears
returns-clause-bears g c = λ lost sound stands keys chain.
    let w = with_lost lost (g.N.Nodes.world c.args.nodes.now) in
    let facts = is_for_parts c.args.node.now c.in-At.pair (cc) in
    let absent : has_pair c.in-At.pair (pairs_in c.args.node.now) ≡ false = cc in
    let none : has_pair c.in-At.pair keys ≡ false = sym (has_keys c.args.walk.now c.args.page c.args.node.now c.in-At.pair w stands c.requires.seen facts.2 keys chain) ∙ absent in
    subst (λ (mark : Mark). g.N.Nodes.goes c.args.nodes.now mark c.free-2.new.self) (sym (ap (λ target. cond (has_at target keys) no_mark c.args.mark) c.in-At.is ∙ cond-false (has_pair c.in-At.pair keys) no_mark c.args.mark none)) (g.met.N.Nodes.goes_then c.args.nodes.now c.edit-edited.new.self c.free-2.new.self c.args.mark (goes_done c.edit-edited.result c.args.mark (λ mark. g.N.Nodes.goes c.args.nodes.now mark c.edit-edited.new.self) (cc) c.edit-edited.ensures.goes) c.free-2.ensures.goes)

pub returns-then-not-is_for-clause-turned : goal.returns-then-not-is_for-clause-turned
returns-then-not-is_for-clause-turned g c = λ lost sound stands. absurd (
    let w = with_lost lost (g.N.Nodes.world c.args.nodes.now) in
    (
    let facts = held_is_for c.args.walk.now c.args.page c.args.node.now c.in-At.pair w c.requires.seen (cc) c.requires.within stands in
    let yes = is_for_from c.args.node.now c.in-At.pair facts.0 facts.1 facts.2 in
    cc))
