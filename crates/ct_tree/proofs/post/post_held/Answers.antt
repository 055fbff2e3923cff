use Rattle.std.proofs.Common.{◌≡◌, refl, sym, ap, ◌∙◌, subst, inl, inr}
use Rattle.ct_node.specs.Worlds.{Holds, page_at}
use Rattle.ct_tree_laws.specs.declared.walk.Stage.TheVariants as stage
use Rattle.ct_tree_laws.specs.declared.rise.Rise.TheVariants as rise
use Rattle.ct_tree_laws.specs.Stands.{Stepped}
use Rattle.ct_tree_laws.proofs.PostingTurns.{held_right, half_within, rise_tidy}
use Rattle.ct_tree_laws.proofs.PostingCrowns.{named_freed_keys}
use Rattle.ct_tree.proofs.OneTurn.{visits_free}
use Rattle.ct_node.specs.Worlds.{with_lost}
use Rattle.ct_tree.proofs.post.post_held.Goals as goal

pub returns-clause-turned : goal.returns-clause-turned
returns-clause-turned g c = λ lost sound stands. (
  (c.free.ensures.sound lost (sound)
      (let w = with_lost lost (g.N.Nodes.world c.args.nodes.now) in
      rise_tidy c.args.walk.now c.args.separator c.args.page c.args.next w w stands refl)),
  (let w = with_lost lost (g.N.Nodes.world c.args.nodes.now) in
      let node = c.copy_into.new.into in
      let seen : page_at w c.args.page ≡ Holds node = c.node.ensures ∙ ap Holds (sym c.copy_into.ensures) in
      let now = with_lost lost (g.N.Nodes.world c.free.new.self) in
      subst (λ q. Stepped c.args.walk.now (stage.Post c.args.separator (rise.Above q)) w now) (sym c.right.ensures)
      (held_right c.args.walk.now c.args.separator c.args.page c.args.next node w w now stands seen (cc) refl (ap (with_lost lost) c.free.ensures.world))),
  (let w = with_lost lost (g.N.Nodes.world c.args.nodes.now) in
      named_freed_keys c.args.walk.now (stage.Post c.args.separator (rise.Held c.args.page c.args.next)) c.args.page w w (with_lost lost (g.N.Nodes.world c.free.new.self)) stands refl (ap (with_lost lost) c.free.ensures.world)),
)

pub returns-clause-rule : goal.returns-clause-rule
returns-clause-rule g c =
    let w = g.N.Nodes.world c.args.nodes.now in
    let node = c.copy_into.new.into in
    let seen : page_at w c.args.page ≡ Holds node = c.node.ensures ∙ ap Holds (sym c.copy_into.ensures) in
    inr (inr (visits_free _ w w (g.N.Nodes.world c.free.new.self) refl c.free.ensures.world, inl (c.right.result, (node, seen, cc, c.right.ensures), refl)))

pub returns-then-is_some-clause-turned : goal.returns-then-is_some-clause-turned
returns-then-is_some-clause-turned g c = λ lost sound stands. absurd (
    let w = with_lost lost (g.N.Nodes.world c.args.nodes.now) in
    let node = c.copy_into.new.into in
    let seen : page_at w c.args.page ≡ Holds node = c.node.ensures ∙ ap Holds (sym c.copy_into.ensures) in
    half_within c.args.walk.now c.args.separator c.args.page c.args.next node w w stands seen refl (cc) (cc))
