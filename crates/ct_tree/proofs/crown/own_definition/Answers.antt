use Rattle.std.proofs.Common.{true, refl, inr, ap}
use Rattle.std.specs.Prelude.{find}
use Rattle.ct_latch.specs.Latches.{bars, with_hold}
use Rattle.ct_node.specs.Worlds.{with_holds, World}
use Rattle.ct_tree_laws.specs.declared.walk.Stage.TheVariants as stage
use Rattle.ct_tree_laws.specs.declared.rise.Rise.TheVariants as rise
use Rattle.ct_tree_laws.proofs.PostingTurns.{owned_keys}
use Rattle.ct_tree_laws.proofs.PostingCrowns.{definition_owned}
use Rattle.ct_tree.proofs.Done.{after_done, free_when_done, after_other}
use Rattle.ct_tree.proofs.OneTurn.{waits_first}
use Rattle.ct_node.specs.Worlds.{with_lost}
use Rattle.ct_tree_laws.proofs.Lost.{lost_after}
use Rattle.ct_tree.proofs.crown.own_definition.Goals as goal

pub returns-clause-turned : goal.returns-clause-turned
returns-clause-turned g c = λ lost sound stands. (
  (c.own-owned.ensures.sound lost sound),
  (let w = with_lost lost (g.N.Nodes.world c.args.nodes.now) in
      let page = c.args.walk.now.at.page in
      definition_owned c.args.walk.now c.args.separator w (with_lost lost (g.N.Nodes.world c.own-owned.new.self)) stands (free_when_done c.own-owned.result (find (bars page c.args.walk.now.op true) w.holds) (cc) c.own-owned.ensures.busy)
      (after_done c.own-owned.result (λ _. with_holds (with_hold (record { node = page; op = c.args.walk.now.op; own = true }) w.holds) w) w (with_lost lost (g.N.Nodes.world c.own-owned.new.self)) (cc) (lost_after lost c.own-owned.result (λ _. with_holds (with_hold (record { node = page; op = c.args.walk.now.op; own = true }) (g.N.Nodes.world c.args.nodes.now).holds) (g.N.Nodes.world c.args.nodes.now)) (g.N.Nodes.world c.args.nodes.now) (g.N.Nodes.world c.own-owned.new.self) c.own-owned.ensures.world))),
  (let w = with_lost lost (g.N.Nodes.world c.args.nodes.now) in
      let page = c.args.walk.now.at.page in
      owned_keys c.args.walk.now (stage.Post c.args.separator rise.Again) page w (with_lost lost (g.N.Nodes.world c.own-owned.new.self)) stands (free_when_done c.own-owned.result (find (bars page c.args.walk.now.op true) w.holds) (cc) c.own-owned.ensures.busy)
      (after_done c.own-owned.result (λ _. with_holds (with_hold (record { node = page; op = c.args.walk.now.op; own = true }) w.holds) w) w (with_lost lost (g.N.Nodes.world c.own-owned.new.self)) (cc) (lost_after lost c.own-owned.result (λ _. with_holds (with_hold (record { node = page; op = c.args.walk.now.op; own = true }) (g.N.Nodes.world c.args.nodes.now).holds) (g.N.Nodes.world c.args.nodes.now)) (g.N.Nodes.world c.args.nodes.now) (g.N.Nodes.world c.own-owned.new.self) c.own-owned.ensures.world))),
)

pub returns-then-not-is_done-clause-rule : goal.returns-then-not-is_done-clause-rule
returns-then-not-is_done-clause-rule g c = waits_first c.own-owned.result c.args.walk.now (g.N.Nodes.world c.args.nodes.now) (g.N.Nodes.world c.own-owned.new.self) (g.N.Nodes.left c.args.nodes.now) (g.N.Nodes.left c.own-owned.new.self) (stage.Post c.args.separator rise.Again) (cc) (after_other c.own-owned.result (λ _. with_holds (with_hold (record { node = c.args.walk.now.at.page; op = c.args.walk.now.op; own = true }) (g.N.Nodes.world c.args.nodes.now).holds) (g.N.Nodes.world c.args.nodes.now)) (g.N.Nodes.world c.args.nodes.now) (g.N.Nodes.world c.own-owned.new.self) (cc) c.own-owned.ensures.world) c.own-owned.ensures.left

pub returns-clause-rule : goal.returns-clause-rule
returns-clause-rule g c = inr ((ap (λ (v : World). v.pages) (after_done c.own-owned.result (λ _. with_holds (with_hold (record { node = c.args.walk.now.at.page; op = c.args.walk.now.op; own = true }) (g.N.Nodes.world c.args.nodes.now).holds) (g.N.Nodes.world c.args.nodes.now)) (g.N.Nodes.world c.args.nodes.now) (g.N.Nodes.world c.own-owned.new.self) (cc) c.own-owned.ensures.world)), refl)
