use Rattle.std.proofs.Common.{true}
use Rattle.std.specs.Prelude.{find}
use Rattle.ct_latch.specs.Latches.{bars, with_hold}
use Rattle.ct_node.specs.Worlds.{with_holds}
use Rattle.ct_tree_laws.proofs.PutTurns.{own_stepped, own_keys}
use Rattle.ct_tree.proofs.Done.{after_done, free_when_done}
use Rattle.ct_node.specs.Worlds.{with_lost}
use Rattle.ct_tree_laws.proofs.Lost.{lost_after}
use Rattle.ct_tree.proofs.descent.own_leaf.Goals as goal

pub returns-clause-turned : goal.returns-clause-turned
returns-clause-turned g c = λ lost sound stands. (
  (c.own-owned.ensures.sound lost sound),
  (let w = with_lost lost (g.N.Nodes.world c.args.nodes.now) in
      own_stepped c.args.walk.now c.args.page w (with_lost lost (g.N.Nodes.world c.own-owned.new.self)) stands (free_when_done c.own-owned.result (find (bars c.args.page c.args.walk.now.op true) w.holds) (cc) c.own-owned.ensures.busy)
      (after_done c.own-owned.result (λ _. with_holds (with_hold (record { node = c.args.page; op = c.args.walk.now.op; own = true }) w.holds) w) w (with_lost lost (g.N.Nodes.world c.own-owned.new.self)) (cc) (lost_after lost c.own-owned.result (λ _. with_holds (with_hold (record { node = c.args.page; op = c.args.walk.now.op; own = true }) (g.N.Nodes.world c.args.nodes.now).holds) (g.N.Nodes.world c.args.nodes.now)) (g.N.Nodes.world c.args.nodes.now) (g.N.Nodes.world c.own-owned.new.self) c.own-owned.ensures.world))),
  (let w = with_lost lost (g.N.Nodes.world c.args.nodes.now) in
      own_keys c.args.walk.now c.args.page w (with_lost lost (g.N.Nodes.world c.own-owned.new.self)) stands (free_when_done c.own-owned.result (find (bars c.args.page c.args.walk.now.op true) w.holds) (cc) c.own-owned.ensures.busy)
      (after_done c.own-owned.result (λ _. with_holds (with_hold (record { node = c.args.page; op = c.args.walk.now.op; own = true }) w.holds) w) w (with_lost lost (g.N.Nodes.world c.own-owned.new.self)) (cc) (lost_after lost c.own-owned.result (λ _. with_holds (with_hold (record { node = c.args.page; op = c.args.walk.now.op; own = true }) (g.N.Nodes.world c.args.nodes.now).holds) (g.N.Nodes.world c.args.nodes.now)) (g.N.Nodes.world c.args.nodes.now) (g.N.Nodes.world c.own-owned.new.self) c.own-owned.ensures.world))),
)
