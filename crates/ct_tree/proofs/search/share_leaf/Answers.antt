use Rattle.std.proofs.Common.{false}
use Rattle.std.specs.Prelude.{find}
use Rattle.ct_latch.specs.Latches.{bars, with_share}
use Rattle.ct_node.specs.Worlds.{with_holds}
use Rattle.ct_tree_laws.specs.declared.walk.Stage.TheVariants as stage
use Rattle.ct_tree_laws.proofs.SearchTurns.{share_first, share_keys}
use Rattle.ct_tree.proofs.Done.{after_done, free_when_done}
use Rattle.ct_node.specs.Worlds.{with_lost}
use Rattle.ct_tree_laws.proofs.Lost.{lost_after}
use Rattle.ct_tree.proofs.search.share_leaf.Goals as goal

pub returns-clause-turned : goal.returns-clause-turned
returns-clause-turned g c = λ lost sound stands. (
  (c.share-shared.ensures.sound lost sound),
  (let w = with_lost lost (g.N.Nodes.world c.args.nodes.now) in
      share_first c.args.walk.now c.args.above c.args.page w (with_lost lost (g.N.Nodes.world c.share-shared.new.self)) stands (free_when_done c.share-shared.result (find (bars c.args.page c.args.walk.now.op false) w.holds) (cc) c.share-shared.ensures.busy)
      (after_done c.share-shared.result (λ _. with_holds (with_share c.args.page c.args.walk.now.op w.holds) w) w (with_lost lost (g.N.Nodes.world c.share-shared.new.self)) (cc) (lost_after lost c.share-shared.result (λ _. with_holds (with_share c.args.page c.args.walk.now.op (g.N.Nodes.world c.args.nodes.now).holds) (g.N.Nodes.world c.args.nodes.now)) (g.N.Nodes.world c.args.nodes.now) (g.N.Nodes.world c.share-shared.new.self) c.share-shared.ensures.world))),
  (let w = with_lost lost (g.N.Nodes.world c.args.nodes.now) in
      share_keys c.args.walk.now (stage.Leaf c.args.page) c.args.page w (with_lost lost (g.N.Nodes.world c.share-shared.new.self)) stands (free_when_done c.share-shared.result (find (bars c.args.page c.args.walk.now.op false) w.holds) (cc) c.share-shared.ensures.busy)
      (after_done c.share-shared.result (λ _. with_holds (with_share c.args.page c.args.walk.now.op w.holds) w) w (with_lost lost (g.N.Nodes.world c.share-shared.new.self)) (cc) (lost_after lost c.share-shared.result (λ _. with_holds (with_share c.args.page c.args.walk.now.op (g.N.Nodes.world c.args.nodes.now).holds) (g.N.Nodes.world c.args.nodes.now)) (g.N.Nodes.world c.args.nodes.now) (g.N.Nodes.world c.share-shared.new.self) c.share-shared.ensures.world))),
)
