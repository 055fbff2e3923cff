use Rattle.std.proofs.Common.{refl}
use Rattle.ct_tree_laws.specs.Stands.{HasNone}
use Rattle.ct_tree_laws.proofs.SearchTurns.{begin_again, again_keys, none_left}
use Rattle.ct_tree.proofs.Done.{tidy_by}
use Rattle.ct_node.specs.Worlds.{with_lost}
use Rattle.std.proofs.Common.{ap}
use Rattle.ct_tree.proofs.search.give_way.Goals as goal

pub returns-in-Busy-clause-turned : goal.returns-in-Busy-clause-turned
returns-in-Busy-clause-turned g c = λ lost sound stands. (
  (c.free_all.ensures.sound lost (sound)
      (tidy_by c.args.walk.now c.args.seek c.args.stage.now (with_lost lost (g.N.Nodes.world c.args.nodes.now)) c.requires.open stands)),
  (begin_again c.args.walk.now c.args.stage.now (with_lost lost (g.N.Nodes.world c.args.nodes.now)) (with_lost lost (g.N.Nodes.world c.args.nodes.now)) (with_lost lost (g.N.Nodes.world c.free_all.new.self)) stands (tidy_by c.args.walk.now c.args.seek c.args.stage.now (with_lost lost (g.N.Nodes.world c.args.nodes.now)) c.requires.open) refl (ap (with_lost lost) c.free_all.ensures.world)),
  (again_keys c.args.walk.now c.args.stage.now (with_lost lost (g.N.Nodes.world c.args.nodes.now)) (with_lost lost (g.N.Nodes.world c.args.nodes.now)) (with_lost lost (g.N.Nodes.world c.free_all.new.self)) stands refl (ap (with_lost lost) c.free_all.ensures.world)),
)

pub returns-in-Busy-clause-given_back : goal.returns-in-Busy-clause-given_back
returns-in-Busy-clause-given_back g c =
    let now = g.N.Nodes.world c.free_all.new.self in
    let none : HasNone c.args.walk.now.op now = λ page. none_left c.args.walk.now.op page (g.N.Nodes.world c.args.nodes.now) (g.N.Nodes.world c.args.nodes.now) now refl c.free_all.ensures.world in
    rw c.in-Busy.is none
