use Rattle.std.proofs.Common.{refl, ap}
use Rattle.ct_node.specs.Worlds.{with_lost}
use Rattle.ct_tree_laws.proofs.SearchTurns.{end_stepped, again_keys, none_left}
use Rattle.ct_tree.proofs.Coming.{come_ended}
use Rattle.ct_tree.proofs.Done.{tidy_by}
use Rattle.ct_tree.proofs.search.Search.end.Goals as goal

pub returns-clause-turned : goal.returns-clause-turned
returns-clause-turned g c = λ lost sound remembers.
    let w = with_lost lost (g.N.Nodes.world c.args.nodes.now) in
    let now = with_lost lost (g.N.Nodes.world c.free_all.new.self) in (
      c.free_all.ensures.sound lost sound (tidy_by c.args.self.now.walk c.args.self.now.seek c.args.self.now.stage w c.requires.open remembers.stands),
      end_stepped c.args.self.now.walk c.args.self.now.stage w now remembers.stands (ap (with_lost lost) c.free_all.ensures.world),
      again_keys c.args.self.now.walk c.args.self.now.stage w w now remembers.stands refl (ap (with_lost lost) c.free_all.ensures.world),
    )

pub returns-clause-given_back : goal.returns-clause-given_back
returns-clause-given_back g c page = none_left c.args.self.now.walk.op page (g.N.Nodes.world c.args.nodes.now) (g.N.Nodes.world c.args.nodes.now) (g.N.Nodes.world c.free_all.new.self) refl c.free_all.ensures.world

pub returns-clause-come : goal.returns-clause-come
returns-clause-come g c = λ lost sound remembers. come_ended c.args.self.now.ways (with_lost lost (g.N.Nodes.world c.free_all.new.self))
