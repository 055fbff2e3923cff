use Rattle.std.proofs.Common.{refl}
use Rattle.ct_node.specs.Worlds.{with_lost}
use Rattle.ct_tree.specs.Schedules.{Searches}
use Rattle.ct_tree.specs.Answers.{IsSearchingBy}
use Rattle.ct_tree_laws.proofs.Turns.{stays}
use Rattle.ct_tree.proofs.Programs.{not_ended, kept_goes, same_goes, search_ends}
use Rattle.ct_tree.proofs.program.turn_search.Goals as goal

pub returns-then-is_ended-clause-stepped : goal.returns-then-is_ended-clause-stepped
returns-then-is_ended-clause-stepped g c = λ lost sound remembers. let w = with_lost lost (g.N.Nodes.world c.args.nodes.now) in (sound, stays c.args.search.now.walk c.args.search.now.stage w w refl remembers.stands)

pub returns-then-is_ended-clause-happens : goal.returns-then-is_ended-clause-happens
returns-then-is_ended-clause-happens g c = λ lost sound remembers. same_goes (with_lost lost (g.N.Nodes.world c.args.nodes.now))

pub turn-requires : goal.turn-requires
turn-requires g c = record { «open» = not_ended (IsSearchingBy c.args.search.now.seek c.args.search.now.stage) c.args.search.now.stage (cc) c.requires.ready }

pub returns-in-Done-clause-stepped : goal.returns-in-Done-clause-stepped
returns-in-Done-clause-stepped g c = λ lost sound remembers. let turned = c.in-Done.ensures.turned lost sound remembers in (turned.0, turned.1)

pub returns-in-More-clause-stepped : goal.returns-in-More-clause-stepped
returns-in-More-clause-stepped g c = λ lost sound remembers. let turned = c.in-More.ensures.turned lost sound remembers in (turned.0, turned.1)

pub returns-in-Busy-clause-stepped : goal.returns-in-Busy-clause-stepped
returns-in-Busy-clause-stepped g c = λ lost sound remembers. let turned = c.in-Busy.ensures.turned lost sound remembers in (turned.0, turned.1)

pub returns-in-Refused-clause-stepped : goal.returns-in-Refused-clause-stepped
returns-in-Refused-clause-stepped g c = λ lost sound remembers. let turned = c.in-Refused.ensures.turned lost sound remembers in (turned.0, turned.1)

pub returns-in-Done-clause-happens : goal.returns-in-Done-clause-happens
returns-in-Done-clause-happens g c = λ lost sound remembers.
    search_ends c.args.search.now.walk c.args.search.now.seek c.in-Done.found (with_lost lost (g.N.Nodes.world c.args.nodes.now)) (with_lost lost (g.N.Nodes.world c.turn.new.nodes)) (c.in-Done.ensures.turned lost sound remembers).2 (c.in-Done.ensures.found lost sound remembers)

pub returns-in-More-clause-happens : goal.returns-in-More-clause-happens
returns-in-More-clause-happens g c = λ lost sound remembers. kept_goes (with_lost lost (g.N.Nodes.world c.args.nodes.now)) (with_lost lost (g.N.Nodes.world c.turn.new.nodes)) (Searches c.args.search.now.walk.at c.args.search.now.walk.target c.args.search.now.seek) (c.in-More.ensures.turned lost sound remembers).2

pub returns-in-Busy-clause-happens : goal.returns-in-Busy-clause-happens
returns-in-Busy-clause-happens g c = λ lost sound remembers. kept_goes (with_lost lost (g.N.Nodes.world c.args.nodes.now)) (with_lost lost (g.N.Nodes.world c.turn.new.nodes)) (Searches c.args.search.now.walk.at c.args.search.now.walk.target c.args.search.now.seek) (c.in-Busy.ensures.turned lost sound remembers).2

pub returns-in-Refused-clause-happens : goal.returns-in-Refused-clause-happens
returns-in-Refused-clause-happens g c = λ lost sound remembers. kept_goes (with_lost lost (g.N.Nodes.world c.args.nodes.now)) (with_lost lost (g.N.Nodes.world c.turn.new.nodes)) (Searches c.args.search.now.walk.at c.args.search.now.walk.target c.args.search.now.seek) (c.in-Refused.ensures.turned lost sound remembers).2
