use Rattle.std.proofs.Common.{refl}
use Rattle.ct_node.specs.Worlds.{with_lost}
use Rattle.ct_tree.specs.Schedules.{Puts}
use Rattle.ct_tree.specs.Answers.{IsPutting}
use Rattle.ct_tree_laws.proofs.Turns.{stays}
use Rattle.ct_tree.proofs.Programs.{not_ended, kept_goes, same_goes, put_ends}
use Rattle.ct_tree.proofs.program.turn_put.Goals as goal

pub returns-then-is_ended-clause-stepped : goal.returns-then-is_ended-clause-stepped
returns-then-is_ended-clause-stepped g c = λ lost sound remembers. let w = with_lost lost (g.N.Nodes.world c.args.nodes.now) in (sound, stays c.args.put.now.walk c.args.put.now.stage w w refl remembers.stands)

pub returns-then-is_ended-clause-happens : goal.returns-then-is_ended-clause-happens
returns-then-is_ended-clause-happens g c = λ lost sound remembers. same_goes (with_lost lost (g.N.Nodes.world c.args.nodes.now))

pub turn-requires-clause-open : goal.turn-requires-clause-open
turn-requires-clause-open g c = not_ended (IsPutting c.args.put.now.stage) c.args.put.now.stage (cc) c.requires.ready

pub returns-in-Done-clause-stepped : goal.returns-in-Done-clause-stepped
returns-in-Done-clause-stepped g c = λ lost sound remembers. let turned = c.in-Done.ensures.turned lost sound remembers in (turned.0, turned.1)

pub returns-in-More-clause-stepped : goal.returns-in-More-clause-stepped
returns-in-More-clause-stepped g c = λ lost sound remembers. let turned = c.in-More.ensures.turned lost sound remembers in (turned.0, turned.1)

pub returns-in-Busy-clause-stepped : goal.returns-in-Busy-clause-stepped
returns-in-Busy-clause-stepped g c = λ lost sound remembers. let turned = c.in-Busy.ensures.turned lost sound remembers in (turned.0, turned.1)

pub returns-in-Refused-clause-stepped : goal.returns-in-Refused-clause-stepped
returns-in-Refused-clause-stepped g c = λ lost sound remembers. let turned = c.in-Refused.ensures.turned lost sound remembers in (turned.0, turned.1)

pub returns-in-Done-clause-happens : goal.returns-in-Done-clause-happens
returns-in-Done-clause-happens g c = λ lost sound remembers.
    put_ends c.args.put.now.walk (with_lost lost (g.N.Nodes.world c.args.nodes.now)) (with_lost lost (g.N.Nodes.world c.turn.new.nodes)) (c.in-Done.ensures.turned lost sound remembers).2

pub returns-in-More-clause-happens : goal.returns-in-More-clause-happens
returns-in-More-clause-happens g c = λ lost sound remembers. kept_goes (with_lost lost (g.N.Nodes.world c.args.nodes.now)) (with_lost lost (g.N.Nodes.world c.turn.new.nodes)) (Puts c.args.put.now.walk.at c.args.put.now.walk.target) (c.in-More.ensures.turned lost sound remembers).2

pub returns-in-Busy-clause-happens : goal.returns-in-Busy-clause-happens
returns-in-Busy-clause-happens g c = λ lost sound remembers. kept_goes (with_lost lost (g.N.Nodes.world c.args.nodes.now)) (with_lost lost (g.N.Nodes.world c.turn.new.nodes)) (Puts c.args.put.now.walk.at c.args.put.now.walk.target) (c.in-Busy.ensures.turned lost sound remembers).2

pub returns-in-Refused-clause-happens : goal.returns-in-Refused-clause-happens
returns-in-Refused-clause-happens g c = λ lost sound remembers. kept_goes (with_lost lost (g.N.Nodes.world c.args.nodes.now)) (with_lost lost (g.N.Nodes.world c.turn.new.nodes)) (Puts c.args.put.now.walk.at c.args.put.now.walk.target) (c.in-Refused.ensures.turned lost sound remembers).2
