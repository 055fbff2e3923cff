use Rattle.std.proofs.Common.{set}
use Rattle.std.proofs.lemmas.List.Elements.{All-set}
use Rattle.ct_tree.specs.declared.random_tests.Change.{Change}
use Rattle.ct_tree.specs.Schedules.{IsReady}
use Rattle.ct_tree.proofs.random_tests.Crowd.turn_change_at.Goals as goal

abbrev IsOn : Change → Type 0
IsOn change = IsReady change.program

pub returns-in_err-turn_change-clause-ready : goal.returns-in_err-turn_change-clause-ready
returns-in_err-turn_change-clause-ready c = All-set IsOn c.args.changes.now c.args.place c.turn_change.new.change c.turn_change.ensures c.requires.ready

pub returns-in_err-new-clause-ready : goal.returns-in_err-new-clause-ready
returns-in_err-new-clause-ready c = All-set IsOn c.args.changes.now c.args.place c.turn_change.new.change c.turn_change.ensures c.requires.ready

pub returns-in_ok-new-clause-ready : goal.returns-in_ok-new-clause-ready
returns-in_ok-new-clause-ready c = rw c.replace-old.ensures.after (All-set IsOn (set c.args.changes.now c.args.place c.turn_change.new.change) c.args.place c.in_ok-new.new c.in_ok-new.ensures (All-set IsOn c.args.changes.now c.args.place c.turn_change.new.change c.turn_change.ensures c.requires.ready))

pub returns-else-branch-clause-ready : goal.returns-else-branch-clause-ready
returns-else-branch-clause-ready c = All-set IsOn c.args.changes.now c.args.place c.turn_change.new.change c.turn_change.ensures c.requires.ready
