use Rattle.std.proofs.Common.{set}
use Rattle.std.proofs.lemmas.List.Elements.{All-set}
use Rattle.ct_tree.specs.declared.random_tests.Look.{Look}
use Rattle.ct_tree.specs.Answers.{IsSearchingBy}
use Rattle.ct_tree.proofs.random_tests.Crowd.turn_look_at.Goals as goal

abbrev IsOn : Look → Type 0
IsOn look = IsSearchingBy look.search.seek look.search.stage

pub returns-in_err-turn_look-clause-open : goal.returns-in_err-turn_look-clause-open
returns-in_err-turn_look-clause-open c = All-set IsOn c.args.looks.now c.args.place c.turn_look.new.look c.turn_look.ensures c.requires.open

pub returns-in_err-new-clause-open : goal.returns-in_err-new-clause-open
returns-in_err-new-clause-open c = All-set IsOn c.args.looks.now c.args.place c.turn_look.new.look c.turn_look.ensures c.requires.open

pub returns-in_ok-new-clause-open : goal.returns-in_ok-new-clause-open
returns-in_ok-new-clause-open c = rw c.replace-old.ensures.after (All-set IsOn (set c.args.looks.now c.args.place c.turn_look.new.look) c.args.place c.in_ok-new.new c.in_ok-new.ensures (All-set IsOn c.args.looks.now c.args.place c.turn_look.new.look c.turn_look.ensures c.requires.open))

pub returns-else-branch-clause-open : goal.returns-else-branch-clause-open
returns-else-branch-clause-open c = All-set IsOn c.args.looks.now c.args.place c.turn_look.new.look c.turn_look.ensures c.requires.open
