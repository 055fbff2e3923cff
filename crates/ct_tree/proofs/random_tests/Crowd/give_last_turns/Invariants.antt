use Rattle.std.proofs.Common.{◌≡◌, length}
use Rattle.std.specs.List.{All}
use Rattle.ct_tree.specs.Schedules.{IsReady}
use Rattle.ct_tree.specs.Answers.{IsSearchingBy}
use Rattle.ct_tree.proofs.random_tests.Crowd.give_last_turns.Given as goal

abbrev pub invariant-loop-round : goal.invariant-loop-round
invariant-loop-round l = record {
  changes : length l.changes ≡ 5;
  looks : length l.looks ≡ 3;
  ready : All (λ change. IsReady change.program) l.changes;
  open_stage : All (λ look. IsSearchingBy look.search.seek look.search.stage) l.looks;
}
