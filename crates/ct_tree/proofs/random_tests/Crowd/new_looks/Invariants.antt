use Rattle.std.proofs.Common.{◌≡◌, length}
use Rattle.std.specs.List.{All}
use Rattle.ct_tree.specs.Answers.{IsSearchingBy}
use Rattle.ct_tree.proofs.random_tests.Crowd.new_looks.Given as goal

abbrev pub invariant-loop-look : goal.invariant-loop-look
invariant-loop-look l = record { count : length l.looks.items ≡ l._look; open_stage : All (λ look. IsSearchingBy look.search.seek look.search.stage) l.looks.items }
