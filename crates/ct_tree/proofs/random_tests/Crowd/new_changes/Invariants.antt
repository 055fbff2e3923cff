use Rattle.std.proofs.Common.{◌≡◌, length}
use Rattle.std.specs.List.{All}
use Rattle.ct_tree.specs.Schedules.{IsReady}
use Rattle.ct_tree.proofs.random_tests.Crowd.new_changes.Given as goal

abbrev pub invariant-loop-change : goal.invariant-loop-change
invariant-loop-change l = record { count : length l.changes.items ≡ l._change; ready : All (λ change. IsReady change.program) l.changes.items }
