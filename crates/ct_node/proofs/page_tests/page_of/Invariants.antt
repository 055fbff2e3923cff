use Rattle.std.proofs.Common.{◌≤◌}
use Rattle.ct_node.proofs.page_tests.page_of.Given as goal

abbrev pub invariant-loop-number : goal.invariant-loop-number
invariant-loop-number l = l.number_at ≤ 8000
