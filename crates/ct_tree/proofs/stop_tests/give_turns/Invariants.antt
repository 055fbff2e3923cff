use Rattle.ct_tree.specs.Schedules.{IsReady}
use Rattle.ct_tree.proofs.stop_tests.give_turns.Given as goal

abbrev pub invariant-loop-turn : goal.invariant-loop-turn
invariant-loop-turn l = IsReady l.program
