use Rattle.std.proofs.Common.{◌≡◌, map}
use Rattle.std.specs.List.{All, range_with_len}
use Rattle.ct_tree.specs.Schedules.{IsNew, op_of}
use Rattle.ct_tree.proofs.tests.puts.Given as goal

abbrev pub invariant-loop-n : goal.invariant-loop-n
invariant-loop-n l = record { new : All (IsNew 128) l.programs.items; numbers : map op_of l.programs.items ≡ range_with_len 0 l.n }
