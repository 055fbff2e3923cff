use Rattle.std.proofs.Common.{All}
use Rattle.ct_replay.specs.Images.{IsPlaceable}
use Rattle.ct_replay.proofs.tests.groups_of.Given as goal

abbrev pub invariant-loop-page : goal.invariant-loop-page
invariant-loop-page l = All IsPlaceable l.groups.items
