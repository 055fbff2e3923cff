use Rattle.std.proofs.Common.{refl}
use Rattle.ct_disk.specs.declared.turn.Turn.TheVariants.{More}
use Rattle.ct_tree.specs.Moves.{spot_of, moves_after}
use Rattle.ct_tree.proofs.Paths.{counted_may_move}
use Rattle.ct_tree.proofs.Counting.{turn_counts}
use Rattle.ct_tree.proofs.moves.walks_go_in_no_circle.Goals as goal

pub returns-clause-moves : goal.returns-clause-moves
returns-clause-moves c w at moves apart counted = counted_may_move w (spot_of at) moves apart counted

pub returns-clause-counted : goal.returns-clause-counted
returns-clause-counted c walk w now before after from to moves stands stepped rule counted = turn_counts {T = Unit {0}} More walk w now before after from to moves (moves_after (spot_of from) (spot_of to) moves) stands stepped rule counted refl
