use Rattle.ct_tree.proofs.Descents.{no_descent}
use Rattle.ct_tree.proofs.Lefts.{turn_falls}
use Rattle.ct_tree.proofs.moves.turns_come_to_an_end.Goals as goal

pub returns : goal.returns
returns c = record { less = turn_falls; ends = no_descent }
