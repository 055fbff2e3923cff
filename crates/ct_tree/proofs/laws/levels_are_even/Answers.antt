use Rattle.ct_tree_laws.proofs.Levels.{level_unique}
use Rattle.ct_tree_laws.proofs.EvenLevels.{right_is_beside, below_is_lower}
use Rattle.ct_tree.proofs.laws.levels_are_even.Goals as goal

pub returns-clause-one : goal.returns-clause-one
returns-clause-one c = level_unique

pub returns-clause-right : goal.returns-clause-right
returns-clause-right c = right_is_beside

pub returns-clause-below : goal.returns-clause-below
returns-clause-below c = below_is_lower
