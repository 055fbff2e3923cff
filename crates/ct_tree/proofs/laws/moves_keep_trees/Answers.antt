use Rattle.ct_tree_laws.proofs.Moves.{tree_moved, apart_moved, keeps_moved}
use Rattle.ct_tree.proofs.laws.moves_keep_trees.Goals as goal

pub returns-clause-tree : goal.returns-clause-tree
returns-clause-tree c = tree_moved

pub returns-clause-apart : goal.returns-clause-apart
returns-clause-apart c = apart_moved

pub returns-clause-keeps : goal.returns-clause-keeps
returns-clause-keeps c = keeps_moved
