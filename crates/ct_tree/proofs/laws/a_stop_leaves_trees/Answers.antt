use Rattle.ct_tree_laws.proofs.Stops.{tree_stopped, apart_stopped, begins_stopped}
use Rattle.ct_tree.proofs.laws.a_stop_leaves_trees.Goals as goal

pub returns-clause-tree : goal.returns-clause-tree
returns-clause-tree c = tree_stopped

pub returns-clause-apart : goal.returns-clause-apart
returns-clause-apart c = apart_stopped

pub returns-clause-begins : goal.returns-clause-begins
returns-clause-begins c = begins_stopped
