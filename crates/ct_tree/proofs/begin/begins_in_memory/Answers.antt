use Rattle.ct_tree_laws.proofs.NewTree.{new_stands, new_chain}
use Rattle.ct_tree.proofs.begin.begins_in_memory.Goals as goal

pub returns-clause-stands : goal.returns-clause-stands
returns-clause-stands c key_len some short = new_stands key_len some short

pub returns-clause-pairs : goal.returns-clause-pairs
returns-clause-pairs c key_len some short = new_chain key_len some short
