use Rattle.ct_tree_laws.proofs.HalfSplits.{half_split, half_above, new_root, not_a_leaf, not_linked, not_below, not_root}
use Rattle.ct_tree.proofs.laws.half_split_is_not_reached.Goals as goal

pub returns-clause-half : goal.returns-clause-half
returns-clause-half c = half_split

pub returns-clause-no_leaf : goal.returns-clause-no_leaf
returns-clause-no_leaf c = not_a_leaf

pub returns-clause-no_link : goal.returns-clause-no_link
returns-clause-no_link c = not_linked

pub returns-clause-half_above : goal.returns-clause-half_above
returns-clause-half_above c = half_above

pub returns-clause-new_root : goal.returns-clause-new_root
returns-clause-new_root c = new_root

pub returns-clause-no_entry : goal.returns-clause-no_entry
returns-clause-no_entry c = not_below

pub returns-clause-no_root : goal.returns-clause-no_root
returns-clause-no_root c = not_root
