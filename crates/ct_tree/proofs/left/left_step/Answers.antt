use Rattle.ct_tree.proofs.left.left_step.Goals as goal

pub returns-in-Leaf-clause-searching : goal.returns-in-Leaf-clause-searching
returns-in-Leaf-clause-searching g c = c.share_first.ensures.searching c.args.or_at
