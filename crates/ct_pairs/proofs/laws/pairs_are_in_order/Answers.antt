use Rattle.ct_pairs.proofs.RowPairs.{IsInOrder-pairs_of}
use Rattle.ct_pairs.proofs.laws.pairs_are_in_order.Goals as goal

pub returns : goal.returns
returns c = IsInOrder-pairs_of c.args.index.now 0 c.args.rows.now c.requires
