use Rattle.ct_pairs.proofs.RowPairs.{pairs_of-taken}
use Rattle.ct_pairs.proofs.laws.pairs_of_one_less.Goals as goal

pub returns : goal.returns
returns c = pairs_of-taken c.args.index.now c.args.num c.args.old.now c.args.rows.now c.requires.rising c.requires.old
