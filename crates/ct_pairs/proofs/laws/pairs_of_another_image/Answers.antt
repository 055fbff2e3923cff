use Rattle.ct_pairs.proofs.RowPairs.{pairs_of-changed, IsApart-changed}
use Rattle.ct_pairs.proofs.laws.pairs_of_another_image.Goals as goal

pub returns-clause-pairs : goal.returns-clause-pairs
returns-clause-pairs c = pairs_of-changed c.args.index.now c.args.num c.args.old.now c.args.new.now c.args.rows.now c.requires.rising c.requires.old

pub returns-clause-apart : goal.returns-clause-apart
returns-clause-apart c = IsApart-changed c.args.index.now c.args.num c.args.old.now c.args.new.now c.args.rows.now c.requires.rising c.requires.old
