use Rattle.ct_laws.proofs.Pairs.{pairs_of-with_row}
use Rattle.ct_pairs.proofs.RowPairs.{row_at-no_image, IsApart-absent}
use Rattle.ct_pairs.proofs.laws.pairs_of_one_more.Goals as goal

pub returns-clause-pairs : goal.returns-clause-pairs
returns-clause-pairs c = pairs_of-with_row c.args.index.now (record { num = c.args.num; image = c.args.image.now }) c.args.rows.now

pub returns-clause-apart : goal.returns-clause-apart
returns-clause-apart c = λ none. IsApart-absent c.args.index.now (record { num = c.args.num; image = c.args.image.now }) c.args.rows.now (row_at-no_image c.args.num c.args.rows.now none)
