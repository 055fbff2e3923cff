use Rattle.ct_pairs.proofs.RowPairs.{IsOfRecord-pairs_of}
use Rattle.ct_pairs.proofs.laws.pairs_have_records.Goals as goal

pub returns : goal.returns
returns c = λ pair among. IsOfRecord-pairs_of pair c.args.index.now c.args.rows.now c.requires among
