use Rattle.ct_definitions.specs.Pairs.{pairs_of}
use Rattle.ct_pairs.proofs.RowPairs.{found_pair-among, IsOfRecord-pairs_of}
use Rattle.ct_pairs.proofs.laws.found_pairs_have_records.Goals as goal

pub returns-clause-among : goal.returns-clause-among
returns-clause-among c = found_pair-among c.args.seek (pairs_of c.args.index.now c.args.rows.now)

pub returns-clause-record_of : goal.returns-clause-record_of
returns-clause-record_of c = λ pair found. IsOfRecord-pairs_of pair c.args.index.now c.args.rows.now c.requires (found_pair-among c.args.seek (pairs_of c.args.index.now c.args.rows.now) pair found)
