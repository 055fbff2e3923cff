use Rattle.ct_pairs.proofs.RowPairs.{has_key_of-pairs, has_key_of-none}
use Rattle.ct_pairs.proofs.laws.keys_are_those_of_pairs.Goals as goal

pub returns-clause-key : goal.returns-clause-key
returns-clause-key c = has_key_of-pairs c.args.index.now c.args.num c.args.image.now c.args.rows.now

pub returns-clause-none : goal.returns-clause-none
returns-clause-none c = has_key_of-none c.args.index.now c.args.num c.args.image.now c.args.rows.now
