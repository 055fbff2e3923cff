use Rattle.ct_laws.proofs.Pairs.{Contains-pairs_of, keys_once_of}
use Rattle.ct_laws.proofs.pair_laws.pairs_are_of_records.Goals as goal

pub returns-clause-records : goal.returns-clause-records
returns-clause-records c = Contains-pairs_of

pub returns-clause-once : goal.returns-clause-once
returns-clause-once c = keys_once_of
