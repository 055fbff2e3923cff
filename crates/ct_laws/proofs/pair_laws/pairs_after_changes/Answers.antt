use Rattle.ct_laws.proofs.Pairs.{pairs_of-with_row, pairs_of-without_row, pairs_of-with_image}
use Rattle.ct_laws.proofs.pair_laws.pairs_after_changes.Goals as goal

pub returns-clause-add : goal.returns-clause-add
returns-clause-add c = pairs_of-with_row

pub returns-clause-delete : goal.returns-clause-delete
returns-clause-delete c = pairs_of-without_row

pub returns-clause-rewrite : goal.returns-clause-rewrite
returns-clause-rewrite c = pairs_of-with_image
