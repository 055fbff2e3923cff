use Rattle.ct_laws.proofs.Histories.{Begins-itself, Begins-trans}
use Rattle.ct_laws.proofs.history_laws.histories_begin.Goals as goal

pub returns-clause-itself : goal.returns-clause-itself
returns-clause-itself c = Begins-itself

pub returns-clause-onward : goal.returns-clause-onward
returns-clause-onward c = Begins-trans
