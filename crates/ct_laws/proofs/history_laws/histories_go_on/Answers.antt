use Rattle.ct_laws.proofs.Histories.{IsHistory-rest, after-rest, last_number-rest, Begins-rest}
use Rattle.ct_laws.proofs.history_laws.histories_go_on.Goals as goal

pub returns-clause-history : goal.returns-clause-history
returns-clause-history c = IsHistory-rest

pub returns-clause-after : goal.returns-clause-after
returns-clause-after c = after-rest

pub returns-clause-last : goal.returns-clause-last
returns-clause-last c = last_number-rest

pub returns-clause-begins : goal.returns-clause-begins
returns-clause-begins c = Begins-rest
