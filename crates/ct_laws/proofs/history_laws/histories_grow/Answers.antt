use Rattle.ct_laws.proofs.Histories.{IsHistory-push, after-push, last_number-push, Begins-push}
use Rattle.ct_laws.proofs.history_laws.histories_grow.Goals as goal

pub returns-clause-history : goal.returns-clause-history
returns-clause-history c = IsHistory-push

pub returns-clause-after : goal.returns-clause-after
returns-clause-after c = after-push

pub returns-clause-last : goal.returns-clause-last
returns-clause-last c = last_number-push

pub returns-clause-begins : goal.returns-clause-begins
returns-clause-begins c = Begins-push
