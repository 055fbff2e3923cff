use Rattle.ct_laws.proofs.Histories.{IsHistory-front, last_number-front, Begins-front}
use Rattle.ct_laws.proofs.history_laws.histories_stop.Goals as goal

pub returns-clause-history : goal.returns-clause-history
returns-clause-history c = IsHistory-front

pub returns-clause-last : goal.returns-clause-last
returns-clause-last c = last_number-front

pub returns-clause-begins : goal.returns-clause-begins
returns-clause-begins c = Begins-front
