use Rattle.ct_laws.proofs.Histories.{after_up_to_last, after_up_to_base, transactions_above_base, transactions_split}
use Rattle.ct_laws.proofs.history_laws.histories_up_to.Goals as goal

pub returns-clause-last : goal.returns-clause-last
returns-clause-last c = after_up_to_last

pub returns-clause-base : goal.returns-clause-base
returns-clause-base c = after_up_to_base

pub returns-clause-above_base : goal.returns-clause-above_base
returns-clause-above_base c = transactions_above_base

pub returns-clause-parts : goal.returns-clause-parts
returns-clause-parts c = transactions_split
