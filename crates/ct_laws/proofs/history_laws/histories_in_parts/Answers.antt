use Rattle.ct_laws.proofs.Histories.{after_changes-append, allows_all-append, after_transactions-append, are_defined-append}
use Rattle.ct_laws.proofs.history_laws.histories_in_parts.Goals as goal

pub returns-clause-changes : goal.returns-clause-changes
returns-clause-changes c = after_changes-append

pub returns-clause-allowed : goal.returns-clause-allowed
returns-clause-allowed c = allows_all-append

pub returns-clause-transactions : goal.returns-clause-transactions
returns-clause-transactions c = after_transactions-append

pub returns-clause-defined : goal.returns-clause-defined
returns-clause-defined c = are_defined-append
