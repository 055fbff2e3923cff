use Rattle.ct_laws.proofs.Histories.{IsInOrder-after_transactions, IsInOrder-up_to}
use Rattle.ct_laws.proofs.order_laws.histories_keep_order.Goals as goal

pub returns-clause-transactions : goal.returns-clause-transactions
returns-clause-transactions c = IsInOrder-after_transactions

pub returns-clause-history : goal.returns-clause-history
returns-clause-history c = λ h. IsInOrder-after_transactions h.base h.base_number h.transactions

pub returns-clause-up_to : goal.returns-clause-up_to
returns-clause-up_to c = IsInOrder-up_to
