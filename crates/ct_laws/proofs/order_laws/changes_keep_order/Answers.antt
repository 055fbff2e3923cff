use Rattle.ct_laws.proofs.Order.{IsInOrder-empty, IsInOrder-changed}
use Rattle.ct_laws.proofs.Histories.{IsInOrder-after_changes}
use Rattle.ct_laws.proofs.order_laws.changes_keep_order.Goals as goal

pub returns-clause-empty : goal.returns-clause-empty
returns-clause-empty c = IsInOrder-empty

pub returns-clause-changed : goal.returns-clause-changed
returns-clause-changed c = IsInOrder-changed

pub returns-clause-after : goal.returns-clause-after
returns-clause-after c = IsInOrder-after_changes
