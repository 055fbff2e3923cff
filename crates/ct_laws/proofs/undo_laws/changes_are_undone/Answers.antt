use Rattle.ct_laws.proofs.Undo.{back_allowed, back_undoes, all_back}
use Rattle.ct_laws.proofs.undo_laws.changes_are_undone.Goals as goal

pub returns-clause-allowed : goal.returns-clause-allowed
returns-clause-allowed c = back_allowed

pub returns-clause-undone : goal.returns-clause-undone
returns-clause-undone c = back_undoes

pub returns-clause-all : goal.returns-clause-all
returns-clause-all c = all_back
