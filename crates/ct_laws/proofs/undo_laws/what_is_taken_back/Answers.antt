use Rattle.ct_laws.proofs.Undo.{IsInOrder-changed_back, again_allowed, again_made, LastIsEmpty-from}
use Rattle.ct_laws.proofs.undo_laws.what_is_taken_back.Goals as goal

pub returns-clause-order : goal.returns-clause-order
returns-clause-order c = IsInOrder-changed_back

pub returns-clause-allowed : goal.returns-clause-allowed
returns-clause-allowed c = again_allowed

pub returns-clause-made : goal.returns-clause-made
returns-clause-made c = again_made

pub returns-clause-make : goal.returns-clause-make
returns-clause-make c = LastIsEmpty-from
