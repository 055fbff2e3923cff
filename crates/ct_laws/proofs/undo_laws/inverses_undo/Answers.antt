use Rattle.ct_laws.proofs.Undo.{inverse_allowed, inverse_undoes}
use Rattle.ct_laws.proofs.undo_laws.inverses_undo.Goals as goal

pub returns-clause-allowed : goal.returns-clause-allowed
returns-clause-allowed c = inverse_allowed

pub returns-clause-undone : goal.returns-clause-undone
returns-clause-undone c = inverse_undoes
