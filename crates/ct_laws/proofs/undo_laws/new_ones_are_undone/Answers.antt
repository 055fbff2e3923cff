use Rattle.ct_laws.proofs.Undo.{make_back_allowed, make_back, add_back_allowed, add_back}
use Rattle.ct_laws.proofs.undo_laws.new_ones_are_undone.Goals as goal

pub returns-clause-make_allowed : goal.returns-clause-make_allowed
returns-clause-make_allowed c = make_back_allowed

pub returns-clause-make : goal.returns-clause-make
returns-clause-make c = make_back

pub returns-clause-add_allowed : goal.returns-clause-add_allowed
returns-clause-add_allowed c = add_back_allowed

pub returns-clause-add : goal.returns-clause-add
returns-clause-add c = add_back
