-- What is left to test decides.
use Rattle.std.proofs.Common.{◌≡◌, drop}
use Rattle.ct_definitions.specs.Validity.{have_own_names}
use Rattle.ct_model.proofs.validity.have_own_names.Given as goal

abbrev pub invariant-loop-i : goal.invariant-loop-i
invariant-loop-i l = have_own_names l.indexes ≡ have_own_names (drop l.i l.indexes)
