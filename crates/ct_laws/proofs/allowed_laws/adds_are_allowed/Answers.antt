use Rattle.ct_laws.proofs.Allowed.{add_allowed}
use Rattle.ct_laws.proofs.allowed_laws.adds_are_allowed.Goals as goal

pub returns : goal.returns
returns c = add_allowed
