use Rattle.ct_laws.proofs.Allowed.{make_allowed}
use Rattle.ct_laws.proofs.allowed_laws.makes_are_allowed.Goals as goal

pub returns : goal.returns
returns c = make_allowed
