use Rattle.ct_laws.proofs.Allowed.{rewrite_allowed}
use Rattle.ct_laws.proofs.allowed_laws.rewrites_are_allowed.Goals as goal

pub returns : goal.returns
returns c = rewrite_allowed
