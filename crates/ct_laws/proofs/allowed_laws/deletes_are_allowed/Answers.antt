use Rattle.ct_laws.proofs.Allowed.{delete_allowed}
use Rattle.ct_laws.proofs.allowed_laws.deletes_are_allowed.Goals as goal

pub returns : goal.returns
returns c = delete_allowed
