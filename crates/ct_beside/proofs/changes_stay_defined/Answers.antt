use Rattle.ct_beside.proofs.Keeping.{stay_defined}
use Rattle.ct_beside.proofs.changes_stay_defined.Goals as goal

pub returns : goal.returns
returns c = stay_defined
