use Rattle.ct_beside.proofs.Staying.{stay_apart}
use Rattle.ct_beside.proofs.changes_stay_apart.Goals as goal

pub returns : goal.returns
returns c = stay_apart
