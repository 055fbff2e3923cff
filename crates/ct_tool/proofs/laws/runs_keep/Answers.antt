use Rattle.ct_tool.proofs.Composing.{all_keep}
use Rattle.ct_tool.proofs.laws.runs_keep.Goals as goal

pub returns : goal.returns
returns g c = λ first next rest runs. all_keep g.P.Disk.may_leave g.L.Disk.may_leave first next rest runs
