use Rattle.ct_line.proofs.Spelled.{spelled}
use Rattle.ct_line.proofs.laws.spelled_call_is_read.Goals as goal

pub returns : goal.returns
returns c = spelled
