use Rattle.ct_line.proofs.Back.{read_back}
use Rattle.ct_line.proofs.laws.read_call_is_spelled.Goals as goal

pub returns : goal.returns
returns c = read_back
