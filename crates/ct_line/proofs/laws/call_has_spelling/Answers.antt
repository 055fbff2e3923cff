use Rattle.ct_line.proofs.Spellings.{has_spelling}
use Rattle.ct_line.proofs.laws.call_has_spelling.Goals as goal

pub returns : goal.returns
returns c = has_spelling
