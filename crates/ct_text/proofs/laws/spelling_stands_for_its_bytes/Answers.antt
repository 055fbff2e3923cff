use Rattle.ct_text.proofs.RoundTrip.{Spells-spelling}
use Rattle.ct_text.proofs.laws.spelling_stands_for_its_bytes.Goals as goal

pub returns : goal.returns
returns c = Spells-spelling
