use Rattle.ct_text.proofs.RoundTrip.{spelled_is_read}
use Rattle.ct_text.proofs.laws.spelled_word_is_read.Goals as goal

pub returns : goal.returns
returns c = spelled_is_read
