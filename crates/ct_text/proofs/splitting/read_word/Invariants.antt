use Rattle.std.proofs.Common.{length}
use Rattle.ct_text.proofs.Reading.{ReadSo}
use Rattle.ct_text.proofs.splitting.read_word.Given as goal

abbrev pub invariant-loop-bytes : goal.invariant-loop-bytes
invariant-loop-bytes l = ReadSo l.text l.bytes l.rest

abbrev pub decreases-loop-bytes : goal.decreases-loop-bytes
decreases-loop-bytes l = length l.rest
