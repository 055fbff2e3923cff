use Rattle.std.proofs.Common.{length}
use Rattle.ct_text.proofs.Lines.{SplitSo}
use Rattle.ct_text.proofs.splitting.split_words.Given as goal

abbrev pub invariant-loop-rest : goal.invariant-loop-rest
invariant-loop-rest l = SplitSo l.line l.words l.rest

abbrev pub decreases-loop-rest : goal.decreases-loop-rest
decreases-loop-rest l = length l.rest
