use Rattle.std.proofs.Common.{◌≡◌, drop}
use Rattle.ct_line.specs.declared.reading.Reading.TheVariants.{Command}
use Rattle.ct_line.specs.Grammar.{call_of}
use Rattle.ct_line.proofs.line.call_of.Given as goal

abbrev pub invariant-loop-word : goal.invariant-loop-word
invariant-loop-word l = call_of l.end l.reading (drop l.word-index l.words) ≡ call_of l.end Command l.words
