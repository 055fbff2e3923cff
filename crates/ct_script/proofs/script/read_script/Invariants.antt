use Rattle.std.proofs.Common.{length}
use Rattle.ct_script.specs.Reading.{IsReadUpTo}
use Rattle.ct_script.proofs.script.read_script.Given as goal

abbrev pub invariant-loop-line : goal.invariant-loop-line
invariant-loop-line l = IsReadUpTo l.text l.rest l.reading

abbrev pub decreases-loop-line : goal.decreases-loop-line
decreases-loop-line l = length l.rest
