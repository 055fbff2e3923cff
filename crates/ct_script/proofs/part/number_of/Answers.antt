use Rattle.std.proofs.Common.{arith}
use Rattle.ct_line.proofs.NumberWords.{number-decimal, number-none}
use Rattle.ct_script.proofs.part.number_of.Goals as goal

pub returns-in-Some : goal.returns-in-Some
returns-in-Some c = number-decimal c.in-Some.number c.args.word.now (omega arith) c.in-Some.ensures.found

pub returns-in-None : goal.returns-in-None
returns-in-None c = number-none c.args.word.now (λ n below e. absurd (let same = c.in-None.ensures.only n below e in cc))
