use Rattle.ct_script.proofs.Readings.{end_missing, end_found, not_true, not_false}
use Rattle.ct_script.proofs.script.Reading.end.Goals as goal

pub returns-then-not-self : goal.returns-then-not-self
returns-then-not-self c = λ before same. end_missing before c.args.self same (not_true c.args.self.seen.end c.if-not-self.true)

pub returns : goal.returns
returns c = λ before same. end_found before c.args.self same (not_false c.args.self.seen.end c.if-not-self.false)
