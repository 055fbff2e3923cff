use Rattle.std.proofs.Common.{sym, ◌∙◌}
use Rattle.ct_script.proofs.Readings.{taken}
use Rattle.ct_script.proofs.script.Reading.take.Goals as goal

pub returns : goal.returns
returns c = λ before same.
    taken before c.args.line.now c.in-Some.part c.args.self.now c.note.new.self c.with-self.result c.in-Some.ensures (sym c.allows.ensures ∙ c.if-not-allows.false) c.in_ok-note.ensures c.with-self.ensures same
