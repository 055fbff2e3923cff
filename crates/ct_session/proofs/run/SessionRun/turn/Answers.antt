use Rattle.std.proofs.Common.{sym, subst, Option, MatchOption, ◌∙◌}
use Rattle.ct_session.specs.declared.run.Asked.{Asked}
use Rattle.ct_session.specs.Serving.{IsUnderWay}
use Rattle.ct_session.proofs.run.SessionRun.turn.Goals as goal

pub returns-clause-answers : goal.returns-clause-answers
returns-clause-answers g c = λ line begins.
    c.answer_asked.ensures.answers line
    (subst (λ (asked : Option Asked). MatchOption asked ⊥ (IsUnderWay line c.args.self.now.ended)) (sym c.take.ensures.value ∙ c.unwrap-asked.ensures) begins)
