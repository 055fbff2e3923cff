use Rattle.std.proofs.Common.{◌≡◌, sym, ap, ◌∙◌, true}
use Rattle.ct_model.specs.Fitting.{are_fitting}
use Rattle.ct_definitions.specs.Changes.{State}
use Rattle.ct_yard.specs.Machine.{state_of}
use Rattle.ct_isam.specs.Told.{reply_of}
use Rattle.ct_session.proofs.Shows.{replies_short}
use Rattle.ct_session.proofs.run.answer_running.Goals as goal

pub returns-clause-answers : goal.returns-clause-answers
returns-clause-answers g c = λ founded front machine told stands.
    let running = sym stands.halt ∙ c.requires.running in
    let done = c.answer-reply.ensures.serves founded front machine told stands running in
    let reply = reply_of c.answer-reply.new.session c.answer-reply.result in
    let fitting : are_fitting (state_of machine) ≡ true = ap (λ (s : State). are_fitting s) (sym (stands.state running)) ∙ c.files-files.ensures.fitting in
    (reply, done.0, done.1, done.2, done.3, c.write_reply.ensures.text (replies_short c.args.call machine done.0 c.args.session.now c.answer-reply.new.session reply fitting done.1))
