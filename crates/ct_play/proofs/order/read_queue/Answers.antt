use Rattle.std.proofs.Common.{sym, ◌∙◌}
use Rattle.ct_play.proofs.Reading.{number_first, queued}
use Rattle.ct_play.proofs.order.read_queue.Goals as goal

pub returns-in_default-read_session-clause-only : goal.returns-in_default-read_session-clause-only
returns-in_default-read_session-clause-only c = λ session line is whole.
    let parts = c.in-Some.ensures.parts in
    let both = number_first c.args.bytes.now c.in-Some.word.now c.in-Some.line.now line session is parts.1 parts.0 whole in
    let told = c.read_session.ensures.only session is both.0 in
    absurd (c.in_default-read_session.not-Some session told)

pub returns-clause-only : goal.returns-clause-only
returns-clause-only c = λ session line is whole.
    let parts = c.in-Some.ensures.parts in
    let both = number_first c.args.bytes.now c.in-Some.word.now c.in-Some.line.now line session is parts.1 parts.0 whole in
    let told = c.read_session.ensures.only session is both.0 in
    queued c.in-Some-read_session.session session c.in-Some.line.now line (sym c.in-Some-read_session.is ∙ told) both.1
