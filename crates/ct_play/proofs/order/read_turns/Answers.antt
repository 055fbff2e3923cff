use Rattle.std.proofs.Common.{sym, ◌∙◌}
use Rattle.ct_play.proofs.Reading.{count_first, turned}
use Rattle.ct_play.proofs.order.read_turns.Goals as goal

pub returns-in_default-read_session-clause-only : goal.returns-in_default-read_session-clause-only
returns-in_default-read_session-clause-only c = λ session count is whole.
    let parts = c.in-Some.ensures.parts in
    let f = count_first c.args.bytes.now c.in-Some.word.now c.in-Some.count.now session count is parts.1 parts.0 whole in
    absurd (c.in_default-read_session.not-Some session (c.read_session-2.ensures.only session f.2 f.4))

pub returns-in_default-read_count-clause-only : goal.returns-in_default-read_count-clause-only
returns-in_default-read_count-clause-only c = λ session count is whole.
    let parts = c.in-Some.ensures.parts in
    let f = count_first c.args.bytes.now c.in-Some.word.now c.in-Some.count.now session count is parts.1 parts.0 whole in
    absurd (c.in_default-read_count.not-Some f.0 (c.read_count.ensures.only f.0 f.3 f.5))

pub returns-clause-only : goal.returns-clause-only
returns-clause-only c = λ session count is whole.
    let parts = c.in-Some.ensures.parts in
    let f = count_first c.args.bytes.now c.in-Some.word.now c.in-Some.count.now session count is parts.1 parts.0 whole in
    turned c.in-Some-read_session.session session c.in-Some-read_count.count f.0 count
    (sym c.in-Some-read_session.is ∙ c.read_session-2.ensures.only session f.2 f.4)
    (sym c.in-Some-read_count.is ∙ c.read_count.ensures.only f.0 f.3 f.5) f.1
