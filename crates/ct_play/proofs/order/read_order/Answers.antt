use Rattle.std.proofs.Common.{sym, ◌∙◌}
use Rattle.ct_play.proofs.Reading.{one_letter}
use Rattle.ct_play.proofs.order.read_order.Goals as goal

pub returns-then-kind-ne1-clause-only : goal.returns-then-kind-ne1-clause-only
returns-then-kind-ne1-clause-only c = λ said is whole.
    let parts = c.in_ok-kind.ensures.parts in
    absurd (c.if-kind-ne1.true (one_letter said c.in_ok-kind.kind.now c.in_ok-kind.rest.now parts.1 (sym parts.0 ∙ whole)))
