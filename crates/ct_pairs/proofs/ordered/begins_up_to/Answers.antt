use Rattle.std.proofs.Common.{sym, ◌∙◌}
use Rattle.ct_pairs.proofs.Joined.{above_first, up_to_first}
use Rattle.ct_pairs.proofs.ordered.begins_up_to.Goals as goal

pub returns-in-Some-clause-above : goal.returns-in-Some-clause-above
returns-in-Some-clause-above c = λ past.
    let item = c.in-Some.ensures.item.3 in
    above_first c.args.pair.now c.in-Some.first.now c.args.tail.now.items c.requires item.0 (item.1 c.in-Some.first.now) (sym c.le.ensures ∙ past)

pub returns-in-Some-clause-up_to : goal.returns-in-Some-clause-up_to
returns-in-Some-clause-up_to c = λ up_to.
    let item = c.in-Some.ensures.item.3 in
    up_to_first c.args.pair.now c.in-Some.first.now c.args.tail.now.items item.0 (item.1 c.in-Some.first.now) (sym c.le.ensures ∙ up_to)
