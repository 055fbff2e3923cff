use Rattle.ct_key.proofs.ByteLemmas.{below_from_Fits}
use Rattle.ct_key.proofs.Fronts.{by_front_numbers}
use Rattle.std.proofs.Common.{◌∙◌}
use Rattle.ct_key.proofs.order.compare_by_fronts.Goals as goal

pub returns-then-front-other_front : goal.returns-then-front-other_front
returns-then-front-other_front c =
    c.cmp.ensures
    ∙ by_front_numbers c.args.bytes.now c.args.others.now (λ k. below_from_Fits _ (c.type_inv.bytes k)) (λ k. below_from_Fits _ (c.type_inv.others k)) c.args.front c.args.other_front c.requires.front c.requires.other c.if-front-other_front.true
