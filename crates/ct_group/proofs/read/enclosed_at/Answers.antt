use Rattle.std.proofs.Common.{◌≡◌, ℕ, List, Ok, subst, arith}
use Rattle.std.specs.Int.{w32}
use Rattle.ct_group.specs.Enclosed.{up_to}
use Rattle.ct_group.proofs.GroupLaws.{body_within}
use Rattle.ct_group.proofs.read.enclosed_at.Goals as goal

pub overflow_add-result : goal.overflow_add-result
overflow_add-result c =
    let bytes = c.args.bytes.now in
    let behind = c.in_ok-len.rest.now in
    let read : ℕ × List ℕ = (c.in_ok-len.len, behind) in
    let at_len = subst (λ (most : ℕ). (up_to w32 most).read bytes ≡ Ok read) c.most_body.ensures c.in_ok-len.ensures.reads in
    let failed = rw c.in-Err-Bad.field-0-is at c.in-Err-Bad.ensures in
    let inside = body_within c.args.kind bytes c.in_ok-len.len behind c.in_ok-body.body.now c.in_ok-body.rest.now c.in-Err-Bad.left (λ i. omega (arith, c.type_inv.bytes i)) at_len c.in_ok-body.ensures.reads failed in
    omega (arith, inside)
