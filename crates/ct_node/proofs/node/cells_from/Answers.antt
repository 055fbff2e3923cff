use Rattle.std.proofs.Common.{◌≡◌, ◌-◌, ◌++◌, take, drop, replicate, ap, ◌∙◌, arith}
use Rattle.std.proofs.lemmas.List.{take_all, length-drop, drop-replicate}
use Rattle.ct_node.proofs.node.cells_from.Goals as goal

pub returns : goal.returns
returns c =
    let page = c.args.page.now in
    let at = c.args.at in
    let slice = c.as_mut_slice.result.now in
    let left : 3968 - (4096 - at) ≡ at - 128 = omega arith in
    c.copy_cells.ensures
    ∙ ap (λ s. take (4096 - at) (drop at s) ++ drop (4096 - at) slice) c.as_slice.ensures
    ∙ ap (λ ys. ys ++ drop (4096 - at) slice) (take_all (4096 - at) (drop at page) (omega (arith, length-drop at page, c.told-page)))
    ∙ ap (λ zs. drop at page ++ zs) (ap (drop (4096 - at)) c.as_mut_slice.ensures.value ∙ drop-replicate (4096 - at) 3968 0 ∙ ap (λ n. replicate n 0) left)
