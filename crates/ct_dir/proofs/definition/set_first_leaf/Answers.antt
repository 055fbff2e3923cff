use Rattle.std.proofs.Common.{◌≡◌, ◌+◌, ap, ◌∙◌, arith}
use Rattle.ct_page.specs.Fields.{u64_at, with_u64}
use Rattle.ct_page.proofs.Numbers.{u64_at-with_u64}
use Rattle.ct_dir.specs.DefinitionPage.{map_place, root_place, leaf_place}
use Rattle.ct_dir.proofs.definition.set_first_leaf.Goals as goal

pub returns-clause-leaf : goal.returns-clause-leaf
returns-clause-leaf c =
    let place = leaf_place c.args.len c.args.index in
    let at : c.root_place.result + 8 ≡ place = omega arith in
    let is = c.set_u64.ensures ∙ ap (λ p. with_u64 p c.args.leaf c.args.page.now) at in
    ap (u64_at place) is ∙ u64_at-with_u64 place c.args.leaf c.args.page.now (omega arith) (omega arith)
