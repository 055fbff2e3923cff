use Rattle.std.proofs.Common.{◌+◌, ap, ◌∙◌, arith}
use Rattle.ct_page.specs.Fields.{u64_at, with_u64}
use Rattle.ct_page.proofs.Numbers.{u64_at-with_u64}
use Rattle.ct_dir.specs.DefinitionPage.{map_place, root_place, leaf_place}
use Rattle.ct_dir.proofs.definition.set_root.Goals as goal

pub returns-clause-root : goal.returns-clause-root
returns-clause-root c =
    let place = root_place c.args.len c.args.index in
    let is = c.set_u64.ensures ∙ ap (λ p. with_u64 p c.args.root c.args.page.now) c.root_place.ensures in
    ap (u64_at place) is ∙ u64_at-with_u64 place c.args.root c.args.page.now (omega arith) (omega arith)
