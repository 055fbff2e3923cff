use Rattle.std.proofs.Common.{◌+◌, ap, ◌∙◌, arith}
use Rattle.ct_page.specs.Fields.{u64_at, with_u64}
use Rattle.ct_page.proofs.Numbers.{u64_at-with_u64}
use Rattle.ct_dir.specs.DefinitionPage.{map_place, root_place, leaf_place}
use Rattle.ct_dir.proofs.definition.set_first_map.Goals as goal

pub returns-clause-map : goal.returns-clause-map
returns-clause-map c =
    let place = map_place c.args.len in
    let is = c.set_u64.ensures in
    ap (u64_at place) is ∙ u64_at-with_u64 place c.args.map c.args.page.now (omega arith) (omega arith)
