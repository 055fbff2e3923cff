use Rattle.std.proofs.Common.{◌∙◌}
use Rattle.ct_definitions.specs.declared.definition.Mode.TheVariants.{Sgn}
use Rattle.ct_key.proofs.ByteLemmas.{IsBytes-from_each}
use Rattle.ct_key.proofs.OrderLemmas.{slice_cmp-key_part, segment_cmp-ascending, segment_cmp-descending}
use Rattle.ct_key.proofs.laws.sgn_parts_sort_as_signed_numbers.Goals as goal

pub returns-clause-ascending : goal.returns-clause-ascending
returns-clause-ascending c is_ascending =
    let image = c.args.image.now in
    let other = c.args.other.now in
    slice_cmp-key_part c.args.seg image other c.requires.in_image c.requires.in_other (IsBytes-from_each image c.type_inv.image) (IsBytes-from_each other c.type_inv.other)
    ∙ segment_cmp-ascending c.args.seg Sgn image other c.requires.mode is_ascending

pub returns-clause-descending : goal.returns-clause-descending
returns-clause-descending c is_descending =
    let image = c.args.image.now in
    let other = c.args.other.now in
    slice_cmp-key_part c.args.seg image other c.requires.in_image c.requires.in_other (IsBytes-from_each image c.type_inv.image) (IsBytes-from_each other c.type_inv.other)
    ∙ segment_cmp-descending c.args.seg Sgn image other c.requires.mode is_descending
