use Rattle.std.proofs.Common.{◌≡◌, true, subst, sym}
use Rattle.ct_definitions.specs.declared.definition.Mode.{Mode}
use Rattle.ct_definitions.specs.Keys.{segment_bytes, in_mode}
use Rattle.ct_key.specs.Order.{agree_but_for_case}
use Rattle.ct_key.specs.Parts.{in_order}
use Rattle.ct_key.proofs.ByteLemmas.{IsBytes-from_each, IsBytes-segment_bytes}
use Rattle.ct_key.proofs.CaseLemmas.{agree_iff_same_part}
use Rattle.ct_key.proofs.laws.ureg_parts_agree_but_for_case.Goals as goal

pub returns : goal.returns
returns c =
    let seg = c.args.seg in
    let bytes = segment_bytes seg c.args.image.now in
    let others = segment_bytes seg c.args.other.now in
    let each = IsBytes-segment_bytes seg c.args.image.now (IsBytes-from_each _ c.type_inv.image) in
    let each_other = IsBytes-segment_bytes seg c.args.other.now (IsBytes-from_each _ c.type_inv.other) in
    let P : Mode → Type 0 = λ mode. (in_order seg.desc (in_mode mode bytes) ≡ in_order seg.desc (in_mode mode others) → agree_but_for_case bytes others ≡ true) × (agree_but_for_case bytes others ≡ true → in_order seg.desc (in_mode mode bytes) ≡ in_order seg.desc (in_mode mode others)) in
    subst P (sym c.requires.mode) (agree_iff_same_part seg.desc bytes others each each_other)
