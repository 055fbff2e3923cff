use Rattle.std.proofs.Common.{◌≡◌, ◌≤◌, List, length, sym, ap, subst, ◌∙◌, arith}
use Rattle.ct_definitions.specs.declared.definition.Seg.{Seg}
use Rattle.ct_definitions.specs.declared.definition.TheConstants.{LONGEST_KEY}
use Rattle.ct_definitions.specs.Validity.{key_len}
use Rattle.ct_isam.proofs.Outcomes.{short_keys, whole_key-same}
use Rattle.ct_isam.proofs.searching.whole_key.Goals as goal

pub key_len-requires : goal.key_len-requires
key_len-requires c =
    let short : key_len c.as_slice.result.now ≤ LONGEST_KEY = subst (λ (segs : List Seg). key_len segs ≤ LONGEST_KEY) (sym c.as_slice.ensures) (short_keys c.args.place.now c.requires) in
    omega arith

pub returns : goal.returns
returns c =
    let same : length c.args.target.now ≡ key_len c.args.place.now.def.now.segs = c.if-target-key_len.false ∙ c.key_len.ensures ∙ ap (λ (segs : List Seg). key_len segs) c.as_slice.ensures in
    c.front_sought.ensures ∙ sym (whole_key-same c.args.place.now c.args.target.now c.requires same)
