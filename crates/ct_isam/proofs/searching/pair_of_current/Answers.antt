use Rattle.std.proofs.Common.{◌≡◌, ◌≤◌, List, length, true, sym, subst, ◌∙◌}
use Rattle.std.specs.List.{list_all}
use Rattle.ct_definitions.specs.declared.definition.Seg.{Seg}
use Rattle.ct_definitions.specs.declared.definition.TheConstants.{LONGEST_KEY}
use Rattle.ct_definitions.specs.Validity.{key_len, is_valid_seg}
use Rattle.ct_isam.proofs.Outcomes.{short_keys, reads}
use Rattle.ct_isam.proofs.searching.pair_of_current.Goals as goal

pub key_of-requires-clause-valid : goal.key_of-requires-clause-valid
key_of-requires-clause-valid c =
    subst (λ (segs : List Seg). list_all (is_valid_seg (length c.as_slice-image.result.now)) segs ≡ true) (sym c.as_slice.ensures)
    (reads c.args.place.now (length c.as_slice-image.result.now) c.requires (sym c.has_fitting_len.ensures ∙ c.if-not-has_fitting_len.false))

pub key_of-requires-clause-short : goal.key_of-requires-clause-short
key_of-requires-clause-short c = subst (λ (segs : List Seg). key_len segs ≤ LONGEST_KEY) (sym c.as_slice.ensures) (short_keys c.args.place.now c.requires)
