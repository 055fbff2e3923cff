use Rattle.std.proofs.Common.{◌≤◌, List, sym, subst}
use Rattle.ct_definitions.specs.declared.definition.Seg.{Seg}
use Rattle.ct_definitions.specs.declared.definition.TheConstants.{LONGEST_KEY}
use Rattle.ct_definitions.specs.Validity.{key_len}
use Rattle.ct_isam.proofs.Outcomes.{short_keys}
use Rattle.ct_isam.proofs.searching.front_sought.Goals as goal

pub target_key-requires : goal.target_key-requires
target_key-requires c = subst (λ (segs : List Seg). key_len segs ≤ LONGEST_KEY) (sym c.as_slice.ensures) (short_keys c.args.place.now c.requires)
