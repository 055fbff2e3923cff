-- The formats of definitions are exact.
use Rattle.std.proofs.Common.{◌≡◌, ℕ, zero, suc, ◌^◌, ◌<◌, Bool, true, false, not, eqb, ltb, List, length, Option, Some, None, refl, sym, ap, arith, IsTrue}
use Rattle.std.specs.Prelude.{⊤, All, unwrap_or, is_some}
use Rattle.std.specs.Int.{w32}
use Rattle.std.proofs.lemmas.Bool.{ltb-true, eqb-true, eq-eqb}
use Rattle.std.proofs.lemmas.List.Elements.{All-weaker}
use Rattle.ct_codec.specs.Codec.{IsExact}
use Rattle.ct_codec.specs.Formats.{number, tested, as_type}
use Rattle.ct_codec.proofs.Exact.{IsSame, At, any_byte-exact, byte-exact, number16-exact, number32-exact, tested-exact, both-exact, as_type-exact, tagged-exact, counted-exact, flag-exact, sized8-exact}
use Rattle.ct_definitions.specs.declared.definition.Mode.{Mode}
use Rattle.ct_definitions.specs.declared.definition.Mode.TheVariants.{Reg, Ureg, Int, Sgn}
use Rattle.ct_definitions.specs.declared.definition.Kind.{Kind}
use Rattle.ct_definitions.specs.declared.definition.Kind.TheVariants.{Fixed, Variable}
use Rattle.ct_definitions.specs.declared.definition.Seg.{Seg}
use Rattle.ct_definitions.specs.declared.definition.IndexDef.{IndexDef}
use Rattle.ct_definitions.specs.declared.definition.FileDef.{FileDef}
use Rattle.ct_definitions.specs.Validity.{least_len}
use Rattle.ct_change_codec.specs.DefinitionFormat.{mode_number, mode_of, mode_codec, seg_codec, null_led, null_codec, index_codec, is_variable, most_len, kind_led, kind_codec, definition_codec, FitsSeg, FitsNull, FitsIndex, FitsKind, FitsDefinition, IndexLengthsFit, DefinitionLengthsFit}

-- ---- modes and segments

abbrev IsMode : ℕ → Type 0
IsMode n = (n < 2 ^ 8) × IsTrue (ltb n 4)

mode_there : (n : ℕ) → IsMode n → ⊤ × (mode_number (mode_of n) ≡ n)
mode_there zero fits = (tt, refl)
mode_there (suc zero) fits = (tt, refl)
mode_there (suc (suc zero)) fits = (tt, refl)
mode_there (suc (suc (suc zero))) fits = (tt, refl)
mode_there (suc (suc (suc (suc n)))) fits = absurd (omega (arith, ltb-true (suc (suc (suc (suc n)))) 4 fits.1))

mode_back : (mode : Mode) → ⊤ → IsMode (mode_number mode) × (mode_of (mode_number mode) ≡ mode)
mode_back Reg fits = ((omega arith, refl), refl)
mode_back Ureg fits = ((omega arith, refl), refl)
mode_back Int fits = ((omega arith, refl), refl)
mode_back Sgn fits = ((omega arith, refl), refl)

mode-exact : IsExact mode_codec (λ _. ⊤)
unfolding mode_codec
mode-exact =
    let same : IsSame mode_of mode_number IsMode (λ _. ⊤) = record { there = mode_there; back = mode_back } in
    as_type-exact same (byte-exact (λ n. ltb n 4))

pub seg-exact : IsExact seg_codec FitsSeg
unfolding seg_codec
seg-exact =
    as_type-exact
    (record { there = λ f fits. (record { at = fits.0; len = fits.1.0 }, refl); back = λ seg fits. ((fits.at, (fits.len, (tt, tt))), refl) })
    (both-exact number16-exact (both-exact number16-exact (both-exact mode-exact flag-exact)))

-- ---- null bytes

null_some : IsSame (λ (b : ℕ). Some b) (λ null. unwrap_or null 0) (λ b. b < 2 ^ 8) (At is_some FitsNull true)
null_some = record {
  there = λ b fits. ((refl, fits), refl);
  back = elim [ Some b ↦ (λ fits. (fits.1, refl)) | None ↦ (λ fits. absurd cc) ];
}

null_none : IsSame {Y = Option ℕ} (λ (b : ℕ). None) (λ _. 0) (λ b. (b < 2 ^ 8) × IsTrue (eqb b 0)) (At is_some FitsNull false)
null_none = record {
  there = λ b fits. ((refl, tt), sym (eqb-true b 0 fits.1));
  back = elim [ Some b ↦ (λ fits. absurd cc) | None ↦ (λ fits. ((omega arith, refl), refl)) ];
}

null_led-exact : (present : Bool) → ⊤ → IsExact (null_led present) (At is_some FitsNull present)
null_led-exact true is_tag = as_type-exact null_some any_byte-exact
null_led-exact false is_tag = as_type-exact null_none (byte-exact (λ b. eqb b 0))

null-exact : IsExact null_codec FitsNull
unfolding null_codec
null-exact = tagged-exact is_some null_led FitsNull flag-exact null_led-exact (λ null fits. tt)

-- ---- indexes

not_not : (b : Bool) → not (not b) ≡ b
not_not true = refl
not_not false = refl

-- an index's fields, as they stand one after another
abbrev IndexFields : Type 0
IndexFields = List ℕ × (Bool × (Option ℕ × List Seg))

abbrev FitsFields : IndexFields → Type 0
FitsFields f = (length f.0 < 2 ^ 8) × (⊤ × (FitsNull f.1.1.0 × ((length f.1.1.1 < 2 ^ 8) × All FitsSeg f.1.1.1)))

abbrev index_to : IndexFields → IndexDef
index_to f = record { name = f.0; unique = not f.1.0; null = f.1.1.0; segs = f.1.1.1 }

abbrev index_from : IndexDef → IndexFields
index_from i = (i.name, (not i.unique, (i.null, i.segs)))

index_same : IsSame index_to index_from FitsFields FitsIndex
index_same = record {
  there = λ f fits. (record { name = fits.0; null = fits.1.1.0; count = fits.1.1.1.0; segs = fits.1.1.1.1 }, ap (λ (b : Bool). let g : IndexFields = (f.0, (b, f.1.1)) in g) (not_not f.1.0));
  back = λ i fits. ((fits.name, (tt, (fits.null, (fits.count, fits.segs)))), ap (λ (b : Bool). let j : IndexDef = record { name = i.name; unique = b; null = i.null; segs = i.segs } in j) (not_not i.unique));
}

pub index-exact : IsExact index_codec FitsIndex
unfolding index_codec
index-exact =
    as_type-exact index_same
    (both-exact sized8-exact (both-exact flag-exact (both-exact null-exact (counted-exact (λ n. n < 2 ^ 8) any_byte-exact seg-exact))))

-- ---- kinds

kind_variable : IsSame (λ (f : ℕ × ℕ). Variable f.0 f.1) (λ kind. (least_len kind, most_len kind)) (λ f. (f.0 < 2 ^ 32) × (f.1 < 2 ^ 32)) (At is_variable FitsKind true)
kind_variable = record {
  there = λ f fits. ((refl, fits), refl);
  back = elim [ Variable min max ↦ (λ fits. (fits.1, refl)) | Fixed len ↦ (λ fits. absurd cc) ];
}

-- the kinds of one length
abbrev IsFixed : Kind → Type 0
IsFixed kind = At is_variable FitsKind false kind

kind_fixed : (len : ℕ) → IsSame (λ (same : ℕ). Fixed same) most_len (λ same. (same < 2 ^ 32) × IsTrue (eqb same len)) (At least_len IsFixed len)
kind_fixed len = record {
  there = λ same fits. ((eqb-true same len fits.1, (refl, fits.0)), refl);
  back = elim [ Fixed same ↦ (λ fits. ((fits.1.1, eq-eqb same len fits.0), refl)) | Variable min max ↦ (λ fits. absurd cc) ];
}

kind_led-exact : (variable : Bool) → ⊤ → IsExact (kind_led variable) (At is_variable FitsKind variable)
kind_led-exact true is_tag = as_type-exact kind_variable (both-exact number32-exact number32-exact)
kind_led-exact false is_tag =
    tagged-exact least_len (λ len. as_type (λ same. Fixed same) most_len (tested (λ same. eqb same len) (number w32))) IsFixed number32-exact
    (λ len is_len. as_type-exact (kind_fixed len) (tested-exact (λ same. eqb same len) number32-exact))
    (elim [ Fixed same ↦ (λ fits. fits.1) | Variable min max ↦ (λ fits. absurd cc) ])

kind-exact : IsExact kind_codec FitsKind
unfolding kind_codec
kind-exact = tagged-exact is_variable kind_led FitsKind flag-exact kind_led-exact (λ kind fits. tt)

-- ---- definitions

pub definition-exact : IsExact definition_codec FitsDefinition
unfolding definition_codec
definition-exact =
    as_type-exact
    (record { there = λ f fits. (record { name = fits.0; kind = fits.1.0; count = fits.1.1.0; indexes = fits.1.1.1 }, refl); back = λ def fits. ((fits.name, (fits.kind, (fits.count, fits.indexes))), refl) })
    (both-exact sized8-exact (both-exact kind-exact (counted-exact (λ n. n < 2 ^ 8) any_byte-exact index-exact)))

-- the lengths of what fits its fields fit them
pub definition_lengths : (def : FileDef) → FitsDefinition def → DefinitionLengthsFit def
definition_lengths def fits = record { name = fits.name; count = fits.count; indexes = All-weaker FitsIndex IndexLengthsFit (λ index fit. (fit.name, fit.count)) def.indexes fits.indexes }
