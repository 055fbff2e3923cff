-- The format of changes is exact.
use Rattle.std.proofs.Common.{◌≡◌, ℕ, zero, suc, ◌^◌, ◌<◌, Bool, true, false, ◌&&◌, leb, List, length, refl, arith, IsTrue}
use Rattle.std.proofs.lemmas.Bool.{leb-true}
use Rattle.ct_codec.specs.Codec.{IsExact}
use Rattle.ct_codec.proofs.Exact.{IsSame, At, byte-exact, number16-exact, number64-exact, both-exact, as_type-exact, tagged-exact, sized32-exact}
use Rattle.ct_definitions.specs.declared.definition.FileDef.{FileDef}
use Rattle.ct_definitions.specs.declared.change.Change.{Change}
use Rattle.ct_definitions.specs.declared.change.Change.TheVariants.{Make, Add, Rewrite, Delete}
use Rattle.ct_change_codec.specs.DefinitionFormat.{FitsDefinition}
use Rattle.ct_change_codec.specs.ChangeFormat.{kind_number, file_of, record_of, old_of, new_of, definition_of, make_codec, add_codec, rewrite_codec, delete_codec, change_led, change_codec, FitsChange, LengthsFit}
use Rattle.ct_change_codec.proofs.DefinitionLaws.{definition-exact, definition_lengths}

abbrev IsImage : List ℕ → Type 0
IsImage image = length image < 2 ^ 32

make_same : IsSame (λ (f : ℕ × FileDef). Make f.0 f.1) (λ c. (file_of c, definition_of c)) (λ f. (f.0 < 2 ^ 16) × FitsDefinition f.1) (At kind_number FitsChange 1)
make_same = record {
  there = λ f fits. ((refl, fits), refl);
  back = elim [
    | Make file def ↦ (λ fits. (fits.1, refl))
    | Add file num new ↦ (λ fits. absurd (omega (arith, fits.0)))
    | Rewrite file num old new ↦ (λ fits. absurd (omega (arith, fits.0)))
    | Delete file num old ↦ (λ fits. absurd (omega (arith, fits.0)))
  ];
}

make-exact : IsExact make_codec (At kind_number FitsChange 1)
unfolding make_codec
make-exact = as_type-exact make_same (both-exact number16-exact definition-exact)

add_same : IsSame (λ (f : ℕ × (ℕ × List ℕ)). Add f.0 f.1.0 f.1.1) (λ c. (file_of c, (record_of c, new_of c))) (λ f. (f.0 < 2 ^ 16) × ((f.1.0 < 2 ^ 64) × IsImage f.1.1)) (At kind_number FitsChange 2)
add_same = record {
  there = λ f fits. ((refl, (fits.0, fits.1.0, fits.1.1)), refl);
  back = elim [
    | Make file def ↦ (λ fits. absurd (omega (arith, fits.0)))
    | Add file num new ↦ (λ fits. ((fits.1.0, (fits.1.1, fits.1.2)), refl))
    | Rewrite file num old new ↦ (λ fits. absurd (omega (arith, fits.0)))
    | Delete file num old ↦ (λ fits. absurd (omega (arith, fits.0)))
  ];
}

add-exact : IsExact add_codec (At kind_number FitsChange 2)
unfolding add_codec
add-exact = as_type-exact add_same (both-exact number16-exact (both-exact number64-exact sized32-exact))

rewrite_same : IsSame (λ (f : ℕ × (ℕ × (List ℕ × List ℕ))). Rewrite f.0 f.1.0 f.1.1.0 f.1.1.1) (λ c. (file_of c, (record_of c, (old_of c, new_of c)))) (λ f. (f.0 < 2 ^ 16) × ((f.1.0 < 2 ^ 64) × (IsImage f.1.1.0 × IsImage f.1.1.1))) (At kind_number FitsChange 3)
rewrite_same = record {
  there = λ f fits. ((refl, (fits.0, fits.1.0, fits.1.1.0, fits.1.1.1)), refl);
  back = elim [
    | Make file def ↦ (λ fits. absurd (omega (arith, fits.0)))
    | Add file num new ↦ (λ fits. absurd (omega (arith, fits.0)))
    | Rewrite file num old new ↦ (λ fits. ((fits.1.0, (fits.1.1, (fits.1.2, fits.1.3))), refl))
    | Delete file num old ↦ (λ fits. absurd (omega (arith, fits.0)))
  ];
}

rewrite-exact : IsExact rewrite_codec (At kind_number FitsChange 3)
unfolding rewrite_codec
rewrite-exact = as_type-exact rewrite_same (both-exact number16-exact (both-exact number64-exact (both-exact sized32-exact sized32-exact)))

delete_same : IsSame (λ (f : ℕ × (ℕ × List ℕ)). Delete f.0 f.1.0 f.1.1) (λ c. (file_of c, (record_of c, old_of c))) (λ f. (f.0 < 2 ^ 16) × ((f.1.0 < 2 ^ 64) × IsImage f.1.1)) (At kind_number FitsChange 4)
delete_same = record {
  there = λ f fits. ((refl, (fits.0, fits.1.0, fits.1.1)), refl);
  back = elim [
    | Make file def ↦ (λ fits. absurd (omega (arith, fits.0)))
    | Add file num new ↦ (λ fits. absurd (omega (arith, fits.0)))
    | Rewrite file num old new ↦ (λ fits. absurd (omega (arith, fits.0)))
    | Delete file num old ↦ (λ fits. ((fits.1.0, (fits.1.1, fits.1.2)), refl))
  ];
}

delete-exact : IsExact delete_codec (At kind_number FitsChange 4)
unfolding delete_codec
delete-exact = as_type-exact delete_same (both-exact number16-exact (both-exact number64-exact sized32-exact))

abbrev is_kind : ℕ → Bool
is_kind n = leb 1 n && leb n 4

both_true : (a b : Bool) → IsTrue (a && b) → b ≡ true
both_true true b h = h
both_true false b h = absurd cc

change_led-exact : (n : ℕ) → (n < 2 ^ 8) × IsTrue (is_kind n) → IsExact (change_led n) (At kind_number FitsChange n)
change_led-exact zero fits = absurd cc
change_led-exact (suc zero) fits = make-exact
change_led-exact (suc (suc zero)) fits = add-exact
change_led-exact (suc (suc (suc zero))) fits = rewrite-exact
change_led-exact (suc (suc (suc (suc zero)))) fits = delete-exact
change_led-exact (suc (suc (suc (suc (suc n))))) fits = absurd (omega (arith, leb-true (suc (suc (suc (suc (suc n))))) 4 (both_true (leb 1 (suc (suc (suc (suc (suc n)))))) (leb (suc (suc (suc (suc (suc n))))) 4) fits.1)))

has_kind : (c : Change) → FitsChange c → (kind_number c < 2 ^ 8) × IsTrue (is_kind (kind_number c))
has_kind (Make file def) fits = (omega arith, refl)
has_kind (Add file num new) fits = (omega arith, refl)
has_kind (Rewrite file num old new) fits = (omega arith, refl)
has_kind (Delete file num old) fits = (omega arith, refl)

pub change-exact : IsExact change_codec FitsChange
unfolding change_codec
change-exact = tagged-exact kind_number change_led FitsChange (byte-exact is_kind) change_led-exact has_kind

-- the lengths of what fits its fields fit them
pub change_lengths : (change : Change) → FitsChange change → LengthsFit change
change_lengths (Make file def) fits = definition_lengths def fits.1
change_lengths (Add file num new) fits = fits.2
change_lengths (Rewrite file num old new) fits = (fits.2, fits.3)
change_lengths (Delete file num old) fits = fits.2
