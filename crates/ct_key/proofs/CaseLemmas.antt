-- Upper-cased parts are equal exactly where the bytes agree but for the case of letters.
use Rattle.std.proofs.Common.{◌≡◌, ℕ, ◌-◌, Bool, true, false, List, [], ◌∷◌, map, refl, ap, arith, ◌&&◌}
use Rattle.std.proofs.lemmas.Bool.{false≢true}
use Rattle.std.proofs.lemmas.Bool.Decides.{nat_tests}
use Rattle.std.specs.Cmp.{first_so, second_so}
use Rattle.ct_definitions.specs.declared.definition.Mode.TheVariants.{Ureg}
use Rattle.ct_definitions.specs.Keys.{upper_cased, complemented, in_mode}
use Rattle.ct_key.specs.Order.{is_same_but_for_case, agree_but_for_case}
use Rattle.ct_key.specs.Parts.{in_order}
use Rattle.ct_key.proofs.ByteLemmas.{IsBytes, IsBytes-in_mode}

same_when_upper_cased : (byte other : ℕ) → upper_cased byte ≡ upper_cased other → is_same_but_for_case byte other ≡ true
same_when_upper_cased byte other same = grind (arith, nat_tests)

upper_cased_when_same : (byte other : ℕ) → is_same_but_for_case byte other ≡ true → upper_cased byte ≡ upper_cased other
upper_cased_when_same byte other same = grind (arith, nat_tests)

both : (first second : Bool) → first ≡ true → second ≡ true → (first && second) ≡ true
both true second is_first is_second = is_second
both false second is_first is_second = absurd (false≢true is_first)

-- equal when upper-cased, they agree but for case
agree_when_upper_cased : (bytes others : List ℕ) → map upper_cased bytes ≡ map upper_cased others → agree_but_for_case bytes others ≡ true
agree_when_upper_cased [] [] same = refl
agree_when_upper_cased [] (other ∷ others) same = cc
agree_when_upper_cased (byte ∷ bytes) [] same = cc
agree_when_upper_cased (byte ∷ bytes) (other ∷ others) same =
    let first : upper_cased byte ≡ upper_cased other = cc in
    let rest : map upper_cased bytes ≡ map upper_cased others = cc in
    both _ _ (same_when_upper_cased byte other first) (agree_when_upper_cased bytes others rest)

-- agreeing but for case, they are equal when upper-cased
upper_cased_when_agreed : (bytes others : List ℕ) → agree_but_for_case bytes others ≡ true → map upper_cased bytes ≡ map upper_cased others
upper_cased_when_agreed [] [] agree = refl
upper_cased_when_agreed [] (other ∷ others) agree = absurd (false≢true agree)
upper_cased_when_agreed (byte ∷ bytes) [] agree = absurd (false≢true agree)
upper_cased_when_agreed (byte ∷ bytes) (other ∷ others) agree =
    let first = upper_cased_when_same byte other (first_so _ _ agree) in
    let rest = upper_cased_when_agreed bytes others (second_so (is_same_but_for_case byte other) _ agree) in
    cc

-- complementing keeps bytes apart
same_when_complemented : (bytes others : List ℕ) → IsBytes bytes → IsBytes others → complemented bytes ≡ complemented others → bytes ≡ others
same_when_complemented [] [] each each_other same = refl
same_when_complemented [] (other ∷ others) each each_other same = cc
same_when_complemented (byte ∷ bytes) [] each each_other same = cc
same_when_complemented (byte ∷ bytes) (other ∷ others) each each_other same =
    let fits = each.0 in
    let other_fits = each_other.0 in
    let first_complements : 255 - byte ≡ 255 - other = cc in
    let first : byte ≡ other = omega arith in
    let rest_complements : complemented bytes ≡ complemented others = cc in
    let rest = same_when_complemented bytes others each.1 each_other.1 rest_complements in
    cc

same_in_order : (desc : Bool) (bytes others : List ℕ) → IsBytes bytes → IsBytes others → in_order desc bytes ≡ in_order desc others → bytes ≡ others
same_in_order true bytes others each each_other same = same_when_complemented bytes others each each_other same
same_in_order false bytes others each each_other same = same

-- both ways, for a part in either sense
pub agree_iff_same_part : (desc : Bool) (bytes others : List ℕ) → IsBytes bytes → IsBytes others → (in_order desc (in_mode Ureg bytes) ≡ in_order desc (in_mode Ureg others) → agree_but_for_case bytes others ≡ true) × (agree_but_for_case bytes others ≡ true → in_order desc (in_mode Ureg bytes) ≡ in_order desc (in_mode Ureg others))
agree_iff_same_part desc bytes others each each_other = (
  λ same. agree_when_upper_cased bytes others (same_in_order desc (in_mode Ureg bytes) (in_mode Ureg others) (IsBytes-in_mode Ureg bytes each) (IsBytes-in_mode Ureg others each_other) same),
  λ agree. ap (in_order desc) (upper_cased_when_agreed bytes others agree),
)
