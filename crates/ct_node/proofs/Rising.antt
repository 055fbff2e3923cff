-- Pairs that rise, told by neighbours, and the bounds of such pairs, told by the first and the last.
use Rattle.std.proofs.Common.{◌≡◌, ℕ, zero, suc, ◌-◌, ◌<◌, ◌≤◌, true, false, not, ◌&&◌, List, [], ◌∷◌, length, get_or, refl, sym, ap, ◌∙◌, arith, subst, Option, Some, None, ⊎_elim}
use Rattle.std.specs.List.{AllPass, list_all}
use Rattle.std.proofs.lemmas.Bool.{and_parts, and_from, cases_Bool, cases_lt, false≢true, and_right}
use Rattle.std.proofs.lemmas.List.Sums.{list_all-from_AllPass}
use Rattle.std.proofs.lemmas.List.Folds.{list_all_at}
use Rattle.ct_definitions.specs.Pairs.{Pair}
use Rattle.ct_node.specs.Nodes.{IsAscending, is_from, is_below, is_within}
use Rattle.ct_node.specs.Pages.{rises}
use Rattle.ct_node.proofs.Orders.{below, below-trans}

-- of pairs that rise each is below the next
pub rises-next : (pairs : List Pair) → rises pairs ≡ true → (k : ℕ) (d : Pair) → suc k < length pairs → below (get_or pairs k d) (get_or pairs (suc k) d) ≡ true
rises-next [] up k d within = absurd (omega (arith, within))
rises-next (pair ∷ []) up k d within = absurd (omega (arith, within))
rises-next (pair ∷ next ∷ pairs) up zero d within = (and_parts (below pair next) (rises (next ∷ pairs)) up).0
rises-next (pair ∷ next ∷ pairs) up (suc k) d within = rises-next (next ∷ pairs) (and_parts (below pair next) (rises (next ∷ pairs)) up).1 k d (omega arith)

-- and pairs of which each is below the next rise
pub rises-from_next : (pairs : List Pair) → ((k : ℕ) (d : Pair) → suc k < length pairs → below (get_or pairs k d) (get_or pairs (suc k) d) ≡ true) → rises pairs ≡ true
rises-from_next [] each = refl
rises-from_next (pair ∷ []) each = refl
rises-from_next (pair ∷ next ∷ pairs) each =
    and_from (below pair next) (rises (next ∷ pairs)) (each 0 pair (omega arith)) (rises-from_next (next ∷ pairs) (λ k d within. each (suc k) d (omega arith)))

-- pairs of which one is not below the next do not rise
pub rises-broken : (pairs : List Pair) (k : ℕ) (d : Pair) → suc k < length pairs → below (get_or pairs k d) (get_or pairs (suc k) d) ≡ false → rises pairs ≡ false
rises-broken pairs k d within broken =
    ⊎_elim (λ up. absurd (false≢true (sym broken ∙ rises-next pairs up k d within))) (λ other. other) (cases_Bool (rises pairs))

-- pairs that rise are in order
pub IsAscending-rises : (pairs : List Pair) → rises pairs ≡ true → IsAscending pairs
IsAscending-rises pairs up i zero d first within = absurd (omega (arith, first))
IsAscending-rises pairs up i (suc j) d first within =
    let last = rises-next pairs up j d within in
    ⊎_elim
    (λ before. below-trans (get_or pairs i d) (get_or pairs j d) (get_or pairs (suc j) d) (IsAscending-rises pairs up i j d before (omega arith)) last)
    (λ same. let is : j ≡ i = omega arith in subst (λ k. below (get_or pairs k d) (get_or pairs (suc j) d) ≡ true) is last)
    (cases_lt i j)

-- and pairs in order rise
pub rises-IsAscending : (pairs : List Pair) → IsAscending pairs → rises pairs ≡ true
rises-IsAscending pairs order = rises-from_next pairs (λ k d within. order k (suc k) d (omega arith) within)

-- what is above a pair from a low bound on is so too
pub is_from-above : (low : Option Pair) (a b : Pair) → below a b ≡ true → is_from low a ≡ true → is_from low b ≡ true
is_from-above None a b up from = refl
is_from-above (Some low) a b up from = ⊎_elim no (λ is. ap not is) (cases_Bool (below b low))
  where
    no : below b low ≡ true → not (below b low) ≡ true
    no is = absurd (false≢true (ap not (sym (below-trans a b low up is)) ∙ from))

-- and what is below a pair below a high bound
pub is_below-below : (high : Option Pair) (a b : Pair) → below a b ≡ true → is_below high b ≡ true → is_below high a ≡ true
is_below-below None a b up before = refl
is_below-below (Some high) a b up before = below-trans a b high up before

-- pairs in order are within bounds where the first and the last are
AllPass-ends : (low high : Option Pair) (pairs : List Pair) (first last : Pair) → IsAscending pairs → ((d : Pair) → get_or pairs 0 d ≡ first) → ((d : Pair) → get_or pairs (length pairs - 1) d ≡ last) → is_from low first ≡ true → is_below high last ≡ true → AllPass (is_within low high) pairs
AllPass-ends low high pairs first last order at_first at_last from before k d within =
    and_from (is_from low (get_or pairs k d)) (is_below high (get_or pairs k d)) (⊎_elim behind here_first (cases_lt 0 k)) (⊎_elim ahead here_last (cases_lt k (length pairs - 1)))
  where
    behind : 0 < k → is_from low (get_or pairs k d) ≡ true
    behind later = is_from-above low first (get_or pairs k d) (subst (λ pair. below pair (get_or pairs k d) ≡ true) (at_first d) (order 0 k d later within)) from

    here_first : k ≤ 0 → is_from low (get_or pairs k d) ≡ true
    here_first none = let is : 0 ≡ k = omega arith in subst (λ j. is_from low (get_or pairs j d) ≡ true) is (ap (is_from low) (at_first d) ∙ from)

    ahead : k < length pairs - 1 → is_below high (get_or pairs k d) ≡ true
    ahead earlier = is_below-below high (get_or pairs k d) last (subst (λ pair. below (get_or pairs k d) pair ≡ true) (at_last d) (order k (length pairs - 1) d earlier (omega arith))) before

    here_last : length pairs - 1 ≤ k → is_below high (get_or pairs k d) ≡ true
    here_last least = let is : length pairs - 1 ≡ k = omega arith in subst (λ j. is_below high (get_or pairs j d) ≡ true) is (ap (is_below high) (at_last d) ∙ before)

-- whether pairs that rise are within bounds, by the first and the last
pub list_all-ends : (low high : Option Pair) (pairs : List Pair) (first last : Pair) → rises pairs ≡ true → 0 < length pairs → ((d : Pair) → get_or pairs 0 d ≡ first) → ((d : Pair) → get_or pairs (length pairs - 1) d ≡ last) → (is_from low first && is_below high last) ≡ list_all (is_within low high) pairs
list_all-ends low high pairs first last up some at_first at_last = ⊎_elim from_is from_not (cases_Bool (is_from low first))
  where
    both : is_from low first ≡ true → is_below high last ≡ true → (is_from low first && is_below high last) ≡ list_all (is_within low high) pairs
    both from before =
        and_from (is_from low first) (is_below high last) from before
        ∙ sym (list_all-from_AllPass (is_within low high) pairs (AllPass-ends low high pairs first last (IsAscending-rises pairs up) at_first at_last from before))

    last_not : is_from low first ≡ true → is_below high last ≡ false → (is_from low first && is_below high last) ≡ list_all (is_within low high) pairs
    last_not from not_before =
        let out : is_within low high (get_or pairs (length pairs - 1) first) ≡ false = ap (is_within low high) (at_last first) ∙ and_right (is_from low last) (is_below high last) not_before in
        and_right (is_from low first) (is_below high last) not_before ∙ sym (list_all_at (is_within low high) pairs (length pairs - 1) first (omega arith) out)

    from_is : is_from low first ≡ true → (is_from low first && is_below high last) ≡ list_all (is_within low high) pairs
    from_is from = ⊎_elim (both from) (last_not from) (cases_Bool (is_below high last))

    from_not : is_from low first ≡ false → (is_from low first && is_below high last) ≡ list_all (is_within low high) pairs
    from_not not_from =
        let out : is_within low high (get_or pairs 0 first) ≡ false = ap (is_within low high) (at_first first) ∙ ap (λ b. b && is_below high first) not_from in
        ap (λ b. b && is_below high last) not_from ∙ sym (list_all_at (is_within low high) pairs 0 first some out)
