-- A pair of another number with a key is the first with it, or else the pair after that.
use Rattle.std.proofs.Common.{◌≡◌, ℕ, suc, ◌<◌, ◌==◌, Bool, true, false, not, ◌&&◌, ◌||◌, cond, List, [], ◌∷◌, Option, Some, None, bytes_eq, refl, sym, ap, ◌∙◌, arith}
use Rattle.std.specs.Prelude.{All}
use Rattle.std.specs.List.{list_any, find, AllByRecursion}
use Rattle.std.specs.List.Sorted.{IsStrictlySortedBy}
use Rattle.std.specs.declared.cmp.Ordering.{Ordering}
use Rattle.std.specs.declared.cmp.Ordering.TheVariants.{Less, Equal, Greater}
use Rattle.std.specs.Ordering.{nat_cmp, is_lt, ordering_then, ordering_reverse}
use Rattle.std.specs.Cmp.Lexicographic.{slice_cmp, bytes_decides}
use Rattle.std.proofs.lemmas.Bool.{or_left, or_right, and_from, eq-eqb, ne_eqb}
use Rattle.std.proofs.lemmas.Bool.Decides.{nat_tests}
use Rattle.std.proofs.lemmas.Cmp.{nat_list_cmp_total, tied_itself}
use Rattle.ct_definitions.specs.Pairs.{Pair, pair_cmp}
use Rattle.ct_pairs.specs.Finds.{is_above, has_key, is_at_or_above, has_other_with, least}
use Rattle.ct_pairs.specs.Order.{pair_cmp_total}
use Rattle.ct_pairs.proofs.PairLists.{IsInOrder}
use Rattle.ct_pairs.proofs.Finding.{Begins-has_key, IsUpward-at_or_above, found_meets, found_passes, and_false, false_from, not_both}

-- whether a pair has another number and the key
abbrev is_other : ℕ → List ℕ → Pair → Bool
is_other num key pair = not (pair.num == num) && bytes_eq pair.key key

is_other-no_key : (num : ℕ) (key : List ℕ) (x : Pair) → has_key key x ≡ false → is_other num key x ≡ false
is_other-no_key num key x no_key = ap (λ b. not (x.num == num) && b) no_key ∙ and_false (not (x.num == num))

-- where no pair has the key, no other has
pub other-none : (num : ℕ) (key : List ℕ) (xs : List Pair) → None ≡ least (has_key key) xs → has_other_with num key xs ≡ false
other-none num key [] none = refl
other-none num key (x ∷ xs) none = by_test (other-none num key xs) (has_key key x) refl none
  where
    by_test : (None ≡ find (has_key key) xs → has_other_with num key xs ≡ false) → (here : Bool) → has_key key x ≡ here → None ≡ cond here (Some x) (find (has_key key) xs) → has_other_with num key (x ∷ xs) ≡ false
    by_test rest true has e = cc
    by_test rest false no_key e = ap (λ b. b || has_other_with num key xs) (is_other-no_key num key x no_key) ∙ rest e

any-found : (test other : Pair → Bool) (xs : List Pair) (x : Pair) → Some x ≡ find test xs → other x ≡ true → list_any other xs ≡ true
any-found test other [] x found meets = cc
any-found test other (y ∷ ys) x found meets = by_test (λ e. any-found test other ys x e meets) (test y) found
  where
    by_test : (Some x ≡ find test ys → list_any other ys ≡ true) → (here : Bool) → Some x ≡ cond here (Some y) (find test ys) → (other y || list_any other ys) ≡ true
    by_test rest true e = let same : x ≡ y = cc in or_left (other y) (list_any other ys) (ap other (sym same) ∙ meets)
    by_test rest false e = or_right (other y) (list_any other ys) (rest e)

-- where the first that has it has another number, one has
pub other-first : (num : ℕ) (key : List ℕ) (xs : List Pair) (first : Pair) → Some first ≡ least (has_key key) xs → (first.num == num) ≡ false → has_other_with num key xs ≡ true
other-first num key xs first found other =
    any-found (has_key key) (is_other num key) xs first found (and_from (not (first.num == num)) (has_key key first) (ap not other) (found_passes (has_key key) xs first found))

-- whether a pair was found and has the key
abbrev pub found_has_key : List ℕ → Option Pair → Bool
found_has_key key None = false
found_has_key key (Some pair) = has_key key pair

-- behind a pair at or above the key without it, none has it
none_behind : (num : ℕ) (key : List ℕ) (x : Pair) (xs : List Pair) → is_at_or_above key x ≡ true → has_key key x ≡ false → AllByRecursion (λ y. pair_cmp x y ≡ Less) xs → has_other_with num key xs ≡ false
none_behind num key x [] from no_key above = refl
none_behind num key x (y ∷ ys) from no_key above =
    let other = false_from (has_key key y) (λ has. not_both ((Begins-has_key key).joined x y above.0 from has) no_key) in
    ap (λ b. b || has_other_with num key ys) (is_other-no_key num key y other) ∙ none_behind num key x ys from no_key above.1

bytes_same : (xs ys : List ℕ) → bytes_eq xs ys ≡ true → xs ≡ ys
bytes_same xs ys same = (bytes_decides xs ys).0 same

nums_below : (m n : ℕ) → nat_cmp m n ≡ Less → m < n
nums_below m n less = by_lt (is_lt_from less)
  where
    is_lt_from : nat_cmp m n ≡ Less → is_lt (nat_cmp m n) ≡ true
    is_lt_from e = ap is_lt e

    by_lt : is_lt (nat_cmp m n) ≡ true → m < n
    by_lt below = grind (arith, nat_tests)

-- two pairs of one key in order have numbers in order
same_key_below : (x y : Pair) (key : List ℕ) → has_key key x ≡ true → has_key key y ≡ true → pair_cmp x y ≡ Less → x.num < y.num
same_key_below x y key has also less =
    let same : x.key ≡ y.key = bytes_same x.key key has ∙ sym (bytes_same y.key key also) in
    let tied : slice_cmp nat_cmp x.key y.key ≡ Equal = ap (λ own. slice_cmp nat_cmp own y.key) same ∙ tied_itself nat_list_cmp_total y.key in
    nums_below x.num y.num (sym (ap (λ o. ordering_then o (nat_cmp x.num y.num)) tied) ∙ less)

-- what stands behind the first of the key and number
other-behind : (num : ℕ) (key : List ℕ) (x : Pair) (xs : List Pair) → has_key key x ≡ true → (x.num == num) ≡ true → AllByRecursion (λ y. pair_cmp x y ≡ Less) xs → IsInOrder xs → has_other_with num key xs ≡ found_has_key key (find (is_above x) xs)
unfolding IsStrictlySortedBy
other-behind num key x [] has own above sorted = refl
other-behind num key x (y ∷ ys) has own above sorted =
    by_test (has_key key y) refl ∙ ap (λ o. found_has_key key (cond (is_lt o) (Some y) (find (is_above x) ys))) (sym above.0)
  where
    by_test : (here : Bool) → has_key key y ≡ here → has_other_with num key (y ∷ ys) ≡ has_key key y
    by_test true also =
        let above_num : x.num < y.num = same_key_below x y key has also above.0 in
        let other : (y.num == num) ≡ false = grind (arith, nat_tests) in
        or_left (is_other num key y) (has_other_with num key ys) (and_from (not (y.num == num)) (has_key key y) (ap not other) also) ∙ sym also
    by_test false no_key =
        let from = IsUpward-at_or_above key x y above.0 ((Begins-has_key key).within x has) in
        ap (λ b. b || has_other_with num key ys) (is_other-no_key num key y no_key) ∙ none_behind num key y ys from no_key sorted.0 ∙ sym no_key

-- where it has that number, the pair after it tells
pub other-second : (num : ℕ) (key : List ℕ) (xs : List Pair) (first : Pair) → IsInOrder xs → Some first ≡ least (has_key key) xs → (first.num == num) ≡ true → has_other_with num key xs ≡ found_has_key key (least (is_above first) xs)
unfolding IsStrictlySortedBy
other-second num key [] first sorted found own = cc
other-second num key (x ∷ xs) first sorted found own = by_test (λ e. other-second num key xs first sorted.1 e own) (has_key key x) refl found
  where
    not_above : (o : Ordering) → o ≡ Less → is_lt (ordering_reverse o) ≡ false
    not_above o less = ap (λ r. is_lt (ordering_reverse r)) less

    by_test : (Some first ≡ find (has_key key) xs → has_other_with num key xs ≡ found_has_key key (find (is_above first) xs)) → (here : Bool) → has_key key x ≡ here → Some first ≡ cond here (Some x) (find (has_key key) xs) → has_other_with num key (x ∷ xs) ≡ found_has_key key (find (is_above first) (x ∷ xs))
    by_test rest true has e =
        let same : first ≡ x = cc in
        let is_num : (x.num == num) ≡ true = ap (λ (p : Pair). p.num == num) (sym same) ∙ own in
        let skipped : is_other num key x ≡ false = ap (λ b. not b && has_key key x) is_num in
        let at : is_above first x ≡ false = ap (λ p. is_above p x) same ∙ ap is_lt (tied_itself pair_cmp_total x) in
        ap (λ b. b || has_other_with num key xs) skipped
        ∙ other-behind num key x xs has is_num sorted.0 sorted.1
        ∙ ap (λ p. found_has_key key (find (is_above p) xs)) (sym same)
        ∙ ap (λ b. found_has_key key (cond b (Some x) (find (is_above first) xs))) (sym at)
    by_test rest false no_key e =
        let below : pair_cmp x first ≡ Less = found_meets (λ y. pair_cmp x y ≡ Less) (has_key key) xs first sorted.0 (sym e) in
        let at : is_above first x ≡ false = ap is_lt (pair_cmp_total.antisymm first x) ∙ not_above (pair_cmp x first) below in
        ap (λ b. b || has_other_with num key xs) (is_other-no_key num key x no_key)
        ∙ rest e
        ∙ ap (λ b. found_has_key key (cond b (Some x) (find (is_above first) xs))) (sym at)

-- a number that was read tells of the pair's
pub num_differs : (own seen num : ℕ) → seen ≡ own → (seen ≡ num → ⊥) → (own == num) ≡ false
num_differs own seen num is differs = ne_eqb own num (λ same. differs (is ∙ same))

pub num_same : (own seen num : ℕ) → seen ≡ own → seen ≡ num → (own == num) ≡ true
num_same own seen num is same = eq-eqb own num (sym is ∙ same)

-- a pair with a lower key is below
pub key_below : (pair other : Pair) → is_lt (slice_cmp nat_cmp pair.key other.key) ≡ true → is_lt (pair_cmp pair other) ≡ true
key_below pair other lower = first_lt (slice_cmp nat_cmp pair.key other.key) (nat_cmp pair.num other.num) lower
  where
    first_lt : (first second : Ordering) → is_lt first ≡ true → is_lt (ordering_then first second) ≡ true
    first_lt Less second is = refl
    first_lt Equal second is = cc
    first_lt Greater second is = cc

-- where the last pair's key is below the key, no other has it
pub none_up_to : (key : List ℕ) (last : Pair) (xs : List Pair) → is_lt (slice_cmp nat_cmp last.key key) ≡ true → All (λ x. is_lt (pair_cmp last x) ≡ false) xs → (num : ℕ) → has_other_with num key xs ≡ false
none_up_to key last [] below all num = refl
none_up_to key last (x ∷ xs) below all num =
    let here : is_lt (pair_cmp last x) ≡ false = all 0 x (omega arith) in
    let apart = false_from (has_key key x) (λ has. not_both (above (bytes_same x.key key has)) here) in
    let rest : All (λ y. is_lt (pair_cmp last y) ≡ false) xs = λ k d within. all (suc k) d (omega arith) in
    ap (λ b. b || has_other_with num key xs) (is_other-no_key num key x apart) ∙ none_up_to key last xs below rest num
  where
    above : x.key ≡ key → is_lt (pair_cmp last x) ≡ true
    above same = key_below last x (ap (λ (l : List ℕ). is_lt (slice_cmp nat_cmp last.key l)) same ∙ below)
