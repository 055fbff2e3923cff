-- Where a search by halves ends among pairs in order, and what stands there.
use Rattle.std.proofs.Common.{◌≡◌, ℕ, zero, suc, ◌+◌, ◌-◌, ◌<◌, ◌≤◌, Bool, true, false, not, cond, List, [], ◌∷◌, ◌++◌, length, get_or, take, Option, Some, None, is_some, ◌||◌, Bor, MatchOption, ⊎_elim, subst, refl, sym, ap, ◌∙◌, arith}
use Rattle.std.specs.List.{filter, find, slice_get, HoldsAt}
use Rattle.std.specs.List.Sorted.{IsPartitionPoint, IsPartitionedBy}
use Rattle.std.specs.Option.{option_copied}
use Rattle.std.specs.Slice.{IsItemAt}
use Rattle.std.specs.declared.cmp.Ordering.{Ordering}
use Rattle.std.specs.declared.cmp.Ordering.TheVariants.{Less, Equal, Greater}
use Rattle.std.specs.declared.ops.Bound.{Bound}
use Rattle.std.specs.declared.ops.Bound.TheVariants.{Included, Excluded, Unbounded}
use Rattle.std.specs.Ordering.{is_eq, is_lt, is_le}
use Rattle.std.specs.BTreeMap.Comparable.{le_lt_trans}
use Rattle.std.specs.BTreeMap.Range.{is_from_start, is_past_end}
use Rattle.std.proofs.lemmas.Bool.{cases_lt}
use Rattle.std.proofs.lemmas.List.{take_more}
use Rattle.std.proofs.lemmas.Option.{slice_get_past, slice_get_read}
use Rattle.std.proofs.lemmas.Map.Keys.{Less-from_sorted}
use Rattle.ct_definitions.specs.Pairs.{Pair, pair_cmp}
use Rattle.ct_pairs.specs.Finds.{least, greatest, is_pair, has_pair}
use Rattle.ct_pairs.specs.Order.{pair_cmp_total}
use Rattle.ct_pairs.proofs.PairLists.{IsInOrder}
use Rattle.ct_pairs.proofs.Finding.{IsUpward, Begins, kept, find-kept, not_both, false_from, is_lt-Less, last-is_greatest}

-- ---- bounds

pub IsUpward-from_start : (start : Bound Pair) → IsUpward (is_from_start pair_cmp start)
IsUpward-from_start (Included a) x y less from = ap is_le (le_lt_trans pair_cmp_total a x y from less)
IsUpward-from_start (Excluded a) x y less from = ap is_lt (pair_cmp_total.trans a x y (is_lt-Less (pair_cmp a x) from) less)
IsUpward-from_start Unbounded x y less from = refl

pub IsUpward-past_end : (end : Bound Pair) → IsUpward (is_past_end pair_cmp end)
IsUpward-past_end (Included b) x y less past = ap is_lt (pair_cmp_total.trans b x y (is_lt-Less (pair_cmp b x) past) less)
IsUpward-past_end (Excluded b) x y less past = ap is_le (le_lt_trans pair_cmp_total b x y past less)
IsUpward-past_end Unbounded x y less past = cc

-- ---- halves

not_true : (b : Bool) → not b ≡ true → b ≡ false
not_true true h = cc
not_true false h = refl

not_false : (b : Bool) → not b ≡ false → b ≡ true
not_false true h = refl
not_false false h = cc

-- those before the place that an upward test begins at stand before the others
pub IsPartitionedBy-upward : (from : Pair → Bool) → IsUpward from → (xs : List Pair) → IsInOrder xs → IsPartitionedBy (λ x. not (from x)) xs
IsPartitionedBy-upward from upward xs sorted i j d up_to within before = ⊎_elim below at (cases_lt i j)
  where
    below : i < j → not (from (get_or xs i d)) ≡ true
    below less =
        let order = Less-from_sorted pair_cmp xs i j d sorted less within in
        ap not (false_from (from (get_or xs i d)) (λ own. not_both (upward (get_or xs i d) (get_or xs j d) order own) (not_true (from (get_or xs j d)) before)))

    at : j ≤ i → not (from (get_or xs i d)) ≡ true
    at down = let same : j ≡ i = omega arith in ap (λ n. not (from (get_or xs n d))) (sym same) ∙ before

-- where they end
abbrev EndsAt : (Pair → Bool) → List Pair → ℕ → Type 0
EndsAt from xs at = IsPartitionPoint (λ x. not (from x) ≡ true) (λ x. not (from x) ≡ false) xs at

EndsAt-rest : (from : Pair → Bool) (x : Pair) (xs : List Pair) (at : ℕ) → EndsAt from (x ∷ xs) (suc at) → EndsAt from xs at
EndsAt-rest from x xs at ends = (
  λ k d low high. ends.0 (suc k) d (omega arith) (omega arith),
  λ k d low high. ends.1 (suc k) d (omega arith) (omega arith),
)

-- what stands there is the first that meets the test
find-at : (from : Pair → Bool) (xs : List Pair) (at : ℕ) → EndsAt from xs at → find from xs ≡ slice_get xs at
find-at from [] at ends = refl
find-at from (x ∷ xs) zero ends =
    ap (λ here. cond here (Some x) (find from xs)) (not_false (from x) (ends.1 zero x (omega arith) (omega arith)))
find-at from (x ∷ xs) (suc at) ends =
    ap (λ here. cond here (Some x) (find from xs)) (not_true (from x) (ends.0 zero x (omega arith) (omega arith)))
    ∙ find-at from xs at (EndsAt-rest from x xs at ends)

-- what a read of a list gives
read_at : (xs : List Pair) (at : ℕ) (r : Option (Bor Pair)) → MatchOption r (length xs ≤ at) (λ x. (at < length xs) × HoldsAt (λ y. x.now ≡ y) xs at) → option_copied r ≡ slice_get xs at
read_at xs at None past = sym (slice_get_past xs at past)
read_at xs at (Some x) within = sym (slice_get_read xs (length xs) at x.now refl within.0 (within.1 x.now))

pub first-at : (from : Pair → Bool) (xs : List Pair) (at : ℕ) (r : Option (Bor Pair)) → EndsAt from xs at → IsItemAt xs at r → option_copied r ≡ least from xs
first-at from xs at r ends item = read_at xs at r item.3 ∙ sym (find-at from xs at ends)

-- ---- the last before a place

-- those before the place, of which the last stands in front of it
take-before : (from : Pair → Bool) (xs : List Pair) (at : ℕ) → EndsAt from xs at → at ≤ length xs → filter (λ x. not (from x)) xs ≡ take at xs
take-before from [] zero ends fits = refl
take-before from [] (suc at) ends fits = refl
take-before from (x ∷ xs) zero ends fits =
    let own = ends.1 zero x (omega arith) (omega arith) in
    ap (λ here. cond here (x ∷ filter (λ y. not (from y)) xs) (filter (λ y. not (from y)) xs)) own
    ∙ take-before from xs zero (λ k d low high. let no : ⊥ = omega arith in absurd no, λ k d low high. ends.1 (suc k) d (omega arith) (omega arith)) (omega arith)
take-before from (x ∷ xs) (suc at) ends fits =
    ap (λ here. cond here (x ∷ filter (λ y. not (from y)) xs) (filter (λ y. not (from y)) xs)) (ends.0 zero x (omega arith) (omega arith))
    ∙ ap (λ l. x ∷ l) (take-before from xs at (EndsAt-rest from x xs at ends) (omega arith))

pub last-at_start : (from : Pair → Bool) (xs : List Pair) (at : ℕ) → EndsAt from xs at → at ≡ 0 → None ≡ greatest (λ x. not (from x)) xs
last-at_start from xs at ends start =
    let none : filter (λ x. not (from x)) xs ≡ [] = take-before from xs 0 (subst (EndsAt from xs) start ends) (omega arith) in
    last-is_greatest (λ x. not (from x)) xs None [] (none, refl)

pub last-at : (from : Pair → Bool) (xs : List Pair) (at : ℕ) (r : Option (Bor Pair)) → EndsAt from xs at → at ≤ length xs → 0 < at → IsItemAt xs (at - 1) r → option_copied r ≡ greatest (λ x. not (from x)) xs
last-at from xs at None ends fits some item = let past : length xs ≤ at - 1 = item.3 in let no : ⊥ = omega arith in absurd no
last-at from xs at (Some x) ends fits some item =
    let within : at - 1 < length xs = item.3.0 in
    let own : x.now ≡ get_or xs (at - 1) x.now = item.3.1 x.now in
    let next : at ≡ (at - 1) + 1 = omega arith in
    let taken : filter (λ y. not (from y)) xs ≡ take (at - 1) xs ++ x.now ∷ [] =
    take-before from xs at ends fits
    ∙ ap (λ n. take n xs) next
    ∙ take_more xs (at - 1) x.now within
    ∙ ap (λ y. take (at - 1) xs ++ y ∷ []) (sym own) in
    last-is_greatest (λ y. not (from y)) xs (Some x) (take (at - 1) xs) taken

-- ---- whether a pair is there

is_eq-is_le : (o : Ordering) → is_eq o ≡ true → is_le o ≡ true
is_eq-is_le Less same = cc
is_eq-is_le Equal same = refl
is_eq-is_le Greater same = cc

-- a pair that is there is the least from itself on
Begins-is_pair : (pair : Pair) → Begins (is_from_start pair_cmp (Included pair)) (is_pair pair)
Begins-is_pair pair = record {
  within = λ x same. is_eq-is_le (pair_cmp pair x) same;
  joined = λ x y less from same.
      let below : is_pair pair y ≡ false = ap is_eq (le_lt_trans pair_cmp_total pair x y from less) in
      absurd (not_both same below);
}

has_pair-found : (pair : Pair) (xs : List Pair) → has_pair pair xs ≡ is_some (find (is_pair pair) xs)
has_pair-found pair [] = refl
has_pair-found pair (x ∷ xs) = by_test (has_pair-found pair xs) (is_pair pair x)
  where
    by_test : has_pair pair xs ≡ is_some (find (is_pair pair) xs) → (here : Bool) → (here || has_pair pair xs) ≡ is_some (cond here (Some x) (find (is_pair pair) xs))
    by_test rest true = refl
    by_test rest false = rest

is_some-kept : (here : Bool) (x : Pair) → is_some (cond here (Some x) None) ≡ here
is_some-kept true x = refl
is_some-kept false x = refl

pub is_found : (pair found : Pair) (xs : List Pair) → IsInOrder xs → Some found ≡ least (is_from_start pair_cmp (Included pair)) xs → is_pair pair found ≡ has_pair pair xs
is_found pair found xs sorted least_is =
    sym
    (has_pair-found pair xs
    ∙ ap is_some (find-kept (is_from_start pair_cmp (Included pair)) (is_pair pair) (Begins-is_pair pair) xs sorted)
    ∙ ap (λ r. is_some (kept (is_pair pair) r)) (sym least_is)
    ∙ is_some-kept (is_pair pair found) found)

pub not_found : (pair : Pair) (xs : List Pair) → IsInOrder xs → None ≡ least (is_from_start pair_cmp (Included pair)) xs → false ≡ has_pair pair xs
not_found pair xs sorted least_is =
    sym
    (has_pair-found pair xs
    ∙ ap is_some (find-kept (is_from_start pair_cmp (Included pair)) (is_pair pair) (Begins-is_pair pair) xs sorted)
    ∙ ap (λ r. is_some (kept (is_pair pair) r)) (sym least_is))
