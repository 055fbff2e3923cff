-- What a range of pairs in order begins and ends with is what a search finds.
use Rattle.std.proofs.Common.{◌≡◌, ℕ, ◌^◌, ◌<◌, ◌≤◌, ◌==◌, nat_lt, nat_eq, Bool, true, false, not, ◌&&◌, cond, List, [], ◌∷◌, ◌++◌, reverse, Option, Some, None, bytes_eq, Bor, subst, refl, sym, ap, ◌∙◌, arith}
use Rattle.std.specs.List.{list_all, filter, find, starts_with, AllByRecursion}
use Rattle.std.specs.List.Sorted.{IsStrictlySortedBy}
use Rattle.std.specs.Bool.{beq}
use Rattle.std.specs.Option.{option_copied}
use Rattle.std.specs.declared.cmp.Ordering.{Ordering}
use Rattle.std.specs.declared.cmp.Ordering.TheVariants.{Less, Equal, Greater}
use Rattle.std.specs.declared.ops.Bound.{Bound}
use Rattle.std.specs.declared.ops.Bound.TheVariants.{Included, Excluded, Unbounded}
use Rattle.std.specs.Ordering.{nat_cmp, is_eq, is_lt, is_le, ordering_then, ordering_reverse}
use Rattle.std.specs.Cmp.Lexicographic.{slice_cmp}
use Rattle.std.specs.BTreeMap.Range.{is_from_start, is_past_end, range_contains}
use Rattle.std.specs.Map.Iter.{TakesFirst, TakesLast, deref}
use Rattle.std.proofs.lemmas.Bool.{and_parts, and_from, ltb-true, eqb-true, eq-eqb}
use Rattle.std.proofs.lemmas.Bool.Decides.{nat_tests}
use Rattle.std.proofs.lemmas.List.{reverse-append, append-nil}
use Rattle.std.proofs.lemmas.List.Elements.{filter-append}
use Rattle.std.proofs.lemmas.Cmp.{nat_list_cmp_total, tied_itself, alike_right}
use Rattle.std.proofs.lemmas.Map.Text.{is_eq-slice_cmp}
use Rattle.std.specs.BTreeMap.Comparable.{le_lt_trans}
use Rattle.std.specs.Cmp.Lexicographic.{bytes_decides}
use Rattle.ct_definitions.specs.Pairs.{Pair, pair_cmp}
use Rattle.ct_pairs.specs.Finds.{least, greatest, is_above, is_below, has_key, is_at_or_above, is_key_above, is_at_or_below, is_key_below, is_in_set, have_short_nums}
use Rattle.ct_pairs.specs.Order.{pair_cmp_total}
use Rattle.ct_pairs.proofs.PairLists.{IsInOrder}

-- ---- the first and the last of a range

find-none : (test : Pair → Bool) (xs : List Pair) → filter test xs ≡ [] → find test xs ≡ None
find-none test [] none = refl
find-none test (x ∷ xs) none = by_test (find-none test xs) (test x) none
  where
    by_test : (filter test xs ≡ [] → find test xs ≡ None) → (here : Bool) → cond here (x ∷ filter test xs) (filter test xs) ≡ [] → cond here (Some x) (find test xs) ≡ None
    by_test rest true e = cc
    by_test rest false e = rest e

find-first : (test : Pair → Bool) (xs : List Pair) (y : Pair) (ys : List Pair) → filter test xs ≡ y ∷ ys → find test xs ≡ Some y
find-first test [] y ys first = cc
find-first test (x ∷ xs) y ys first = by_test (find-first test xs y ys) (test x) first
  where
    by_test : (filter test xs ≡ y ∷ ys → find test xs ≡ Some y) → (here : Bool) → cond here (x ∷ filter test xs) (filter test xs) ≡ y ∷ ys → cond here (Some x) (find test xs) ≡ Some y
    by_test rest true e = let same : x ≡ y = cc in ap Some same
    by_test rest false e = rest e

filter-reverse : (test : Pair → Bool) (xs : List Pair) → filter test (reverse xs) ≡ reverse (filter test xs)
filter-reverse test [] = refl
filter-reverse test (x ∷ xs) =
    ap (filter test) (reverse-append (x ∷ []) xs)
    ∙ filter-append test (reverse xs) (x ∷ [])
    ∙ ap (λ ys. ys ++ filter test (x ∷ [])) (filter-reverse test xs)
    ∙ by_test (test x)
  where
    by_test : (here : Bool) → reverse (filter test xs) ++ cond here (x ∷ []) [] ≡ reverse (cond here (x ∷ filter test xs) (filter test xs))
    by_test true = sym (reverse-append (x ∷ []) (filter test xs))
    by_test false = append-nil (reverse (filter test xs))

-- tests that agree find the same
find-same : (p q : Pair → Bool) (good : Pair → Bool) (same : (x : Pair) → good x ≡ true → p x ≡ q x) (xs : List Pair) → list_all good xs ≡ true → find p xs ≡ find q xs
find-same p q good same [] each = refl
find-same p q good same (x ∷ xs) each =
    let parts = and_parts (good x) (list_all good xs) each in
    ap (λ here. cond here (Some x) (find p xs)) (same x parts.0) ∙ ap (λ rest. cond (q x) (Some x) rest) (find-same p q good same xs parts.1)

-- the first of a range
pub first-is_least : (test : Pair → Bool) (pairs : List Pair) (first : Option (Bor Pair)) (rest : List Pair) → TakesFirst deref (filter test pairs) first rest → option_copied first ≡ least test pairs
first-is_least test pairs None rest none = sym (find-none test pairs none.0)
first-is_least test pairs (Some x) rest first = sym (find-first test pairs x.now rest first)

-- and the last
pub last-is_greatest : (test : Pair → Bool) (pairs : List Pair) (last : Option (Bor Pair)) (rest : List Pair) → TakesLast deref (filter test pairs) last rest → option_copied last ≡ greatest test pairs
last-is_greatest test pairs None rest none = sym (find-none test (reverse pairs) (filter-reverse test pairs ∙ ap reverse none.0))
last-is_greatest test pairs (Some x) rest last = sym (find-first test (reverse pairs) x.now (reverse rest) (filter-reverse test pairs ∙ ap reverse last ∙ reverse-append rest (x.now ∷ [])))

list_all-append : (test : Pair → Bool) (xs ys : List Pair) → list_all test (xs ++ ys) ≡ (list_all test xs && list_all test ys)
list_all-append test [] ys = refl
list_all-append test (x ∷ xs) ys = grind (arith, list_all-append test xs ys)

list_all-reverse : (test : Pair → Bool) (xs : List Pair) → list_all test xs ≡ true → list_all test (reverse xs) ≡ true
list_all-reverse test [] each = refl
list_all-reverse test (x ∷ xs) each =
    let parts = and_parts (test x) (list_all test xs) each in
    ap (list_all test) (reverse-append (x ∷ []) xs)
    ∙ list_all-append test (reverse xs) (x ∷ [])
    ∙ grind (arith, list_all-reverse test xs parts.1, parts.0)

-- ---- ranges that begin or end at a key

abbrev has_short_num : Pair → Bool
has_short_num pair = nat_lt pair.num (2 ^ 64)

abbrev is_any : Pair → Bool
is_any pair = true

list_all-any : (xs : List Pair) → list_all is_any xs ≡ true
list_all-any [] = refl
list_all-any (x ∷ xs) = list_all-any xs

-- every pair of a key is at or above the key with 0
at_least : (o : Ordering) (num : ℕ) → is_le (ordering_then o (nat_cmp 0 num)) ≡ is_le o
at_least Less num = refl
at_least Equal num = grind (arith, nat_tests)
at_least Greater num = refl

-- and none is above the key with the greatest number
at_most : (o : Ordering) (num : ℕ) → nat_lt num (2 ^ 64) ≡ true → is_lt (ordering_then o (nat_cmp 18446744073709551615 num)) ≡ is_lt o
at_most Less num fits = refl
at_most Equal num fits =
    let short : num < 2 ^ 64 = ltb-true num (2 ^ 64) fits in
    grind (arith, nat_tests)
at_most Greater num fits = refl

not_is_le : (o : Ordering) → not (is_le o) ≡ is_lt (ordering_reverse o)
not_is_le Less = refl
not_is_le Equal = refl
not_is_le Greater = refl

not_is_lt : (o : Ordering) → not (is_lt o) ≡ is_le (ordering_reverse o)
not_is_lt Less = refl
not_is_lt Equal = refl
not_is_lt Greater = refl

key_back : (xs ys : List ℕ) → ordering_reverse (slice_cmp nat_cmp xs ys) ≡ slice_cmp nat_cmp ys xs
key_back xs ys = sym (nat_list_cmp_total.antisymm ys xs)

-- from a pair of the key with 0 on
pub least-at_or_above : (key : List ℕ) (pairs : List Pair) → least (is_from_start pair_cmp (Included (record { key = key; num = 0 }))) pairs ≡ least (is_at_or_above key) pairs
least-at_or_above key pairs = find-same _ (is_at_or_above key) is_any (λ x _. at_least (slice_cmp nat_cmp key x.key) x.num) pairs (list_all-any pairs)

-- behind the last of the key
pub least-above : (key : List ℕ) (pairs : List Pair) → have_short_nums pairs ≡ true → least (is_from_start pair_cmp (Excluded (record { key = key; num = 18446744073709551615 }))) pairs ≡ least (is_key_above key) pairs
least-above key pairs short = find-same _ (is_key_above key) has_short_num (λ x fits. at_most (slice_cmp nat_cmp key x.key) x.num fits) pairs short

-- before a pair
pub greatest-before : (pair : Pair) (pairs : List Pair) → greatest (λ x. not (is_past_end pair_cmp (Excluded pair) x)) pairs ≡ greatest (is_below pair) pairs
greatest-before pair pairs = find-same _ (is_below pair) is_any (λ x _. not_is_le (pair_cmp pair x) ∙ ap is_lt (sym (pair_cmp_total.antisymm x pair))) (reverse pairs) (list_all-any (reverse pairs))

-- ---- the first from a place on, where it meets a test

pub find-never : (test : Pair → Bool) (P : Pair → Type 0) (xs : List Pair) → AllByRecursion P xs → ((y : Pair) → P y → test y ≡ false) → find test xs ≡ None
find-never test P [] each never = refl
find-never test P (x ∷ xs) each never = ap (λ here. cond here (Some x) (find test xs)) (never x each.0) ∙ find-never test P xs each.1 never

pub false_from : (b : Bool) → (b ≡ true → ⊥) → b ≡ false
false_from true h = absurd (h refl)
false_from false h = refl

pub not_both : {b : Bool} → b ≡ true → b ≡ false → ⊥
not_both yes' no' = cc

-- the pair that was found, where it meets a test
abbrev pub kept : (Pair → Bool) → Option Pair → Option Pair
kept test None = None
kept test (Some pair) = cond (test pair) (Some pair) None

-- a test by which those that pass stand at the beginning of a part of the pairs
pub record Begins (from test : Pair → Bool) : Type 0 where
  pub within : (x : Pair) → test x ≡ true → from x ≡ true
  pub joined : (x y : Pair) → pair_cmp x y ≡ Less → from x ≡ true → test y ≡ true → test x ≡ true

-- the least that meets it is the first of that part, if any
pub find-kept : (from test : Pair → Bool) → Begins from test → (xs : List Pair) → IsInOrder xs → find test xs ≡ kept test (find from xs)
unfolding IsStrictlySortedBy
find-kept from test begins [] sorted = refl
find-kept from test begins (x ∷ xs) sorted = by_from (find-kept from test begins xs sorted.1) (from x) refl (test x) refl
  where
    by_from : find test xs ≡ kept test (find from xs) → (in' : Bool) → from x ≡ in' → (here : Bool) → test x ≡ here → cond here (Some x) (find test xs) ≡ kept test (cond in' (Some x) (find from xs))
    by_from rest true e true h = ap (λ b. cond b (Some x) None) (sym h)
    by_from rest true e false h =
        find-never test (λ y. pair_cmp x y ≡ Less) xs sorted.0 (λ y less. false_from (test y) (λ meets. not_both (begins.joined x y less e meets) h))
        ∙ ap (λ b. cond b (Some x) None) (sym h)
    by_from rest false e true h = absurd (not_both (begins.within x h) e)
    by_from rest false e false h = rest

-- one pair below another has no greater key
key_upto : (x y : Pair) → pair_cmp x y ≡ Less → is_le (slice_cmp nat_cmp x.key y.key) ≡ true
key_upto x y less = by_order (slice_cmp nat_cmp x.key y.key) less
  where
    by_order : (o : Ordering) → ordering_then o (nat_cmp x.num y.num) ≡ Less → is_le o ≡ true
    by_order Less e = refl
    by_order Equal e = refl
    by_order Greater e = cc

pub is_lt-Less : (o : Ordering) → is_lt o ≡ true → o ≡ Less
is_lt-Less Less is = refl
is_lt-Less Equal is = cc
is_lt-Less Greater is = cc

upto_trans : (xs ys zs : List ℕ) → is_le (slice_cmp nat_cmp xs ys) ≡ true → is_le (slice_cmp nat_cmp ys zs) ≡ true → is_le (slice_cmp nat_cmp xs zs) ≡ true
upto_trans xs ys zs first second = by_order (slice_cmp nat_cmp ys zs) refl second
  where
    by_order : (o : Ordering) → slice_cmp nat_cmp ys zs ≡ o → is_le o ≡ true → is_le (slice_cmp nat_cmp xs zs) ≡ true
    by_order Less e h = ap is_le (le_lt_trans nat_list_cmp_total xs ys zs first e)
    by_order Equal e h = ap is_le (sym (alike_right nat_list_cmp_total ys zs xs e)) ∙ first
    by_order Greater e h = cc

lt_upto : (xs ys zs : List ℕ) → is_lt (slice_cmp nat_cmp xs ys) ≡ true → is_le (slice_cmp nat_cmp ys zs) ≡ true → is_lt (slice_cmp nat_cmp xs zs) ≡ true
lt_upto xs ys zs first second = by_order (slice_cmp nat_cmp ys zs) refl second
  where
    by_order : (o : Ordering) → slice_cmp nat_cmp ys zs ≡ o → is_le o ≡ true → is_lt (slice_cmp nat_cmp xs zs) ≡ true
    by_order Less e h = ap is_lt (nat_list_cmp_total.trans xs ys zs (is_lt-Less (slice_cmp nat_cmp xs ys) first) e)
    by_order Equal e h = ap is_lt (sym (alike_right nat_list_cmp_total ys zs xs e)) ∙ first
    by_order Greater e h = cc

-- a pair of a greater key is above
above_key : (pair x : Pair) → is_lt (slice_cmp nat_cmp pair.key x.key) ≡ true → is_above pair x ≡ true
above_key pair x below = by_order (slice_cmp nat_cmp pair.key x.key) below
  where
    by_order : (o : Ordering) → is_lt o ≡ true → is_lt (ordering_then o (nat_cmp pair.num x.num)) ≡ true
    by_order Less h = refl
    by_order Equal h = cc
    by_order Greater h = cc

-- ---- pairs of one key

bytes_same : (xs ys : List ℕ) → bytes_eq xs ys ≡ true → xs ≡ ys
bytes_same xs ys same = (bytes_decides xs ys).0 same

between_same : (o : Ordering) → is_le o ≡ true → is_le (ordering_reverse o) ≡ true → is_eq o ≡ true
between_same Less a b = cc
between_same Equal a b = refl
between_same Greater a b = cc

pub Begins-has_key : (key : List ℕ) → Begins (is_at_or_above key) (has_key key)
Begins-has_key key = record {
  within = λ x has. let same : x.key ≡ key = bytes_same x.key key has in ap (λ own. is_le (slice_cmp nat_cmp key own)) same ∙ ap is_le (tied_itself nat_list_cmp_total key);
  joined = λ x y less from has.
      let same : y.key ≡ key = bytes_same y.key key has in
      let upto : is_le (slice_cmp nat_cmp x.key key) ≡ true = ap (λ own. is_le (slice_cmp nat_cmp x.key own)) (sym same) ∙ key_upto x y less in
      sym (is_eq-slice_cmp x.key key) ∙ between_same (slice_cmp nat_cmp x.key key) upto (ap is_le (key_back x.key key) ∙ from);
}

-- ---- pairs of a set

front_upto : (m n : ℕ) (rest : Ordering) → is_le (ordering_then (nat_cmp m n) rest) ≡ true → m ≤ n
front_upto m n rest h = grind (arith, nat_tests)

rest_upto : (m n : ℕ) (rest : Ordering) → m ≡ n → is_le (ordering_then (nat_cmp m n) rest) ≡ true → is_le rest ≡ true
rest_upto m n rest same h = grind (arith, nat_tests)

same_upto : (m n : ℕ) (rest : Ordering) → (m == n) ≡ true → is_le rest ≡ true → is_le (ordering_then (nat_cmp m n) rest) ≡ true
same_upto m n rest same h = grind (arith, nat_tests)

-- bytes are at or below all that begin with them
set_upto : (set key : List ℕ) → starts_with nat_eq key set ≡ true → is_le (slice_cmp nat_cmp set key) ≡ true
set_upto [] [] begins = refl
set_upto [] (k ∷ ks) begins = refl
set_upto (s ∷ ss) [] begins = cc
set_upto (s ∷ ss) (k ∷ ks) begins =
    let parts = and_parts (s == k) (starts_with nat_eq ks ss) begins in
    same_upto s k (slice_cmp nat_cmp ss ks) parts.0 (set_upto ss ks parts.1)

-- what stands between bytes and a key that begins with them begins with them
set_between : (set key above : List ℕ) → is_le (slice_cmp nat_cmp set key) ≡ true → is_le (slice_cmp nat_cmp key above) ≡ true → starts_with nat_eq above set ≡ true → starts_with nat_eq key set ≡ true
set_between [] key above from upto begins = refl
set_between (s ∷ ss) [] above from upto begins = cc
set_between (s ∷ ss) (k ∷ ks) [] from upto begins = cc
set_between (s ∷ ss) (k ∷ ks) (a ∷ as') from upto begins =
    let parts = and_parts (s == a) (starts_with nat_eq as' ss) begins in
    let low : s ≤ k = front_upto s k (slice_cmp nat_cmp ss ks) from in
    let high : k ≤ a = front_upto k a (slice_cmp nat_cmp ks as') upto in
    let same : s ≡ a = eqb-true s a parts.0 in
    let own : s ≡ k = omega arith in
    let next : k ≡ a = omega arith in
    and_from (s == k) _ (eq-eqb s k own) (set_between ss ks as' (rest_upto s k (slice_cmp nat_cmp ss ks) own from) (rest_upto k a (slice_cmp nat_cmp ks as') next upto) parts.1)

pub Begins-is_in_set : (set : List ℕ) → Begins (is_at_or_above set) (is_in_set set)
Begins-is_in_set set = record {
  within = λ x begins. set_upto set x.key begins;
  joined = λ x y less from begins. set_between set x.key y.key from (key_upto x y less) begins;
}

-- where a pair is at the set or above it, what is above the pair is too
pub Begins-next_in_set : (pair : Pair) (set : List ℕ) → is_at_or_above set pair ≡ true → Begins (is_above pair) (λ x. is_above pair x && is_in_set set x)
Begins-next_in_set pair set from = record {
  within = λ x both. (and_parts (is_above pair x) (is_in_set set x) both).0;
  joined = λ x y less above both.
      let begins = (and_parts (is_above pair y) (is_in_set set y) both).1 in
      let at = upto_trans set pair.key x.key from (key_upto pair x (is_lt-Less (pair_cmp pair x) above)) in
      and_from (is_above pair x) (is_in_set set x) above (set_between set x.key y.key at (key_upto x y less) begins);
}

-- where it is below the set, all of the set are above it
pub least-next_in_set : (pair : Pair) (set : List ℕ) (pairs : List Pair) → is_lt (slice_cmp nat_cmp pair.key set) ≡ true → least (λ x. is_above pair x && is_in_set set x) pairs ≡ least (is_in_set set) pairs
least-next_in_set pair set pairs below = find-same _ (is_in_set set) is_any (λ x _. by_test x (is_in_set set x) refl) pairs (list_all-any pairs)
  where
    by_test : (x : Pair) (in' : Bool) → is_in_set set x ≡ in' → (is_above pair x && in') ≡ in'
    by_test x true begins = ap (λ b. b && true) (above_key pair x (lt_upto pair.key set x.key below (set_upto set x.key begins)))
    by_test x false e = grind arith

-- ---- what each search's function answers

and_true : (b : Bool) → (b && true) ≡ b
and_true true = refl
and_true false = refl

pub first_from-found : (start : Bound Pair) (range pairs seen : List Pair) (first : Option (Bor Pair)) (rest : List Pair) → range ≡ filter (range_contains pair_cmp start Unbounded) pairs → pairs ≡ seen → TakesFirst deref range first rest → option_copied first ≡ least (is_from_start pair_cmp start) seen
first_from-found start range pairs seen first rest between is takes =
    first-is_least (range_contains pair_cmp start Unbounded) pairs first rest (subst (λ part. TakesFirst deref part first rest) between takes)
    ∙ find-same _ (is_from_start pair_cmp start) is_any (λ x _. and_true (is_from_start pair_cmp start x)) pairs (list_all-any pairs)
    ∙ ap (least (is_from_start pair_cmp start)) is

pub last_up_to-found : (end : Bound Pair) (range pairs seen : List Pair) (last : Option (Bor Pair)) (rest : List Pair) → range ≡ filter (range_contains pair_cmp Unbounded end) pairs → pairs ≡ seen → TakesLast deref range last rest → option_copied last ≡ greatest (λ pair. not (is_past_end pair_cmp end pair)) seen
last_up_to-found end range pairs seen last rest between is takes =
    last-is_greatest (range_contains pair_cmp Unbounded end) pairs last rest (subst (λ part. TakesLast deref part last rest) between takes)
    ∙ ap (greatest (λ pair. not (is_past_end pair_cmp end pair))) is

pub at_or_above-found : (pair : Pair) (key : List ℕ) (pairs : List Pair) → pair ≡ record { key = key; num = 0 } → least (is_from_start pair_cmp (Included pair)) pairs ≡ least (is_at_or_above key) pairs
at_or_above-found pair key pairs is = ap (λ p. least (is_from_start pair_cmp (Included p)) pairs) is ∙ least-at_or_above key pairs

pub above-found : (pair : Pair) (key : List ℕ) (pairs : List Pair) → pair ≡ record { key = key; num = 18446744073709551615 } → have_short_nums pairs ≡ true → least (is_from_start pair_cmp (Excluded pair)) pairs ≡ least (is_key_above key) pairs
above-found pair key pairs is_pair short = ap (λ p. least (is_from_start pair_cmp (Excluded p)) pairs) is_pair ∙ least-above key pairs short

pub kept-none : (from test : Pair → Bool) (pairs : List Pair) → Begins from test → IsInOrder pairs → None ≡ least from pairs → None ≡ least test pairs
kept-none from test pairs begins sorted none = sym (find-kept from test begins pairs sorted ∙ ap (kept test) (sym none))

pub kept-some : (from test : Pair → Bool) (pairs : List Pair) (pair : Pair) → Begins from test → IsInOrder pairs → Some pair ≡ least from pairs → test pair ≡ true → Some pair ≡ least test pairs
kept-some from test pairs pair begins sorted found meets = sym (find-kept from test begins pairs sorted ∙ ap (kept test) (sym found) ∙ ap (λ b. cond b (Some pair) None) meets)

pub kept-other : (from test : Pair → Bool) (pairs : List Pair) (pair : Pair) → Begins from test → IsInOrder pairs → Some pair ≡ least from pairs → test pair ≡ false → None ≡ least test pairs
kept-other from test pairs pair begins sorted found other = sym (find-kept from test begins pairs sorted ∙ ap (kept test) (sym found) ∙ ap (λ b. cond b (Some pair) None) other)

-- ---- the last pair before a place

-- a test that all pairs above one that passes pass too
abbrev pub IsUpward : (Pair → Bool) → Type 0
IsUpward from = (x y : Pair) → pair_cmp x y ≡ Less → from x ≡ true → from y ≡ true

pub IsUpward-at_or_above : (key : List ℕ) → IsUpward (is_at_or_above key)
IsUpward-at_or_above key x y less at = upto_trans key x.key y.key at (key_upto x y less)

pub IsUpward-above : (key : List ℕ) → IsUpward (is_key_above key)
IsUpward-above key x y less above = lt_upto key x.key y.key above (key_upto x y less)

same_from_beq : (a b : Bool) → beq a b ≡ true → a ≡ b
same_from_beq true true h = refl
same_from_beq true false h = cc
same_from_beq false true h = cc
same_from_beq false false h = refl

-- whether a pair is before a place exactly where it is below a pair
abbrev agrees : (Pair → Bool) → Pair → Pair → Bool
agrees from above x = beq (not (from x)) (is_below above x)

pub found_meets : (P : Pair → Type 0) (from : Pair → Bool) (xs : List Pair) (above : Pair) → AllByRecursion P xs → find from xs ≡ Some above → P above
found_meets P from [] above each found = cc
found_meets P from (x ∷ xs) above each found = by_test (found_meets P from xs above each.1) (from x) found
  where
    by_test : (find from xs ≡ Some above → P above) → (here : Bool) → cond here (Some x) (find from xs) ≡ Some above → P above
    by_test rest true e = let same : x ≡ above = cc in subst P same each.0
    by_test rest false e = rest e

none_before : (from : Pair → Bool) → IsUpward from → (x : Pair) (xs : List Pair) → from x ≡ true → AllByRecursion (λ y. pair_cmp x y ≡ Less) xs → list_all (agrees from x) xs ≡ true
none_before from upward x [] at above = refl
none_before from upward x (y ∷ ys) at above =
    let past : is_lt (pair_cmp y x) ≡ false = ap is_lt (pair_cmp_total.antisymm y x) ∙ ap (λ o. is_lt (ordering_reverse o)) above.0 in
    let here : agrees from x y ≡ true = ap (λ b. beq (not b) (is_below x y)) (upward x y above.0 at) ∙ ap (λ b. beq false b) past in
    and_from (agrees from x y) _ here (none_before from upward x ys at above.1)

all_agree : (from : Pair → Bool) → IsUpward from → (xs : List Pair) (above : Pair) → IsInOrder xs → find from xs ≡ Some above → list_all (agrees from above) xs ≡ true
unfolding IsStrictlySortedBy
all_agree from upward [] above sorted found = cc
all_agree from upward (x ∷ xs) above sorted found = by_test (all_agree from upward xs above sorted.1) (from x) refl found
  where
    by_test : (find from xs ≡ Some above → list_all (agrees from above) xs ≡ true) → (here : Bool) → from x ≡ here → cond here (Some x) (find from xs) ≡ Some above → list_all (agrees from above) (x ∷ xs) ≡ true
    by_test rest true at e =
        let same : x ≡ above = cc in
        let own : agrees from x x ≡ true = ap (λ b. beq (not b) (is_below x x)) at ∙ ap (λ o. beq false (is_lt o)) (tied_itself pair_cmp_total x) in
        subst (λ a. list_all (agrees from a) (x ∷ xs) ≡ true) same (and_from (agrees from x x) _ own (none_before from upward x xs at sorted.0))
    by_test rest false before e =
        let below : pair_cmp x above ≡ Less = found_meets (λ y. pair_cmp x y ≡ Less) from xs above sorted.0 e in
        let here : agrees from above x ≡ true = ap (λ b. beq (not b) (is_below above x)) before ∙ ap (λ o. beq true (is_lt o)) below in
        and_from (agrees from above x) _ here (rest e)

all_before : (from : Pair → Bool) (xs : List Pair) → find from xs ≡ None → list_all (λ x. not (from x)) xs ≡ true
all_before from [] none = refl
all_before from (x ∷ xs) none = by_test (all_before from xs) (from x) refl none
  where
    by_test : (find from xs ≡ None → list_all (λ y. not (from y)) xs ≡ true) → (here : Bool) → from x ≡ here → cond here (Some x) (find from xs) ≡ None → list_all (λ y. not (from y)) (x ∷ xs) ≡ true
    by_test rest true at e = cc
    by_test rest false before e = and_from (not (from x)) _ (ap not before) (rest e)

-- the last pair before the place that a test begins at
pub greatest-outside : (from : Pair → Bool) → IsUpward from → (xs : List Pair) (above : Pair) → IsInOrder xs → Some above ≡ least from xs → greatest (is_below above) xs ≡ greatest (λ x. not (from x)) xs
greatest-outside from upward xs above sorted found =
    find-same (is_below above) (λ x. not (from x)) (agrees from above) (λ x agree. sym (same_from_beq (not (from x)) (is_below above x) agree)) (reverse xs) (list_all-reverse (agrees from above) xs (all_agree from upward xs above sorted (sym found)))

pub greatest-of_all : (from : Pair → Bool) (xs : List Pair) → None ≡ least from xs → greatest (λ x. true) xs ≡ greatest (λ x. not (from x)) xs
greatest-of_all from xs none =
    find-same (λ x. true) (λ x. not (from x)) (λ x. not (from x)) (λ x before. sym before) (reverse xs) (list_all-reverse (λ x. not (from x)) xs (all_before from xs (sym none)))

same_outside : (p q : Pair → Bool) → ((x : Pair) → p x ≡ q x) → (xs : List Pair) → greatest p xs ≡ greatest q xs
same_outside p q same xs = find-same p q is_any (λ x _. same x) (reverse xs) (list_all-any (reverse xs))

-- what is not at or above a key is below it
pub outside-at_or_above : (key : List ℕ) (xs : List Pair) → greatest (λ x. not (is_at_or_above key x)) xs ≡ greatest (is_key_below key) xs
outside-at_or_above key xs = same_outside _ (is_key_below key) (λ x. not_is_le (slice_cmp nat_cmp key x.key) ∙ ap is_lt (key_back key x.key)) xs

pub outside-above : (key : List ℕ) (xs : List Pair) → greatest (λ x. not (is_key_above key x)) xs ≡ greatest (is_at_or_below key) xs
outside-above key xs = same_outside _ (is_at_or_below key) (λ x. not_is_lt (slice_cmp nat_cmp key x.key) ∙ ap is_le (key_back key x.key)) xs

pub found_passes : (test : Pair → Bool) (xs : List Pair) (x : Pair) → Some x ≡ find test xs → test x ≡ true
found_passes test [] x found = cc
found_passes test (y ∷ ys) x found = by_test (found_passes test ys x) (test y) refl found
  where
    by_test : (Some x ≡ find test ys → test x ≡ true) → (here : Bool) → test y ≡ here → Some x ≡ cond here (Some y) (find test ys) → test x ≡ true
    by_test rest true meets e = let same : x ≡ y = cc in ap test same ∙ meets
    by_test rest false other e = rest e

pub and_false : (b : Bool) → (b && false) ≡ false
and_false true = refl
and_false false = refl

-- a pair whose key is not below the set is at the set or above it
pub at_or_above-not_below : (pair : Pair) (set : List ℕ) → is_lt (slice_cmp nat_cmp pair.key set) ≡ false → is_at_or_above set pair ≡ true
at_or_above-not_below pair set other = sym (not_is_lt (slice_cmp nat_cmp pair.key set) ∙ ap is_le (key_back pair.key set)) ∙ ap not other

-- the pair after one is the next of the set where it is in the set, and else there is none
pub next-some : (pair x : Pair) (set : List ℕ) (xs : List Pair) → is_at_or_above set pair ≡ true → IsInOrder xs → Some x ≡ least (is_above pair) xs → is_in_set set x ≡ true → Some x ≡ least (λ y. is_above pair y && is_in_set set y) xs
next-some pair x set xs from sorted found begins =
    kept-some (is_above pair) (λ y. is_above pair y && is_in_set set y) xs x (Begins-next_in_set pair set from) sorted found (and_from (is_above pair x) (is_in_set set x) (found_passes (is_above pair) xs x found) begins)

pub next-other : (pair x : Pair) (set : List ℕ) (xs : List Pair) → is_at_or_above set pair ≡ true → IsInOrder xs → Some x ≡ least (is_above pair) xs → is_in_set set x ≡ false → None ≡ least (λ y. is_above pair y && is_in_set set y) xs
next-other pair x set xs from sorted found other =
    kept-other (is_above pair) (λ y. is_above pair y && is_in_set set y) xs x (Begins-next_in_set pair set from) sorted found (ap (λ b. is_above pair x && b) other ∙ and_false (is_above pair x))

pub next-none : (pair : Pair) (set : List ℕ) (xs : List Pair) → is_at_or_above set pair ≡ true → IsInOrder xs → None ≡ least (is_above pair) xs → None ≡ least (λ y. is_above pair y && is_in_set set y) xs
next-none pair set xs from sorted none = kept-none (is_above pair) (λ y. is_above pair y && is_in_set set y) xs (Begins-next_in_set pair set from) sorted none
