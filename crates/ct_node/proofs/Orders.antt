-- The order of pairs, and where a pair stands among pairs in order.
use Rattle.std.proofs.Common.{◌≡◌, ℕ, zero, suc, ◌+◌, ◌≤◌, Bool, true, false, not, ◌&&◌, ◌||◌, cond, List, [], ◌∷◌, length, get_or, map, refl, sym, ap, ◌∙◌, arith, filter, subst, ⊎_elim}
use Rattle.std.specs.List.{All, AllWithin, insert, remove, prefix_len}
use Rattle.std.specs.List.Sorted.{IsPartitionedBy}
use Rattle.std.specs.Option.{option_map_or}
use Rattle.std.specs.Prelude.{slice_get}
use Rattle.std.specs.declared.cmp.Ordering.{Ordering}
use Rattle.std.specs.declared.cmp.Ordering.TheVariants.{Less, Equal, Greater}
use Rattle.std.specs.Ordering.{is_lt, is_eq, is_gt, ordering_reverse}
use Rattle.std.specs.Cmp.{IsTotalOrder}
use Rattle.std.proofs.lemmas.Cmp.{then_total, on_total, nat_list_cmp_total, nat_cmp_total, alike_right, tied_back}
use Rattle.std.proofs.lemmas.Bool.{cases_Bool, cases_eq, false≢true, or_parts}
use Rattle.std.proofs.lemmas.List.{get_or-map, length-map}
use Rattle.std.proofs.lemmas.List.Sums.{prefix_len_is}
use Rattle.std.proofs.lemmas.List.Elements.{All-nil, All-cons, All-head, All-tail, All-weaker, All-filter}
use Rattle.std.proofs.lemmas.List.Folds.{list_any_none}
use Rattle.ct_definitions.specs.Pairs.{Pair, pair_cmp, with_pair}
use Rattle.ct_node.specs.Nodes.{Entry, IsAscending, has_pair, with_entry, has_other_pair, pair_in}
use Rattle.ct_node.specs.Places.{is_before}

pub pair_total : IsTotalOrder pair_cmp
pair_total = then_total (on_total (λ (pair : Pair). pair.key) nat_list_cmp_total) (on_total (λ (pair : Pair). pair.num) nat_cmp_total)

lt-is : (order : Ordering) → is_lt order ≡ true → order ≡ Less
lt-is Less is = refl
lt-is Equal is = absurd (false≢true is)
lt-is Greater is = absurd (false≢true is)

eq-is : (order : Ordering) → is_eq order ≡ true → order ≡ Equal
eq-is Less is = absurd (false≢true is)
eq-is Equal is = refl
eq-is Greater is = absurd (false≢true is)

-- one pair is below another
abbrev pub below : Pair → Pair → Bool
below a b = is_lt (pair_cmp a b)

-- two pairs are one
abbrev pub same : Pair → Pair → Bool
same a b = is_eq (pair_cmp a b)

pub below-trans : (a b c : Pair) → below a b ≡ true → below b c ≡ true → below a c ≡ true
below-trans a b c first second = ap is_lt (pair_total.trans a b c (lt-is (pair_cmp a b) first) (lt-is (pair_cmp b c) second))

pub below_same : (a b c : Pair) → below a b ≡ true → same b c ≡ true → below a c ≡ true
below_same a b c first second = ap is_lt (sym (alike_right pair_total b c a (eq-is (pair_cmp b c) second))) ∙ first

pub same_below : (a b c : Pair) → same a b ≡ true → below b c ≡ true → below a c ≡ true
same_below a b c first second = ap is_lt (pair_total.congr a b c (eq-is (pair_cmp a b) first)) ∙ second

pub same_back : (a b : Pair) → same a b ≡ true → same b a ≡ true
same_back a b is = ap is_eq (tied_back pair_total a b (eq-is (pair_cmp a b) is))

turned-lt : (order : Ordering) → is_lt order ≡ true → is_lt (ordering_reverse order) ≡ false
turned-lt Less is = refl
turned-lt Equal is = refl
turned-lt Greater is = absurd (false≢true is)

-- a pair below another is not above it
pub not_above : (a b : Pair) → below a b ≡ true → below b a ≡ false
not_above a b is = ap is_lt (pair_total.antisymm b a) ∙ turned-lt (pair_cmp a b) is

not_eq_from_lt : (order : Ordering) → is_lt order ≡ true → is_eq order ≡ false
not_eq_from_lt Less is = refl
not_eq_from_lt Equal is = absurd (false≢true is)
not_eq_from_lt Greater is = refl

pub not_same : (a b : Pair) → below a b ≡ true → same a b ≡ false
not_same a b is = not_eq_from_lt (pair_cmp a b) is

turned-gt : (order : Ordering) → is_lt order ≡ false → is_eq order ≡ false → is_lt (ordering_reverse order) ≡ true
turned-gt Less not_lt other = absurd (false≢true (sym not_lt))
turned-gt Equal not_lt other = absurd (false≢true (sym other))
turned-gt Greater not_lt other = refl

-- a pair that is neither below another nor it is above it
pub above : (a b : Pair) → below a b ≡ false → same a b ≡ false → below b a ≡ true
above a b not_lt other = ap is_lt (pair_total.antisymm b a) ∙ turned-gt (pair_cmp a b) not_lt other

-- what is below another that is below, or at, a third is below it too
pub before-trans : (or_at : Bool) (other a b : Pair) → below a b ≡ true → is_before or_at other b ≡ true → is_before or_at other a ≡ true
before-trans or_at other a b first second = by_below _ refl
  where
    by_at : (at : Bool) → same b other ≡ at → (false || (or_at && at)) ≡ true → is_before or_at other a ≡ true
    by_at true is before = ap (λ test. test || (or_at && same a other)) (below_same a b other first is)
    by_at false is before = absurd (false≢true (none or_at ∙ before))
      where
        none : (test : Bool) → false ≡ (false || (test && false))
        none true = refl
        none false = refl

    by_below : (test : Bool) → below b other ≡ test → is_before or_at other a ≡ true
    by_below true is = ap (λ test. test || (or_at && same a other)) (below-trans a b other first is)
    by_below false is = by_at (same b other) refl (ap (λ test. test || (or_at && same b other)) (sym is) ∙ second)

-- what is below a pair, or at it, comes first among pairs in order
pub IsPartitionedBy-before : (or_at : Bool) (other : Pair) (pairs : List Pair) → IsAscending pairs → IsPartitionedBy (is_before or_at other) pairs
IsPartitionedBy-before or_at other pairs order i j d le within before =
    ⊎_elim (λ is. subst (λ k. is_before or_at other (get_or pairs k d) ≡ true) (sym is) before) (λ apart. before-trans or_at other (get_or pairs i d) (get_or pairs j d) (order i j d (omega arith) within) before) (cases_eq i j)

pub prefix_len-point : (p : Pair → Bool) (pairs : List Pair) (n : ℕ) → n ≤ length pairs → AllWithin (λ pair. p pair ≡ true) pairs 0 n → AllWithin (λ pair. p pair ≡ false) pairs n (length pairs) → n ≡ prefix_len p pairs
prefix_len-point p [] n within first last = omega arith
prefix_len-point p (x ∷ xs) n within first last = sym (prefix_len_is p (x ∷ xs) n x within (λ k below. first k x (omega arith) below) (λ below. last n x (omega arith) below))

prefix_len-yes : {X : Type 0} (p : X → Bool) (x : X) (xs : List X) → p x ≡ true → prefix_len p (x ∷ xs) ≡ suc (prefix_len p xs)
prefix_len-yes p x xs is = rw is (let next : 1 + prefix_len p xs ≡ suc (prefix_len p xs) = omega arith in next)

prefix_len-no : {X : Type 0} (p : X → Bool) (x : X) (xs : List X) → p x ≡ false → prefix_len p (x ∷ xs) ≡ 0
prefix_len-no p x xs is = rw is refl

before_from_below : (other a : Pair) → below a other ≡ true → is_before false other a ≡ true
before_from_below other a is = rw is refl

not_before : (other a : Pair) → below a other ≡ false → is_before false other a ≡ false
not_before other a is = rw is refl

-- where a pair is to stand among the pairs of entries
abbrev pub place : Pair → List Entry → ℕ
place pair entries = prefix_len (is_before false pair) (map pair_in entries)

with_entry-step : (new entry : Entry) (entries : List Entry) → same entry.pair new.pair ≡ false → with_entry new entries ≡ insert entries (place new.pair entries) new → with_entry new (entry ∷ entries) ≡ insert (entry ∷ entries) (place new.pair (entry ∷ entries)) new
with_entry-step new entry entries other rest = ⊎_elim first behind (cases_Bool (below entry.pair new.pair))
  where
    first : below entry.pair new.pair ≡ true → with_entry new (entry ∷ entries) ≡ insert (entry ∷ entries) (place new.pair (entry ∷ entries)) new
    first is =
        let kept : with_entry new (entry ∷ entries) ≡ entry ∷ with_entry new entries = rw (not_above entry.pair new.pair is) refl in
        kept
        ∙ ap (λ ys. entry ∷ ys) rest
        ∙ ap (λ n. insert (entry ∷ entries) n new) (sym (prefix_len-yes (is_before false new.pair) entry.pair (map pair_in entries) (before_from_below new.pair entry.pair is)))

    behind : below entry.pair new.pair ≡ false → with_entry new (entry ∷ entries) ≡ insert (entry ∷ entries) (place new.pair (entry ∷ entries)) new
    behind is =
        let here : with_entry new (entry ∷ entries) ≡ new ∷ entry ∷ entries = rw (above entry.pair new.pair is other) refl in
        here ∙ ap (λ n. insert (entry ∷ entries) n new) (sym (prefix_len-no (is_before false new.pair) entry.pair (map pair_in entries) (not_before new.pair entry.pair is)))

-- a new entry is put in at the place of its pair
pub with_entry-insert : (new : Entry) (entries : List Entry) → has_pair new.pair (map pair_in entries) ≡ false → with_entry new entries ≡ insert entries (place new.pair entries) new
with_entry-insert new [] absent = refl
with_entry-insert new (entry ∷ entries) absent =
    let parts = or_parts (same entry.pair new.pair) (has_pair new.pair (map pair_in entries)) absent in
    with_entry-step new entry entries parts.0 (with_entry-insert new entries parts.1)

-- the pairs gain that one
pub map-with_entry : (new : Entry) (entries : List Entry) → map pair_in (with_entry new entries) ≡ with_pair new.pair (map pair_in entries)
map-with_entry new [] = refl
map-with_entry new (entry ∷ entries) = by_test (below new.pair entry.pair) (map-with_entry new entries)
  where
    by_test : (test : Bool) → map pair_in (with_entry new entries) ≡ with_pair new.pair (map pair_in entries) → map pair_in (cond test (new ∷ entry ∷ entries) (entry ∷ with_entry new entries)) ≡ cond test (new.pair ∷ entry.pair ∷ map pair_in entries) (entry.pair ∷ with_pair new.pair (map pair_in entries))
    by_test true rest = refl
    by_test false rest = ap (λ ys. entry.pair ∷ ys) rest

-- the pairs other than one
abbrev pub other_than : Pair → Pair → Bool
other_than pair other = not (same other pair)

-- the pairs lose that one
pub map-filter : (pair : Pair) (entries : List Entry) → map pair_in (filter (has_other_pair pair) entries) ≡ filter (other_than pair) (map pair_in entries)
map-filter pair [] = refl
map-filter pair (entry ∷ entries) = by_test (same entry.pair pair) (map-filter pair entries)
  where
    by_test : (test : Bool) → map pair_in (filter (has_other_pair pair) entries) ≡ filter (other_than pair) (map pair_in entries) → map pair_in (cond (not test) (entry ∷ filter (has_other_pair pair) entries) (filter (has_other_pair pair) entries)) ≡ cond (not test) (entry.pair ∷ filter (other_than pair) (map pair_in entries)) (filter (other_than pair) (map pair_in entries))
    by_test true rest = rest
    by_test false rest = ap (λ ys. entry.pair ∷ ys) rest

-- pairs in order, from the front on
Rises : List Pair → Type 0
Rises [] = Unit
Rises (pair ∷ pairs) = All (λ next. below pair next ≡ true) pairs × Rises pairs

Rises-from_order : (pairs : List Pair) → IsAscending pairs → Rises pairs
unfolding Rises
Rises-from_order [] order = tt
Rises-from_order (pair ∷ pairs) order =
    (λ k d within. order 0 (suc k) d (omega arith) (omega arith), Rises-from_order pairs (λ i j d first within. order (suc i) (suc j) d (omega arith) (omega arith)))

order_from_Rises : (pairs : List Pair) → Rises pairs → IsAscending pairs
unfolding Rises
order_from_Rises [] up i j d first within = absurd (omega (arith, within))
order_from_Rises (pair ∷ pairs) up i zero d first within = absurd (omega (arith, first))
order_from_Rises (pair ∷ pairs) up zero (suc j) d first within = up.0 j d (omega arith)
order_from_Rises (pair ∷ pairs) up (suc i) (suc j) d first within = order_from_Rises pairs up.1 i j d (omega arith) (omega arith)

pub All-with_pair : (P : Pair → Type 0) (new : Pair) (pairs : List Pair) → P new → All P pairs → All P (with_pair new pairs)
All-with_pair P new [] here all = All-cons P new [] here all
All-with_pair P new (pair ∷ pairs) here all = by_test (below new pair) (All-with_pair P new pairs here (All-tail P pair pairs all))
  where
    by_test : (test : Bool) → All P (with_pair new pairs) → All P (cond test (new ∷ pair ∷ pairs) (pair ∷ with_pair new pairs))
    by_test true rest = All-cons P new (pair ∷ pairs) here all
    by_test false rest = All-cons P pair (with_pair new pairs) (All-head P pair pairs all) rest

not_same_turned : (a b : Pair) → same a b ≡ false → same b a ≡ false
not_same_turned a b is = ⊎_elim (λ one. absurd (false≢true (sym is ∙ same_back b a one))) (λ other. other) (cases_Bool (same b a))

Rises-with_pair : (new : Pair) (pairs : List Pair) → has_pair new pairs ≡ false → Rises pairs → Rises (with_pair new pairs)
unfolding Rises
Rises-with_pair new [] absent up = (All-nil (λ next. below new next ≡ true), tt)
Rises-with_pair new (pair ∷ pairs) absent up =
    let parts = or_parts (same pair new) (has_pair new pairs) absent in
    by_test (below new pair) refl parts.0 (Rises-with_pair new pairs parts.1 up.1)
  where
    by_test : (test : Bool) → below new pair ≡ test → same pair new ≡ false → Rises (with_pair new pairs) → Rises (cond test (new ∷ pair ∷ pairs) (pair ∷ with_pair new pairs))
    by_test true is other rest = (All-cons (λ next. below new next ≡ true) pair pairs is (All-weaker (λ next. below pair next ≡ true) (λ next. below new next ≡ true) (λ next over. below-trans new pair next is over) pairs up.0), up)
    by_test false is other rest = (All-with_pair (λ next. below pair next ≡ true) new pairs (above new pair is (not_same_turned pair new other)) up.0, rest)

pub IsAscending-with_pair : (new : Pair) (pairs : List Pair) → has_pair new pairs ≡ false → IsAscending pairs → IsAscending (with_pair new pairs)
IsAscending-with_pair new pairs absent order = order_from_Rises (with_pair new pairs) (Rises-with_pair new pairs absent (Rises-from_order pairs order))

Rises-filter : (p : Pair → Bool) (pairs : List Pair) → Rises pairs → Rises (filter p pairs)
unfolding Rises
Rises-filter p [] up = tt
Rises-filter p (pair ∷ pairs) up = by_test (p pair) (Rises-filter p pairs up.1)
  where
    by_test : (test : Bool) → Rises (filter p pairs) → Rises (cond test (pair ∷ filter p pairs) (filter p pairs))
    by_test true rest = (All-filter p (λ next. below pair next ≡ true) pairs up.0, rest)
    by_test false rest = rest

pub IsAscending-filter : (p : Pair → Bool) (pairs : List Pair) → IsAscending pairs → IsAscending (filter p pairs)
IsAscending-filter p pairs order = order_from_Rises (filter p pairs) (Rises-filter p pairs (Rises-from_order pairs order))

-- whether the entry of a place has a pair
abbrev pub has_at : ℕ → Pair → List Entry → Bool
has_at n pair entries = option_map_or (λ (entry : Entry). same entry.pair pair) (slice_get entries n) false

All-from_map : (P : Pair → Type 0) (entries : List Entry) → All P (map pair_in entries) → All (λ entry. P (pair_in entry)) entries
All-from_map P entries all k d within =
    subst P (get_or-map pair_in entries k d (pair_in d) within) (all k (pair_in d) (omega (arith, length-map entries pair_in)))

filter_all : (p : Entry → Bool) (entries : List Entry) → All (λ entry. p entry ≡ true) entries → filter p entries ≡ entries
filter_all p [] all = refl
filter_all p (entry ∷ entries) all =
    let here : p entry ≡ true = All-head (λ y. p y ≡ true) entry entries all in
    let kept : filter p (entry ∷ entries) ≡ entry ∷ filter p entries = rw here refl in
    kept ∙ ap (λ ys. entry ∷ ys) (filter_all p entries (All-tail (λ y. p y ≡ true) entry entries all))

-- what is above a pair that is not below another is not that other
other_above : (pair here next : Pair) → below here pair ≡ false → below here next ≡ true → same next pair ≡ false
other_above pair here next not_lt over =
    ⊎_elim (λ is. absurd (false≢true (sym not_lt ∙ below_same here next pair over is))) (λ other. other) (cases_Bool (same next pair))

none_else : (test : Bool) → (test || false) ≡ test
none_else true = refl
none_else false = refl

has_pair-rises : (pair : Pair) (entries : List Entry) → Rises (map pair_in entries) → has_pair pair (map pair_in entries) ≡ has_at (place pair entries) pair entries
unfolding Rises
has_pair-rises pair [] up = refl
has_pair-rises pair (entry ∷ entries) up = by_test (below entry.pair pair) refl (has_pair-rises pair entries up.1)
  where
    by_test : (test : Bool) → below entry.pair pair ≡ test → has_pair pair (map pair_in entries) ≡ has_at (place pair entries) pair entries → has_pair pair (map pair_in (entry ∷ entries)) ≡ has_at (place pair (entry ∷ entries)) pair (entry ∷ entries)
    by_test true is rest =
        let skipped : has_pair pair (map pair_in (entry ∷ entries)) ≡ has_pair pair (map pair_in entries) = rw (not_same entry.pair pair is) refl in
        skipped ∙ rest ∙ ap (λ n. has_at n pair (entry ∷ entries)) (sym (prefix_len-yes (is_before false pair) entry.pair (map pair_in entries) (before_from_below pair entry.pair is)))
    by_test false is rest =
        ap (λ others. same entry.pair pair || others) (list_any_none (λ other. same other pair) (map pair_in entries) (All-weaker (λ next. below entry.pair next ≡ true) (λ next. same next pair ≡ false) (λ next over. other_above pair entry.pair next is over) (map pair_in entries) up.0))
        ∙ none_else (same entry.pair pair)
        ∙ ap (λ n. has_at n pair (entry ∷ entries)) (sym (prefix_len-no (is_before false pair) entry.pair (map pair_in entries) (not_before pair entry.pair is)))

-- whether a pair is there is told at its place
pub has_pair-is : (pair : Pair) (entries : List Entry) → IsAscending (map pair_in entries) → has_pair pair (map pair_in entries) ≡ has_at (place pair entries) pair entries
has_pair-is pair entries order = has_pair-rises pair entries (Rises-from_order (map pair_in entries) order)

-- the entry of a pair taken out of its place, where it is there
abbrev pub removed : ℕ → Pair → List Entry → List Entry
removed n pair entries = cond (has_at n pair entries) (remove entries n) entries

both_consed : (test : Bool) (entry : Entry) (ys zs : List Entry) → entry ∷ cond test ys zs ≡ cond test (entry ∷ ys) (entry ∷ zs)
both_consed true entry ys zs = refl
both_consed false entry ys zs = refl

filter-rises : (pair : Pair) (entries : List Entry) → Rises (map pair_in entries) → filter (has_other_pair pair) entries ≡ removed (place pair entries) pair entries
unfolding Rises
filter-rises pair [] up = refl
filter-rises pair (entry ∷ entries) up = by_test (below entry.pair pair) refl (filter-rises pair entries up.1)
  where
    by_same : (test : Bool) (ys : List Entry) → ys ≡ entries → cond (not test) (entry ∷ ys) ys ≡ cond test entries (entry ∷ entries)
    by_same true ys is = is
    by_same false ys is = ap (λ zs. entry ∷ zs) is

    by_test : (test : Bool) → below entry.pair pair ≡ test → filter (has_other_pair pair) entries ≡ removed (place pair entries) pair entries → filter (has_other_pair pair) (entry ∷ entries) ≡ removed (place pair (entry ∷ entries)) pair (entry ∷ entries)
    by_test true is rest =
        let n = place pair entries in
        let kept : filter (has_other_pair pair) (entry ∷ entries) ≡ entry ∷ filter (has_other_pair pair) entries = rw (not_same entry.pair pair is) refl in
        kept
        ∙ ap (λ ys. entry ∷ ys) rest
        ∙ both_consed (has_at n pair entries) entry (remove entries n) entries
        ∙ ap (λ k. removed k pair (entry ∷ entries)) (sym (prefix_len-yes (is_before false pair) entry.pair (map pair_in entries) (before_from_below pair entry.pair is)))
    by_test false is rest =
        by_same (same entry.pair pair) (filter (has_other_pair pair) entries) (filter_all (has_other_pair pair) entries (All-from_map (λ next. other_than pair next ≡ true) entries (All-weaker (λ next. below entry.pair next ≡ true) (λ next. other_than pair next ≡ true) (λ next over. ap not (other_above pair entry.pair next is over)) (map pair_in entries) up.0)))
        ∙ ap (λ k. removed k pair (entry ∷ entries)) (sym (prefix_len-no (is_before false pair) entry.pair (map pair_in entries) (not_before pair entry.pair is)))

-- the entries without a pair lack the one at its place, or none
pub filter-is : (pair : Pair) (entries : List Entry) → IsAscending (map pair_in entries) → filter (has_other_pair pair) entries ≡ removed (place pair entries) pair entries
filter-is pair entries order = filter-rises pair entries (Rises-from_order (map pair_in entries) order)

turned-is_gt : (order : Ordering) → is_gt (ordering_reverse order) ≡ is_lt order
turned-is_gt Less = refl
turned-is_gt Equal = refl
turned-is_gt Greater = refl

-- above, the other way round
pub is_gt-turned : (a b : Pair) → is_gt (pair_cmp a b) ≡ is_lt (pair_cmp b a)
is_gt-turned a b = ap is_gt (pair_total.antisymm a b) ∙ turned-is_gt (pair_cmp b a)

pub prefix_len-none : (pairs : List Pair) → prefix_len (λ pair. false) pairs ≡ 0
prefix_len-none [] = refl
prefix_len-none (pair ∷ pairs) = refl

pub prefix_len-all : (pairs : List Pair) → prefix_len (λ pair. true) pairs ≡ length pairs
prefix_len-all [] = refl
prefix_len-all (pair ∷ pairs) = let rest = prefix_len-all pairs in omega arith
