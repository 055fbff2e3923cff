-- Pairs in order as those before a place and those behind it.
use Rattle.std.proofs.Common.{◌≡◌, ℕ, zero, suc, ◌&&◌, ◌||◌, ◌^◌, ◌-◌, ◌<◌, ◌≤◌, nat_lt, Bool, true, false, not, cond, List, [], ◌∷◌, ◌++◌, length, get_or, reverse, Option, Some, None, Result, Ok, Err, OnOk, OnErr, All, append_assoc, ⊎_elim, subst, refl, sym, ap, ◌∙◌, arith}
use Rattle.std.specs.List.{list_all, find, AllByRecursion}
use Rattle.std.specs.List.Sorted.{IsStrictlySortedBy}
use Rattle.std.specs.Option.{option_or}
use Rattle.std.specs.declared.cmp.Ordering.{Ordering}
use Rattle.std.specs.declared.cmp.Ordering.TheVariants.{Less, Equal, Greater}
use Rattle.std.specs.Ordering.{is_eq, is_lt, is_le, ordering_reverse, match_ordering}
use Rattle.std.specs.Set.{remove_key}
use Rattle.std.specs.BTreeSet.{insert_key}
use Rattle.std.specs.BTreeMap.Comparable.{le_lt_trans}
use Rattle.std.proofs.lemmas.Bool.{or_parts, and_parts, and_from, cases_lt}
use Rattle.std.proofs.lemmas.Cmp.{tied_itself}
use Rattle.std.proofs.lemmas.List.{reverse-append, get_or_default}
use Rattle.std.proofs.lemmas.List.Elements.{filter-append, All-from_recursion, recursion_from_All}
use Rattle.std.proofs.lemmas.List.Folds.{find-append, list_any-append}
use Rattle.std.proofs.lemmas.List.Kept.{IsStrictlySortedBy-filter}
use Rattle.std.proofs.lemmas.Map.Keys.{Less-from_sorted}
use Rattle.ct_definitions.specs.Pairs.{Pair, pair_cmp, with_pair}
use Rattle.ct_pairs.specs.Finds.{is_pair, has_pair, without_pair, least, greatest, is_above, is_below, have_short_nums}
use Rattle.ct_pairs.specs.Order.{pair_cmp_total}
use Rattle.ct_pairs.proofs.PairLists.{IsInOrder, insert_key-new, remove_key-pair, list_all-insert_key, list_all-without}
use Rattle.ct_pairs.proofs.Finding.{and_false}
use Rattle.ct_pairs.proofs.RowPairs.{IsInOrder-with_pair}

-- ---- order

-- in order, and each number is one of 64 bits
abbrev pub IsSound : List Pair → Type 0
IsSound pairs = IsInOrder pairs × (have_short_nums pairs ≡ true)

AllByRecursion-front : (P : Pair → Type 0) (xs ys : List Pair) → AllByRecursion P (xs ++ ys) → AllByRecursion P xs
AllByRecursion-front P [] ys each = tt
AllByRecursion-front P (x ∷ xs) ys each = (each.0, AllByRecursion-front P xs ys each.1)

AllByRecursion-back : (P : Pair → Type 0) (xs ys : List Pair) → AllByRecursion P (xs ++ ys) → AllByRecursion P ys
AllByRecursion-back P [] ys each = each
AllByRecursion-back P (x ∷ xs) ys each = AllByRecursion-back P xs ys each.1

pub IsInOrder-front : (xs ys : List Pair) → IsInOrder (xs ++ ys) → IsInOrder xs
unfolding IsStrictlySortedBy
IsInOrder-front [] ys sorted = tt
IsInOrder-front (x ∷ xs) ys sorted = (AllByRecursion-front (λ y. pair_cmp x y ≡ Less) xs ys sorted.0, IsInOrder-front xs ys sorted.1)

pub IsInOrder-back : (xs ys : List Pair) → IsInOrder (xs ++ ys) → IsInOrder ys
unfolding IsStrictlySortedBy
IsInOrder-back [] ys sorted = sorted
IsInOrder-back (x ∷ xs) ys sorted = IsInOrder-back xs ys sorted.1

is_lt-Less : (o : Ordering) → is_lt o ≡ true → o ≡ Less
is_lt-Less Less is = refl
is_lt-Less Equal is = cc
is_lt-Less Greater is = cc

not_is_le-Less : (o : Ordering) → is_le o ≡ false → ordering_reverse o ≡ Less
not_is_le-Less Less past = cc
not_is_le-Less Equal past = cc
not_is_le-Less Greater past = refl

-- a pair below another is not above it
not_above : (pair x : Pair) → pair_cmp x pair ≡ Less → is_lt (pair_cmp pair x) ≡ false
not_above pair x less = ap is_lt (pair_cmp_total.antisymm pair x ∙ ap ordering_reverse less)

-- ---- a pair moves to the end of those before it

insert_key-end : (xs : List Pair) (x : Pair) (ys : List Pair) → IsInOrder (xs ++ x ∷ ys) → insert_key pair_cmp xs x ≡ xs ++ x ∷ []
unfolding IsStrictlySortedBy
insert_key-end [] x ys sorted = refl
insert_key-end (z ∷ zs) x ys sorted =
    let below : pair_cmp z x ≡ Less = (AllByRecursion-back (λ y. pair_cmp z y ≡ Less) zs (x ∷ ys) sorted.0).0 in
    let above : pair_cmp x z ≡ Greater = pair_cmp_total.antisymm x z ∙ ap ordering_reverse below in
    ap (λ order. match_ordering order (x ∷ z ∷ zs) (z ∷ zs) (z ∷ insert_key pair_cmp zs x)) above
    ∙ ap (λ l. z ∷ l) (insert_key-end zs x ys sorted.1)

pub moved : (xs ys rest new : List Pair) (x : Pair) → IsInOrder (xs ++ ys) → ys ≡ x ∷ rest → new ≡ insert_key pair_cmp xs x → new ++ rest ≡ xs ++ ys
moved xs ys rest new x sorted is put =
    let own : IsInOrder (xs ++ x ∷ rest) = subst (λ l. IsInOrder (xs ++ l)) is sorted in
    ap (λ l. l ++ rest) (put ∙ insert_key-end xs x rest own) ∙ append_assoc xs (x ∷ []) rest ∙ ap (λ l. xs ++ l) (sym is)

-- ---- a pair is put

-- above all others it stands behind them
with_pair-above : (pair : Pair) (xs : List Pair) → list_all (is_below pair) xs ≡ true → with_pair pair xs ≡ xs ++ pair ∷ []
with_pair-above pair [] below = refl
with_pair-above pair (x ∷ xs) below =
    let parts = and_parts (is_below pair x) (list_all (is_below pair) xs) below in
    ap (λ here. cond here (pair ∷ x ∷ xs) (x ∷ with_pair pair xs)) (not_above pair x (is_lt-Less (pair_cmp x pair) parts.0))
    ∙ ap (λ l. x ∷ l) (with_pair-above pair xs parts.1)

-- below those behind a place it stands among those before it
with_pair-front : (pair : Pair) (xs ys : List Pair) → list_all (is_above pair) ys ≡ true → with_pair pair xs ++ ys ≡ with_pair pair (xs ++ ys)
with_pair-front pair [] [] above = refl
with_pair-front pair [] (y ∷ ys) above =
    let parts = and_parts (is_above pair y) (list_all (is_above pair) ys) above in
    sym (ap (λ here. cond here (pair ∷ y ∷ ys) (y ∷ with_pair pair ys)) parts.0)
with_pair-front pair (x ∷ xs) ys above = by_test (with_pair-front pair xs ys above) (is_lt (pair_cmp pair x))
  where
    by_test : with_pair pair xs ++ ys ≡ with_pair pair (xs ++ ys) → (here : Bool) → cond here (pair ∷ x ∷ xs) (x ∷ with_pair pair xs) ++ ys ≡ cond here (pair ∷ x ∷ (xs ++ ys)) (x ∷ with_pair pair (xs ++ ys))
    by_test rest true = refl
    by_test rest false = ap (λ l. x ∷ l) rest

absent_in_front : (pair : Pair) (xs ys : List Pair) → has_pair pair (xs ++ ys) ≡ false → has_pair pair xs ≡ false
absent_in_front pair xs ys absent = (or_parts (has_pair pair xs) (has_pair pair ys) (sym (list_any-append (is_pair pair) xs ys) ∙ absent)).0

pub put-behind : (pair : Pair) (xs ys seen new : List Pair) → xs ++ ys ≡ seen → list_all (is_below pair) seen ≡ true → new ≡ ys ++ pair ∷ [] → xs ++ new ≡ with_pair pair seen
put-behind pair xs ys seen new is below put =
    ap (λ l. xs ++ l) put ∙ sym (append_assoc xs ys (pair ∷ [])) ∙ ap (λ l. l ++ pair ∷ []) is ∙ sym (with_pair-above pair seen below)

pub put-among : (pair : Pair) (xs ys seen new : List Pair) → xs ++ ys ≡ seen → has_pair pair seen ≡ false → list_all (is_above pair) ys ≡ true → new ≡ insert_key pair_cmp xs pair → new ++ ys ≡ with_pair pair seen
put-among pair xs ys seen new is absent above put =
    let apart = absent_in_front pair xs ys (ap (has_pair pair) is ∙ absent) in
    ap (λ l. l ++ ys) (put ∙ insert_key-new pair xs apart) ∙ with_pair-front pair xs ys above ∙ ap (with_pair pair) is

pub IsSound-put : (pair : Pair) (old new : List Pair) → new ≡ with_pair pair old → has_pair pair old ≡ false → nat_lt pair.num (2 ^ 64) ≡ true → IsSound old → IsSound new
IsSound-put pair old new put absent own sound = (
  subst IsInOrder (sym put) (IsInOrder-with_pair pair old absent sound.0),
  ap have_short_nums (put ∙ sym (insert_key-new pair old absent)) ∙ list_all-insert_key _ pair old own sound.1,
)

pub IsSound-same : (old new : List Pair) → new ≡ old → IsSound old → IsSound new
IsSound-same old new same sound = subst IsSound (sym same) sound

-- ---- a pair is taken out

without_pair-back : (pair : Pair) (ys : List Pair) → list_all (is_above pair) ys ≡ true → without_pair pair ys ≡ ys
without_pair-back pair [] above = refl
without_pair-back pair (y ∷ ys) above =
    let parts = and_parts (is_above pair y) (list_all (is_above pair) ys) above in
    ap (λ order. cond (not (is_eq order)) (y ∷ without_pair pair ys) (without_pair pair ys)) (is_lt-Less (pair_cmp pair y) parts.0)
    ∙ ap (λ l. y ∷ l) (without_pair-back pair ys parts.1)

pub removed : (pair : Pair) (xs ys seen new : List Pair) → xs ++ ys ≡ seen → IsInOrder seen → list_all (is_above pair) ys ≡ true → new ≡ remove_key (is_pair pair) xs → new ++ ys ≡ without_pair pair seen
removed pair xs ys seen new is sorted above taken =
    let own = IsInOrder-front xs ys (subst IsInOrder (sym is) sorted) in
    ap (λ l. l ++ ys) (taken ∙ remove_key-pair pair xs own)
    ∙ ap (λ l. without_pair pair xs ++ l) (sym (without_pair-back pair ys above))
    ∙ sym (filter-append _ xs ys)
    ∙ ap (without_pair pair) is

pub kept_others : (pair : Pair) (xs ys seen new_xs new_ys : List Pair) → xs ++ ys ≡ seen → new_xs ≡ without_pair pair xs → new_ys ≡ without_pair pair ys → new_xs ++ new_ys ≡ without_pair pair seen
kept_others pair xs ys seen new_xs new_ys is kept_xs kept_ys =
    ap (λ l. l ++ new_ys) kept_xs ∙ ap (λ l. without_pair pair xs ++ l) kept_ys ∙ sym (filter-append _ xs ys) ∙ ap (without_pair pair) is

pub IsSound-without : (pair : Pair) (old new : List Pair) → new ≡ without_pair pair old → IsSound old → IsSound new
IsSound-without pair old new taken sound = (
  subst IsInOrder (sym taken) (IsStrictlySortedBy-filter pair_cmp _ old sound.0),
  ap have_short_nums taken ∙ list_all-without _ pair old sound.1,
)

-- ---- what is found in front of a place or behind it

pub least-in_front : (test : Pair → Bool) (xs ys seen : List Pair) (x : Pair) → xs ++ ys ≡ seen → Some x ≡ least test xs → Some x ≡ least test seen
least-in_front test xs ys seen x is found =
    sym (ap (find test) (sym is) ∙ find-append test xs ys ∙ ap (λ first. option_or first (find test ys)) (sym found))

pub least-behind : (test : Pair → Bool) (xs ys seen : List Pair) (r : Option Pair) → xs ++ ys ≡ seen → None ≡ least test xs → r ≡ least test ys → r ≡ least test seen
least-behind test xs ys seen r is none found =
    sym (ap (find test) (sym is) ∙ find-append test xs ys ∙ ap (λ first. option_or first (find test ys)) (sym none) ∙ sym found)

pub greatest-behind : (test : Pair → Bool) (xs ys seen : List Pair) (x : Pair) → xs ++ ys ≡ seen → Some x ≡ greatest test ys → Some x ≡ greatest test seen
greatest-behind test xs ys seen x is found =
    sym (ap (λ l. find test (reverse l)) (sym is) ∙ ap (find test) (reverse-append xs ys) ∙ find-append test (reverse ys) (reverse xs) ∙ ap (λ first. option_or first (find test (reverse xs))) (sym found))

pub greatest-in_front : (test : Pair → Bool) (xs ys seen : List Pair) (r : Option Pair) → xs ++ ys ≡ seen → None ≡ greatest test ys → r ≡ greatest test xs → r ≡ greatest test seen
greatest-in_front test xs ys seen r is none found =
    sym (ap (λ l. find test (reverse l)) (sym is) ∙ ap (find test) (reverse-append xs ys) ∙ find-append test (reverse ys) (reverse xs) ∙ ap (λ first. option_or first (find test (reverse xs))) (sym none) ∙ sym found)

-- ---- the last pair

-- no pair is above the last one
up_to_last : (ys : List Pair) (last : Pair) → IsInOrder ys → 0 < length ys → last ≡ get_or ys (length ys - 1) last → All (λ y. is_lt (pair_cmp last y) ≡ false) ys
up_to_last ys last sorted some is k d within = ⊎_elim below at_end (cases_lt k (length ys - 1))
  where
    is_last : last ≡ get_or ys (length ys - 1) d
    is_last = is ∙ get_or_default ys (length ys - 1) last d (omega arith)

    below : k < length ys - 1 → is_lt (pair_cmp last (get_or ys k d)) ≡ false
    below before =
        not_above last (get_or ys k d) (subst (λ l. pair_cmp (get_or ys k d) l ≡ Less) (sym is_last) (Less-from_sorted pair_cmp ys k (length ys - 1) d sorted before (omega arith)))

    at_end : length ys - 1 ≤ k → is_lt (pair_cmp last (get_or ys k d)) ≡ false
    at_end from =
        let same : length ys - 1 ≡ k = omega arith in
        ap (λ y. is_lt (pair_cmp last y)) (ap (λ n. get_or ys n d) (sym same) ∙ sym is_last) ∙ ap is_lt (tied_itself pair_cmp_total last)

up_to_joined : (xs ys : List Pair) (last : Pair) → IsInOrder (xs ++ ys) → 0 < length ys → last ≡ get_or ys (length ys - 1) last → AllByRecursion (λ y. is_lt (pair_cmp last y) ≡ false) (xs ++ ys)
unfolding IsStrictlySortedBy
up_to_joined [] ys last sorted some is = recursion_from_All (λ y. is_lt (pair_cmp last y) ≡ false) ys (up_to_last ys last sorted some is)
up_to_joined (x ∷ xs) ys last sorted some is =
    let above : All (λ y. pair_cmp x y ≡ Less) ys = All-from_recursion (λ y. pair_cmp x y ≡ Less) ys (AllByRecursion-back (λ y. pair_cmp x y ≡ Less) xs ys sorted.0) in
    let own : pair_cmp x last ≡ Less = subst (λ l. pair_cmp x l ≡ Less) (sym is) (above (length ys - 1) last (omega arith)) in
    (not_above last x own, up_to_joined xs ys last sorted.1 some is)

pub last-above_all : (xs ys seen : List Pair) (last : Pair) → xs ++ ys ≡ seen → IsInOrder seen → 0 < length ys → last ≡ get_or ys (length ys - 1) last → All (λ y. is_lt (pair_cmp last y) ≡ false) seen
last-above_all xs ys seen last is sorted some at =
    subst (All (λ y. is_lt (pair_cmp last y) ≡ false)) is (All-from_recursion _ (xs ++ ys) (up_to_joined xs ys last (subst IsInOrder (sym is) sorted) some at))

not_lt-le : (o : Ordering) → is_lt o ≡ false → is_le (ordering_reverse o) ≡ true
not_lt-le Less past = cc
not_lt-le Equal past = refl
not_lt-le Greater past = refl

or_true : (b : Bool) → (b || true) ≡ true
or_true true = refl
or_true false = refl

is_eq-Equal : (o : Ordering) → is_eq o ≡ true → o ≡ Equal
is_eq-Equal Less same = cc
is_eq-Equal Equal same = refl
is_eq-Equal Greater same = cc

-- a pair above the last one is above all
all_below : (pair last : Pair) (xs : List Pair) → is_lt (pair_cmp last pair) ≡ true → AllByRecursion (λ y. is_lt (pair_cmp last y) ≡ false) xs → list_all (is_below pair) xs ≡ true
all_below pair last [] above each = refl
all_below pair last (x ∷ xs) above each =
    let up_to : is_le (pair_cmp x last) ≡ true = ap is_le (pair_cmp_total.antisymm x last) ∙ not_lt-le (pair_cmp last x) each.0 in
    let below : pair_cmp x pair ≡ Less = le_lt_trans pair_cmp_total x last pair up_to (is_lt-Less (pair_cmp last pair) above) in
    and_from (is_below pair x) (list_all (is_below pair) xs) (ap is_lt below) (all_below pair last xs above each.1)

-- and one that is not above it is not
not_all_below : (pair last : Pair) (xs : List Pair) → is_lt (pair_cmp last pair) ≡ false → has_pair last xs ≡ true → list_all (is_below pair) xs ≡ false
not_all_below pair last [] past among = cc
not_all_below pair last (x ∷ xs) past among = by_test (not_all_below pair last xs past) (is_pair last x) refl among
  where
    by_test : (has_pair last xs ≡ true → list_all (is_below pair) xs ≡ false) → (here : Bool) → is_pair last x ≡ here → (here || has_pair last xs) ≡ true → (is_below pair x && list_all (is_below pair) xs) ≡ false
    by_test rest true same e =
        let own : pair_cmp last pair ≡ pair_cmp x pair = pair_cmp_total.congr last x pair (is_eq-Equal (pair_cmp last x) same) in
        ap (λ b. b && list_all (is_below pair) xs) (ap is_lt (sym own) ∙ past)
    by_test rest false other e = ap (λ b. is_below pair x && b) (rest e) ∙ and_false (is_below pair x)

pub above_last : (pair last : Pair) (xs : List Pair) → All (λ y. is_lt (pair_cmp last y) ≡ false) xs → has_pair last xs ≡ true → is_lt (pair_cmp last pair) ≡ list_all (is_below pair) xs
above_last pair last xs each among = by_test (is_lt (pair_cmp last pair)) refl
  where
    by_test : (above : Bool) → is_lt (pair_cmp last pair) ≡ above → above ≡ list_all (is_below pair) xs
    by_test true above = sym (all_below pair last xs above (recursion_from_All (λ y. is_lt (pair_cmp last y) ≡ false) xs each))
    by_test false past = sym (not_all_below pair last xs past among)

has_pair-at : (pair : Pair) (ys : List Pair) (k : ℕ) → k < length ys → pair ≡ get_or ys k pair → has_pair pair ys ≡ true
has_pair-at pair [] k within is = let no : ⊥ = omega arith in absurd no
has_pair-at pair (y ∷ ys) zero within is =
    ap (λ b. b || has_pair pair ys) (ap (λ x. is_eq (pair_cmp pair x)) (sym is) ∙ ap is_eq (tied_itself pair_cmp_total pair))
has_pair-at pair (y ∷ ys) (suc k) within is = ap (λ b. is_pair pair y || b) (has_pair-at pair ys k (omega arith) is) ∙ or_true (is_pair pair y)

-- the last pair is one of all
pub last-among : (xs ys seen : List Pair) (last : Pair) → xs ++ ys ≡ seen → 0 < length ys → last ≡ get_or ys (length ys - 1) last → has_pair last seen ≡ true
last-among xs ys seen last is some at =
    ap (has_pair last) (sym is)
    ∙ list_any-append (is_pair last) xs ys
    ∙ ap (λ b. has_pair last xs || b) (has_pair-at last ys (length ys - 1) (omega arith) at)
    ∙ or_true (has_pair last xs)

-- ---- the first pair behind a place

all_above : (pair first : Pair) (xs : List Pair) → pair_cmp pair first ≡ Less → AllByRecursion (λ y. pair_cmp first y ≡ Less) xs → list_all (is_above pair) xs ≡ true
all_above pair first [] less each = refl
all_above pair first (x ∷ xs) less each =
    and_from (is_above pair x) (list_all (is_above pair) xs) (ap is_lt (pair_cmp_total.trans pair first x less each.0)) (all_above pair first xs less each.1)

-- a pair below the first one is below all
pub above_first : (pair first : Pair) (ys : List Pair) → IsInOrder ys → 0 < length ys → first ≡ get_or ys 0 first → is_le (pair_cmp first pair) ≡ false → list_all (is_above pair) ys ≡ true
unfolding IsStrictlySortedBy
above_first pair first [] sorted some is past = let no : ⊥ = omega arith in absurd no
above_first pair first (y ∷ ys) sorted some is past =
    let less : pair_cmp pair first ≡ Less = pair_cmp_total.antisymm pair first ∙ not_is_le-Less (pair_cmp first pair) past in
    let own : pair_cmp pair y ≡ Less = subst (λ x. pair_cmp pair x ≡ Less) is less in
    and_from (is_above pair y) (list_all (is_above pair) ys) (ap is_lt own) (all_above pair y ys own sorted.0)

-- and one that is not below it is not
pub up_to_first : (pair first : Pair) (ys : List Pair) → 0 < length ys → first ≡ get_or ys 0 first → is_le (pair_cmp first pair) ≡ true → list_all (is_above pair) ys ≡ false
up_to_first pair first [] some is up_to = let no : ⊥ = omega arith in absurd no
up_to_first pair first (y ∷ ys) some is up_to =
    ap (λ b. b && list_all (is_above pair) ys)
    (ap (λ x. is_lt (pair_cmp pair x)) (sym is) ∙ ap is_lt (pair_cmp_total.antisymm pair first) ∙ is_le-not_lt (pair_cmp first pair) up_to)
  where
    is_le-not_lt : (o : Ordering) → is_le o ≡ true → is_lt (ordering_reverse o) ≡ false
    is_le-not_lt Less up = refl
    is_le-not_lt Equal up = refl
    is_le-not_lt Greater up = cc

-- ---- a pair is put, or is not for want of memory

pub pushed : {X E : Type 0} (result : Result X E) (pair : Pair) (xs ys seen new : List Pair) → xs ++ ys ≡ seen → list_all (is_below pair) seen ≡ true → OnOk result (new ≡ ys ++ pair ∷ []) → OnOk result (xs ++ new ≡ with_pair pair seen)
pushed (Ok x) pair xs ys seen new is below put = put-behind pair xs ys seen new is below put
pushed (Err e) pair xs ys seen new is below put = tt

pub IsSound-pushed : {X E : Type 0} (result : Result X E) (pair : Pair) (xs ys seen new : List Pair) → xs ++ ys ≡ seen → has_pair pair seen ≡ false → list_all (is_below pair) seen ≡ true → nat_lt pair.num (2 ^ 64) ≡ true → OnOk result (new ≡ ys ++ pair ∷ []) → OnErr result (new ≡ ys) → IsSound (xs ++ ys) → IsSound (xs ++ new)
IsSound-pushed (Ok x) pair xs ys seen new is absent below own put kept sound =
    IsSound-put pair seen (xs ++ new) (put-behind pair xs ys seen new is below put) absent own (subst IsSound is sound)
IsSound-pushed (Err e) pair xs ys seen new is absent below own put kept sound = subst (λ l. IsSound (xs ++ l)) (sym kept) sound

pub IsSound-inserted : {X E : Type 0} (result : Result X E) (pair : Pair) (xs ys seen new : List Pair) → xs ++ ys ≡ seen → has_pair pair seen ≡ false → list_all (is_above pair) ys ≡ true → nat_lt pair.num (2 ^ 64) ≡ true → OnOk result (new ≡ insert_key pair_cmp xs pair) → OnErr result (new ≡ xs) → IsSound seen → IsSound (new ++ ys)
IsSound-inserted (Ok x) pair xs ys seen new is absent above own put kept sound =
    IsSound-put pair seen (new ++ ys) (put-among pair xs ys seen new is absent above put) absent own sound
IsSound-inserted (Err e) pair xs ys seen new is absent above own put kept sound = subst (λ l. IsSound (l ++ ys)) (sym kept) (subst IsSound (sym is) sound)
