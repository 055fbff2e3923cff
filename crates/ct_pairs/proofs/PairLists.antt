-- Pairs in order: what an ordered set does to them is what the definitions say.
use Rattle.std.proofs.Common.{◌≡◌, ℕ, ◌^◌, ◌<◌, nat_lt, Bool, true, false, not, cond, List, [], ◌∷◌, refl, sym, ap, ◌∙◌, OnOk, OnErr, Result, Ok, Err}
use Rattle.std.specs.List.{list_all, AllByRecursion}
use Rattle.std.specs.List.Sorted.{IsStrictlySortedBy}
use Rattle.std.specs.declared.cmp.Ordering.{Ordering}
use Rattle.std.specs.declared.cmp.Ordering.TheVariants.{Less, Equal, Greater}
use Rattle.std.specs.Ordering.{is_eq, is_lt, match_ordering}
use Rattle.std.specs.Set.{remove_key}
use Rattle.std.specs.BTreeSet.{insert_key}
use Rattle.std.proofs.lemmas.Bool.{or_parts, and_parts, and_from, lt-ltb}
use Rattle.ct_definitions.specs.Pairs.{Pair, pair_cmp, with_pair}
use Rattle.ct_pairs.specs.Finds.{is_pair, has_pair, without_pair, have_short_nums}
use Rattle.ct_pairs.specs.Order.{pair_cmp_total}

-- each is below those after it
abbrev pub IsInOrder : List Pair → Type 0
IsInOrder pairs = IsStrictlySortedBy pair_cmp pairs

-- a pair that is not there is put at its place
pub insert_key-new : (pair : Pair) (pairs : List Pair) → has_pair pair pairs ≡ false → insert_key pair_cmp pairs pair ≡ with_pair pair pairs
insert_key-new pair [] absent = refl
insert_key-new pair (x ∷ xs) absent =
    let parts = or_parts (is_pair pair x) (has_pair pair xs) absent in
    by_order (pair_cmp pair x) parts.0 (insert_key-new pair xs parts.1)
  where
    by_order : (order : Ordering) → is_eq order ≡ false → insert_key pair_cmp xs pair ≡ with_pair pair xs → match_ordering order (pair ∷ x ∷ xs) (x ∷ xs) (x ∷ insert_key pair_cmp xs pair) ≡ cond (is_lt order) (pair ∷ x ∷ xs) (x ∷ with_pair pair xs)
    by_order Less other rest = refl
    by_order Equal other rest = cc
    by_order Greater other rest = ap (λ ys. x ∷ ys) rest

-- a pair that is the same as one below all others is none of these
without_pair-above : (pair x : Pair) (xs : List Pair) → is_pair pair x ≡ true → AllByRecursion (λ y. pair_cmp x y ≡ Less) xs → without_pair pair xs ≡ xs
without_pair-above pair x [] same above = refl
without_pair-above pair x (y ∷ ys) same above =
    let is_less : pair_cmp pair y ≡ Less = pair_cmp_total.congr pair x y (equal_from (pair_cmp pair x) same) ∙ above.0 in
    ap (λ order. cond (not (is_eq order)) (y ∷ without_pair pair ys) (without_pair pair ys)) is_less
    ∙ ap (λ zs. y ∷ zs) (without_pair-above pair x ys same above.1)
  where
    equal_from : (order : Ordering) → is_eq order ≡ true → order ≡ Equal
    equal_from Less same = cc
    equal_from Equal same = refl
    equal_from Greater same = cc

-- of pairs in order, taking the first that is the same out leaves all others
pub remove_key-pair : (pair : Pair) (pairs : List Pair) → IsInOrder pairs → remove_key (is_pair pair) pairs ≡ without_pair pair pairs
unfolding IsStrictlySortedBy
remove_key-pair pair [] sorted = refl
remove_key-pair pair (x ∷ xs) sorted = by_test (remove_key-pair pair xs sorted.1) (is_pair pair x) refl
  where
    by_test : remove_key (is_pair pair) xs ≡ without_pair pair xs → (test : Bool) → is_pair pair x ≡ test → cond test xs (x ∷ remove_key (is_pair pair) xs) ≡ cond (not test) (x ∷ without_pair pair xs) (without_pair pair xs)
    by_test rest true same = sym (without_pair-above pair x xs same sorted.0)
    by_test rest false other = ap (λ ys. x ∷ ys) rest

-- what holds of each pair and of a new one holds of all
pub list_all-insert_key : (test : Pair → Bool) (pair : Pair) (pairs : List Pair) → test pair ≡ true → list_all test pairs ≡ true → list_all test (insert_key pair_cmp pairs pair) ≡ true
list_all-insert_key test pair [] own each = and_from (test pair) true own refl
list_all-insert_key test pair (x ∷ xs) own each =
    let parts = and_parts (test x) (list_all test xs) each in
    by_order parts.0 (list_all-insert_key test pair xs own parts.1) (pair_cmp pair x)
  where
    by_order : test x ≡ true → list_all test (insert_key pair_cmp xs pair) ≡ true → (order : Ordering) → list_all test (match_ordering order (pair ∷ x ∷ xs) (x ∷ xs) (x ∷ insert_key pair_cmp xs pair)) ≡ true
    by_order first rest Less = and_from (test pair) _ own each
    by_order first rest Equal = each
    by_order first rest Greater = and_from (test x) _ first rest

list_all-remove_key : (test gone : Pair → Bool) (pairs : List Pair) → list_all test pairs ≡ true → list_all test (remove_key gone pairs) ≡ true
list_all-remove_key test gone [] each = refl
list_all-remove_key test gone (x ∷ xs) each =
    let parts = and_parts (test x) (list_all test xs) each in
    by_test parts.0 parts.1 (list_all-remove_key test gone xs parts.1) (gone x)
  where
    by_test : test x ≡ true → list_all test xs ≡ true → list_all test (remove_key gone xs) ≡ true → (here : Bool) → list_all test (cond here xs (x ∷ remove_key gone xs)) ≡ true
    by_test first rest kept true = rest
    by_test first rest kept false = and_from (test x) _ first kept

pub list_all-without : (test : Pair → Bool) (pair : Pair) (pairs : List Pair) → list_all test pairs ≡ true → list_all test (without_pair pair pairs) ≡ true
list_all-without test pair [] each = refl
list_all-without test pair (x ∷ xs) each =
    let parts = and_parts (test x) (list_all test xs) each in
    by_test parts.0 (list_all-without test pair xs parts.1) (not (is_pair pair x))
  where
    by_test : test x ≡ true → list_all test (without_pair pair xs) ≡ true → (here : Bool) → list_all test (cond here (x ∷ without_pair pair xs) (without_pair pair xs)) ≡ true
    by_test first kept true = and_from (test x) _ first kept
    by_test first kept false = kept

-- numbers stay short where a pair is put, or is not for want of memory
pub short-put : {X E : Type 0} (result : Result X E) (pair : Pair) (old new : List Pair) → nat_lt pair.num (2 ^ 64) ≡ true → OnOk result (new ≡ insert_key pair_cmp old pair) → OnErr result (new ≡ old) → have_short_nums old ≡ true → have_short_nums new ≡ true
short-put (Ok x) pair old new own put kept each = ap have_short_nums put ∙ list_all-insert_key _ pair old own each
short-put (Err e) pair old new own put kept each = ap have_short_nums kept ∙ each

-- they stay so where one is taken
pub short-take : (pair : Pair) (old new : List Pair) → new ≡ remove_key (is_pair pair) old → have_short_nums old ≡ true → have_short_nums new ≡ true
short-take pair old new taken each = ap have_short_nums taken ∙ list_all-remove_key _ (is_pair pair) old each

-- a number of 64 bits is short
pub short : (num same : ℕ) → same ≡ num → same < 2 ^ 64 → nat_lt num (2 ^ 64) ≡ true
short num same is fits = rw (← is) (lt-ltb same (2 ^ 64) fits)

-- what an ordered set makes of a pair that is not there
pub put-new : (pair : Pair) (old seen new : List Pair) → old ≡ seen → has_pair pair seen ≡ false → new ≡ insert_key pair_cmp old pair → new ≡ with_pair pair seen
put-new pair old seen new is absent put = put ∙ ap (λ pairs. insert_key pair_cmp pairs pair) is ∙ insert_key-new pair seen absent

-- the others than a pair, and that numbers among them stay short
pub others : (pair : Pair) (old seen new : List Pair) → old ≡ seen → new ≡ without_pair pair old → new ≡ without_pair pair seen
others pair old seen new same kept = kept ∙ ap (without_pair pair) same

pub short-others : (pair : Pair) (old new : List Pair) → new ≡ without_pair pair old → have_short_nums old ≡ true → have_short_nums new ≡ true
short-others pair old new kept each = ap have_short_nums kept ∙ list_all-without _ pair old each
