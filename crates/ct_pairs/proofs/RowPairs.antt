-- The pairs of records, where a record comes, changes or goes.
use Rattle.std.proofs.Common.{◌≡◌, ℕ, ◌==◌, Bool, true, false, not, ◌&&◌, ◌||◌, cond, List, [], ◌∷◌, ◌++◌, Option, Some, None, option_map, is_none, bytes_eq, reverse, refl, sym, ap, ◌∙◌, subst, arith, IfSome, IsSomeAnd}
use Rattle.std.specs.List.{list_any, find, AllByRecursion}
use Rattle.std.specs.List.Sorted.{IsStrictlySortedBy}
use Rattle.std.specs.declared.cmp.Ordering.{Ordering}
use Rattle.std.specs.declared.cmp.Ordering.TheVariants.{Less, Equal, Greater}
use Rattle.std.specs.Ordering.{is_eq, is_lt, ordering_reverse}
use Rattle.std.specs.Cmp.{nat_eq_equiv}
use Rattle.std.specs.Cmp.Lexicographic.{lists_equiv}
use Rattle.std.proofs.lemmas.Bool.{or_parts, cond_both, eq-eqb, or_left, or_right}
use Rattle.std.proofs.lemmas.Bool.Decides.{nat_tests}
use Rattle.std.proofs.lemmas.List.{reverse-append}
use Rattle.ct_definitions.specs.declared.definition.IndexDef.{IndexDef}
use Rattle.ct_definitions.specs.declared.store.Row.{Row}
use Rattle.ct_definitions.specs.Keys.{key_of}
use Rattle.ct_definitions.specs.Room.{row_at, image_at}
use Rattle.ct_definitions.specs.Changes.{is_same_key, has_key_of, with_image, without_row}
use Rattle.ct_definitions.specs.Pairs.{Pair, pair_cmp, pair_of, with_pair, pairs_of}
use Rattle.ct_definitions.specs.Reached.{rise_above}
use Rattle.ct_laws.specs.Shares.{with_found_pair}
use Rattle.ct_laws.proofs.Rows.{num-row_at, row_at_none, row_at-without_row_same}
use Rattle.ct_laws.proofs.Pairs.{same_pair, pairs_of-cons, pairs_of-without_row, pairs_of-with_image}
use Rattle.ct_pairs.specs.Finds.{is_pair, has_pair, without_pair, without_found_pair, with_pair_of, without_pair_of, has_other_with, IsApart, IsOfRecord, found_pair}
use Rattle.ct_pairs.specs.Order.{pair_cmp_total, same_pair_equiv}
use Rattle.ct_pairs.specs.declared.seek.Seek.{Seek}
use Rattle.ct_pairs.specs.declared.seek.Seek.TheVariants.{First, Last, Next, Prev, AtOrAbove, Above, AtOrBelow, Below, FirstInSet, NextInSet}
use Rattle.ct_pairs.specs.declared.seek.Seek.TheVariants as seeks
use Rattle.ct_pairs.proofs.PairLists.{IsInOrder}

-- whether a pair was found and meets a test
abbrev meets_found : (Pair → Bool) → Option Pair → Bool
meets_found test None = false
meets_found test (Some pair) = test pair

list_any-with_pair : (test : Pair → Bool) (new : Pair) (pairs : List Pair) → list_any test (with_pair new pairs) ≡ (test new || list_any test pairs)
list_any-with_pair test new [] = refl
list_any-with_pair test new (x ∷ xs) = grind (arith, list_any-with_pair test new xs)

list_any-with_found : (test : Pair → Bool) (found : Option Pair) (pairs : List Pair) → list_any test (with_found_pair found pairs) ≡ (meets_found test found || list_any test pairs)
list_any-with_found test None pairs = refl
list_any-with_found test (Some pair) pairs = list_any-with_pair test pair pairs

-- a test of the pairs of records is one of the records
list_any-pairs_of : (test : Pair → Bool) (index : IndexDef) (rows : List Row) → list_any test (pairs_of index rows) ≡ list_any (λ row. meets_found test (pair_of index row)) rows
list_any-pairs_of test index [] = refl
list_any-pairs_of test index (row ∷ rows) =
    ap (list_any test) (pairs_of-cons index row rows)
    ∙ list_any-with_found test (pair_of index row) (pairs_of index rows)
    ∙ ap (λ rest. meets_found test (pair_of index row) || rest) (list_any-pairs_of test index rows)

-- ---- keys that others have

bytes_eq-symm : (xs ys : List ℕ) → bytes_eq xs ys ≡ bytes_eq ys xs
bytes_eq-symm xs ys = (lists_equiv nat_eq_equiv).symm xs ys

has_key_of-pair : (index : IndexDef) (num : ℕ) (image key : List ℕ) (row : Row) → key_of index image ≡ Some key → meets_found (λ pair. not (pair.num == num) && bytes_eq pair.key key) (pair_of index row) ≡ has_key_of index num image row
has_key_of-pair index num image key row is_key =
    by_key (key_of index row.image) ∙ ap (λ found. not (row.num == num) && is_same_key found (key_of index row.image)) (sym is_key)
  where
    by_key : (found : Option (List ℕ)) → meets_found (λ pair. not (pair.num == num) && bytes_eq pair.key key) (option_map (λ own. record { key = own; num = row.num }) found) ≡ (not (row.num == num) && is_same_key (Some key) found)
    by_key None = grind arith
    by_key (Some own) = ap (λ same. not (row.num == num) && same) (bytes_eq-symm own key)

list_any-same : {X : Type 0} (p q : X → Bool) (same : (x : X) → p x ≡ q x) (xs : List X) → list_any p xs ≡ list_any q xs
list_any-same p q same [] = refl
list_any-same p q same (x ∷ xs) = ap (λ b. b || list_any p xs) (same x) ∙ ap (λ b. q x || b) (list_any-same p q same xs)

-- another record has the image's key where another pair has it
pub has_key_of-pairs : (index : IndexDef) (num : ℕ) (image : List ℕ) (rows : List Row) (key : List ℕ) → key_of index image ≡ Some key → list_any (has_key_of index num image) rows ≡ has_other_with num key (pairs_of index rows)
has_key_of-pairs index num image rows key is_key =
    sym (list_any-pairs_of (λ pair. not (pair.num == num) && bytes_eq pair.key key) index rows ∙ list_any-same _ (has_key_of index num image) (λ row. has_key_of-pair index num image key row is_key) rows)

list_any-never : {X : Type 0} (p : X → Bool) (never : (x : X) → p x ≡ false) (xs : List X) → list_any p xs ≡ false
list_any-never p never [] = refl
list_any-never p never (x ∷ xs) = ap (λ b. b || list_any p xs) (never x) ∙ list_any-never p never xs

-- and none has it where the image has none
pub has_key_of-none : (index : IndexDef) (num : ℕ) (image : List ℕ) (rows : List Row) → key_of index image ≡ None → list_any (has_key_of index num image) rows ≡ false
has_key_of-none index num image rows no_key =
    list_any-never (has_key_of index num image) (λ row. ap (λ found. not (row.num == num) && is_same_key found (key_of index row.image)) no_key ∙ and_false (not (row.num == num))) rows
  where
    and_false : (b : Bool) → (b && false) ≡ false
    and_false true = refl
    and_false false = refl

-- ---- pairs of numbers that no record has

is_eq-Equal : (order : Ordering) → is_eq order ≡ true → order ≡ Equal
is_eq-Equal Less is = cc
is_eq-Equal Equal is = refl
is_eq-Equal Greater is = cc

-- pairs that are the same are equal
pub is_pair-same : (a b : Pair) → is_pair a b ≡ true → a ≡ b
is_pair-same a b is = same_pair a b (is_eq-Equal (pair_cmp a b) is)

-- a pair of another number than the record is not the record's
is_pair-other : (pair : Pair) (index : IndexDef) (row : Row) → (row.num == pair.num) ≡ false → meets_found (is_pair pair) (pair_of index row) ≡ false
is_pair-other pair index row other = by_key (key_of index row.image)
  where
    same_num : (own : Pair) → own.num ≡ row.num → (b : Bool) → is_pair pair own ≡ b → b ≡ false
    same_num own is false e = refl
    same_num own is true e =
        let num : pair.num ≡ own.num = ap (λ (p : Pair). p.num) (is_pair-same pair own e) in
        absurd (grind (arith, nat_tests))

    by_key : (found : Option (List ℕ)) → meets_found (is_pair pair) (option_map (λ key. record { key = key; num = row.num }) found) ≡ false
    by_key None = refl
    by_key (Some key) =
        let own : Pair = record { key = key; num = row.num } in
        same_num own refl (is_pair pair own) refl

row_at-absent : (pair : Pair) (index : IndexDef) (rows : List Row) → row_at pair.num rows ≡ None → list_any (λ row. meets_found (is_pair pair) (pair_of index row)) rows ≡ false
row_at-absent pair index [] none = refl
row_at-absent pair index (row ∷ rows) none = by_num (row_at-absent pair index rows) (row.num == pair.num) refl none
  where
    by_num : (row_at pair.num rows ≡ None → list_any (λ row. meets_found (is_pair pair) (pair_of index row)) rows ≡ false) → (same : Bool) → (row.num == pair.num) ≡ same → cond same (Some row) (row_at pair.num rows) ≡ None → list_any (λ row. meets_found (is_pair pair) (pair_of index row)) (row ∷ rows) ≡ false
    by_num rest true e found = cc
    by_num rest false e found = ap (λ b. b || list_any (λ row. meets_found (is_pair pair) (pair_of index row)) rows) (is_pair-other pair index row e) ∙ rest found

-- no pair has a number that no record has
pub has_pair-absent : (pair : Pair) (index : IndexDef) (rows : List Row) → row_at pair.num rows ≡ None → has_pair pair (pairs_of index rows) ≡ false
has_pair-absent pair index rows none = list_any-pairs_of (is_pair pair) index rows ∙ row_at-absent pair index rows none

-- so the pair of a record of such a number is apart
pub IsApart-absent : (index : IndexDef) (row : Row) (rows : List Row) → row_at row.num rows ≡ None → IsApart index row (pairs_of index rows)
IsApart-absent index row rows none = by_key (key_of index row.image)
  where
    by_key : (found : Option (List ℕ)) → IfSome (option_map (λ key. record { key = key; num = row.num }) found) (λ pair. has_pair pair (pairs_of index rows) ≡ false)
    by_key None = tt
    by_key (Some key) = has_pair-absent (record { key = key; num = row.num }) index rows none

-- ---- a pair put and taken out again

without_pair-absent : (pair : Pair) (pairs : List Pair) → has_pair pair pairs ≡ false → without_pair pair pairs ≡ pairs
without_pair-absent pair [] absent = refl
without_pair-absent pair (x ∷ xs) absent =
    let parts = or_parts (is_pair pair x) (has_pair pair xs) absent in
    ap (λ b. cond (not b) (x ∷ without_pair pair xs) (without_pair pair xs)) parts.0 ∙ ap (λ ys. x ∷ ys) (without_pair-absent pair xs parts.1)

without_pair-first : (pair : Pair) (xs : List Pair) → without_pair pair (pair ∷ xs) ≡ without_pair pair xs
without_pair-first pair xs = ap (λ b. cond (not b) (pair ∷ without_pair pair xs) (without_pair pair xs)) (same_pair_equiv.refl pair)

without_pair-with_pair : (pair : Pair) (pairs : List Pair) → has_pair pair pairs ≡ false → without_pair pair (with_pair pair pairs) ≡ pairs
without_pair-with_pair pair [] absent = without_pair-first pair []
without_pair-with_pair pair (x ∷ xs) absent =
    let parts = or_parts (is_pair pair x) (has_pair pair xs) absent in
    cond_both (is_lt (pair_cmp pair x)) (pair ∷ x ∷ xs) (x ∷ with_pair pair xs) (λ after. without_pair pair after ≡ x ∷ xs)
    (λ _. without_pair-first pair (x ∷ xs) ∙ without_pair-absent pair (x ∷ xs) absent)
    (λ _. ap (λ b. cond (not b) (x ∷ without_pair pair (with_pair pair xs)) (without_pair pair (with_pair pair xs))) parts.0 ∙ ap (λ ys. x ∷ ys) (without_pair-with_pair pair xs parts.1))

without_found-with_found : (found : Option Pair) (pairs : List Pair) → IfSome found (λ pair. has_pair pair pairs ≡ false) → without_found_pair found (with_found_pair found pairs) ≡ pairs
without_found-with_found None pairs apart = refl
without_found-with_found (Some pair) pairs apart = without_pair-with_pair pair pairs apart

-- ---- the three changes

row_at-image : (num : ℕ) (image : List ℕ) (rows : List Row) → image_at num rows ≡ Some image → row_at num rows ≡ Some (record { num = num; image = image })
row_at-image num image rows found = by_row (row_at num rows) refl found
  where
    by_row : (row : Option Row) → row_at num rows ≡ row → option_map (λ (r : Row). r.image) row ≡ Some image → row ≡ Some (record { num = num; image = image })
    by_row None e none = cc
    by_row (Some row) e some =
        let is_num : row.num ≡ num = num-row_at num row rows e in
        let is_image : row.image ≡ image = cc in
        ap Some (λ i. record { num = is_num i; image = is_image i })

pub row_at-no_image : (num : ℕ) (rows : List Row) → is_none (image_at num rows) ≡ true → row_at num rows ≡ None
row_at-no_image num rows none = by_row (row_at num rows) none
  where
    by_row : (row : Option Row) → is_none (option_map (λ (r : Row). r.image) row) ≡ true → row ≡ None
    by_row None e = refl
    by_row (Some row) e = cc

-- a record goes, and its pair with it
pub pairs_of-taken : (index : IndexDef) (num : ℕ) (old : List ℕ) (rows : List Row) → rise_above 0 rows ≡ true → image_at num rows ≡ Some old → pairs_of index (without_row num rows) ≡ without_pair_of index (record { num = num; image = old }) (pairs_of index rows)
pairs_of-taken index num old rows rising found =
    let row : Row = record { num = num; image = old } in
    sym (without_found-with_found (pair_of index row) (pairs_of index (without_row num rows)) (IsApart-absent index row (without_row num rows) (row_at-without_row_same num 0 rows rising)))
    ∙ ap (without_found_pair (pair_of index row)) (pairs_of-without_row index num row rows (row_at-image num old rows found))

-- its image changes, and its pair with it
pub pairs_of-changed : (index : IndexDef) (num : ℕ) (old image : List ℕ) (rows : List Row) → rise_above 0 rows ≡ true → image_at num rows ≡ Some old → pairs_of index (with_image num image rows) ≡ with_pair_of index (record { num = num; image = image }) (without_pair_of index (record { num = num; image = old }) (pairs_of index rows))
pairs_of-changed index num old image rows rising found =
    pairs_of-with_image index num image (record { num = num; image = old }) rows (row_at-image num old rows found)
    ∙ ap (with_pair_of index (record { num = num; image = image })) (pairs_of-taken index num old rows rising found)

-- the pairs without the old one are those of the other records, so the new one is apart
pub IsApart-changed : (index : IndexDef) (num : ℕ) (old image : List ℕ) (rows : List Row) → rise_above 0 rows ≡ true → image_at num rows ≡ Some old → IsApart index (record { num = num; image = image }) (without_pair_of index (record { num = num; image = old }) (pairs_of index rows))
IsApart-changed index num old image rows rising found =
    subst (IsApart index (record { num = num; image = image })) (pairs_of-taken index num old rows rising found) (IsApart-absent index (record { num = num; image = image }) (without_row num rows) (row_at-without_row_same num 0 rows rising))

-- ---- order

is_less : (a b : Pair) → is_pair a b ≡ false → is_lt (pair_cmp a b) ≡ false → pair_cmp b a ≡ Less
is_less a b other above = pair_cmp_total.antisymm b a ∙ by_order (pair_cmp a b) other above
  where
    by_order : (order : Ordering) → is_eq order ≡ false → is_lt order ≡ false → ordering_reverse order ≡ Less
    by_order Less other above = cc
    by_order Equal other above = cc
    by_order Greater other above = refl

is_lt-Less : (order : Ordering) → is_lt order ≡ true → order ≡ Less
is_lt-Less Less is = refl
is_lt-Less Equal is = cc
is_lt-Less Greater is = cc

AllByRecursion-with_pair : (P : Pair → Type 0) (new : Pair) (pairs : List Pair) → P new → AllByRecursion P pairs → AllByRecursion P (with_pair new pairs)
AllByRecursion-with_pair P new [] own each = (own, each)
AllByRecursion-with_pair P new (x ∷ xs) own each =
    cond_both (is_lt (pair_cmp new x)) (new ∷ x ∷ xs) (x ∷ with_pair new xs) (AllByRecursion P) (λ _. (own, each)) (λ _. (each.0, AllByRecursion-with_pair P new xs own each.1))

AllByRecursion-above : (low pair : Pair) (pairs : List Pair) → pair_cmp low pair ≡ Less → AllByRecursion (λ y. pair_cmp pair y ≡ Less) pairs → AllByRecursion (λ y. pair_cmp low y ≡ Less) pairs
AllByRecursion-above low pair [] less above = above
AllByRecursion-above low pair (x ∷ xs) less above = (pair_cmp_total.trans low pair x less above.0, AllByRecursion-above low pair xs less above.1)

pub IsInOrder-with_pair : (new : Pair) (pairs : List Pair) → has_pair new pairs ≡ false → IsInOrder pairs → IsInOrder (with_pair new pairs)
unfolding IsStrictlySortedBy
IsInOrder-with_pair new [] absent sorted = (sorted, sorted)
IsInOrder-with_pair new (x ∷ xs) absent sorted =
    let parts = or_parts (is_pair new x) (has_pair new xs) absent in
    cond_both (is_lt (pair_cmp new x)) (new ∷ x ∷ xs) (x ∷ with_pair new xs) IsInOrder
    (λ below. let less = is_lt-Less (pair_cmp new x) below in ((less, AllByRecursion-above new x xs less sorted.0), sorted))
    (λ above. (AllByRecursion-with_pair (λ y. pair_cmp x y ≡ Less) new xs (is_less new x parts.0 above) sorted.0, IsInOrder-with_pair new xs parts.1 sorted.1))

IsInOrder-with_found : (found : Option Pair) (pairs : List Pair) → IfSome found (λ pair. has_pair pair pairs ≡ false) → IsInOrder pairs → IsInOrder (with_found_pair found pairs)
IsInOrder-with_found None pairs apart sorted = sorted
IsInOrder-with_found (Some pair) pairs apart sorted = IsInOrder-with_pair pair pairs apart sorted

-- the pairs of records whose numbers rise stand strictly in order
pub IsInOrder-pairs_of : (index : IndexDef) (last : ℕ) (rows : List Row) → rise_above last rows ≡ true → IsInOrder (pairs_of index rows)
unfolding IsStrictlySortedBy
IsInOrder-pairs_of index last [] rising = tt
IsInOrder-pairs_of index last (row ∷ rows) rising =
    let rest : rise_above row.num rows ≡ true = grind (arith, nat_tests) in
    let apart = IsApart-absent index row rows (row_at_none row.num row.num rows rest (omega arith)) in
    subst IsInOrder (sym (pairs_of-cons index row rows)) (IsInOrder-with_found (pair_of index row) (pairs_of index rows) apart (IsInOrder-pairs_of index row.num rows rest))

-- ---- the record of a pair

is_pair-of_row : (pair : Pair) (index : IndexDef) (row : Row) → meets_found (is_pair pair) (pair_of index row) ≡ true → (row.num ≡ pair.num) × (key_of index row.image ≡ Some pair.key)
is_pair-of_row pair index row is = by_key (key_of index row.image) is
  where
    by_key : (found : Option (List ℕ)) → meets_found (is_pair pair) (option_map (λ key. record { key = key; num = row.num }) found) ≡ true → (row.num ≡ pair.num) × (found ≡ Some pair.key)
    by_key None none = cc
    by_key (Some key) some =
        let same : pair ≡ record { key = key; num = row.num } = is_pair-same pair (record { key = key; num = row.num }) some in
        (sym (ap (λ (p : Pair). p.num) same), ap Some (sym (ap (λ (p : Pair). p.key) same)))

IsOfRecord-rows : (pair : Pair) (index : IndexDef) (last : ℕ) (rows : List Row) → rise_above last rows ≡ true → list_any (λ row. meets_found (is_pair pair) (pair_of index row)) rows ≡ true → IsOfRecord index rows pair
IsOfRecord-rows pair index last [] rising among = cc
IsOfRecord-rows pair index last (row ∷ rows) rising among =
    let rest : rise_above row.num rows ≡ true = grind (arith, nat_tests) in
    by_first rest (IsOfRecord-rows pair index row.num rows rest) (meets_found (is_pair pair) (pair_of index row)) refl among
  where
    later : rise_above row.num rows ≡ true → IsOfRecord index rows pair → (here : Bool) → (row.num == pair.num) ≡ here → IsSomeAnd (cond here (Some row) (row_at pair.num rows)) (λ found. key_of index found.image ≡ Some pair.key)
    later rest is false e = is
    later rest is true e =
        let none : row_at pair.num rows ≡ None = row_at_none pair.num row.num rows rest (grind (arith, nat_tests)) in
        absurd (subst (λ found. IsSomeAnd found (λ r. key_of index r.image ≡ Some pair.key)) none is)

    by_first : rise_above row.num rows ≡ true → (list_any (λ r. meets_found (is_pair pair) (pair_of index r)) rows ≡ true → IsOfRecord index rows pair) → (first : Bool) → meets_found (is_pair pair) (pair_of index row) ≡ first → (first || list_any (λ r. meets_found (is_pair pair) (pair_of index r)) rows) ≡ true → IsOfRecord index (row ∷ rows) pair
    by_first rest others true e among =
        let own = is_pair-of_row pair index row e in
        subst (λ here. IsSomeAnd (cond here (Some row) (row_at pair.num rows)) (λ found. key_of index found.image ≡ Some pair.key)) (sym (eq-eqb row.num pair.num own.0)) own.1
    by_first rest others false e among = later rest (others among) (row.num == pair.num) refl

-- each pair of records whose numbers rise is that of the record of its number
pub IsOfRecord-pairs_of : (pair : Pair) (index : IndexDef) (rows : List Row) → rise_above 0 rows ≡ true → has_pair pair (pairs_of index rows) ≡ true → IsOfRecord index rows pair
IsOfRecord-pairs_of pair index rows rising among = IsOfRecord-rows pair index 0 rows rising (sym (list_any-pairs_of (is_pair pair) index rows) ∙ among)

-- ---- what a search finds

list_any-append : (test : Pair → Bool) (xs ys : List Pair) → list_any test (xs ++ ys) ≡ (list_any test xs || list_any test ys)
list_any-append test [] ys = refl
list_any-append test (x ∷ xs) ys = grind (arith, list_any-append test xs ys)

find-among : (test : Pair → Bool) (pairs : List Pair) (pair : Pair) → find test pairs ≡ Some pair → has_pair pair pairs ≡ true
find-among test [] pair found = cc
find-among test (x ∷ xs) pair found = by_test (find-among test xs pair) (test x) found
  where
    by_test : (find test xs ≡ Some pair → has_pair pair xs ≡ true) → (here : Bool) → cond here (Some x) (find test xs) ≡ Some pair → has_pair pair (x ∷ xs) ≡ true
    by_test rest true e =
        let same : x ≡ pair = cc in
        or_left (is_pair pair x) (has_pair pair xs) (ap (is_pair pair) same ∙ same_pair_equiv.refl pair)
    by_test rest false e = or_right (is_pair pair x) (has_pair pair xs) (rest e)

list_any-reverse : (test : Pair → Bool) (xs : List Pair) → list_any test (reverse xs) ≡ list_any test xs
list_any-reverse test [] = refl
list_any-reverse test (x ∷ xs) =
    ap (list_any test) (reverse-append (x ∷ []) xs) ∙ list_any-append test (reverse xs) (x ∷ []) ∙ grind (arith, list_any-reverse test xs)

find-reverse_among : (test : Pair → Bool) (pairs : List Pair) (pair : Pair) → find test (reverse pairs) ≡ Some pair → has_pair pair pairs ≡ true
find-reverse_among test pairs pair found = sym (list_any-reverse (is_pair pair) pairs) ∙ find-among test (reverse pairs) pair found

-- a pair that is found is among the pairs
pub found_pair-among : (seek : Seek) (pairs : List Pair) (pair : Pair) → found_pair seek pairs ≡ Some pair → has_pair pair pairs ≡ true
found_pair-among First pairs pair found = find-among (λ x. true) pairs pair found
found_pair-among Last pairs pair found = find-reverse_among (λ x. true) pairs pair found
found_pair-among (Next from) pairs pair found = find-among _ pairs pair found
found_pair-among (Prev from) pairs pair found = find-reverse_among _ pairs pair found
found_pair-among (seeks.Equal key) pairs pair found = find-among _ pairs pair found
found_pair-among (AtOrAbove key) pairs pair found = find-among _ pairs pair found
found_pair-among (Above key) pairs pair found = find-among _ pairs pair found
found_pair-among (AtOrBelow key) pairs pair found = find-reverse_among _ pairs pair found
found_pair-among (Below key) pairs pair found = find-reverse_among _ pairs pair found
found_pair-among (FirstInSet set) pairs pair found = find-among _ pairs pair found
found_pair-among (NextInSet from set) pairs pair found = find-among _ pairs pair found
