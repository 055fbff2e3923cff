-- The pairs of an index are sorted, and are those of the records.
use Rattle.std.proofs.Common.{◌⊎◌, ◌↔◌, inl, inr, ⊎_elim, Contains, option_map, cond, eqb, ◌==◌, nat_lt, nat_cmp, is_eq, is_gt, Option, Some, None, true≢false, ◌≡◌, ℕ, zero, suc, ◌+◌, ◌<◌, Bool, true, false, List, [], ◌∷◌, length, get_or, filter_map, is_lt, IsSorted, IsPermutation, refl, sym, ap, ◌∙◌, subst, suc-add, arith}
use Rattle.std.specs.Cmp.{IsTotalOrder}
use Rattle.std.specs.declared.cmp.Ordering.{Ordering}
use Rattle.std.specs.declared.cmp.Ordering.TheVariants.{Less, Equal, Greater}
use Rattle.std.specs.Ordering.{ordering_reverse, ordering_then}
use Rattle.std.specs.Cmp.Lexicographic.{slice_cmp, bytes_decides, lists_ties}
use Rattle.std.specs.List.{cons_option}
use Rattle.std.proofs.lemmas.Bool.{cond_both, cond-true, cond-false, eqb-true}
use Rattle.std.proofs.lemmas.Bool.Decides.{nat_tests}
use Rattle.std.proofs.lemmas.List.Elements.{Contains-append_right}
use Rattle.std.proofs.lemmas.Option.{none-some, same_Some}
use Rattle.std.proofs.lemmas.Cmp.{then_total, on_total, nat_list_cmp_total, nat_cmp_total}
use Rattle.std.proofs.lemmas.List.Sorted.{IsPermutation-sym, Contains-permutation, IsPermutation-refl, IsPermutation-trans, IsPermutation-cons, IsPermutation-middle}
use Rattle.ct_definitions.specs.declared.definition.IndexDef.{IndexDef}
use Rattle.ct_definitions.specs.declared.store.Row.{Row}
use Rattle.ct_definitions.specs.declared.store.File.{File}
use Rattle.ct_definitions.specs.Keys.{key_of}
use Rattle.ct_definitions.specs.Room.{row_at}
use Rattle.ct_definitions.specs.Changes.{with_row, with_image, without_row}
use Rattle.ct_definitions.specs.Pairs.{Pair, pair_cmp, pair_of, with_pair, sorted_pairs, pairs_of}
use Rattle.ct_laws.specs.Allowed.{HasKeysOnce}
use Rattle.ct_laws.specs.Shares.{with_found_pair}
use Rattle.ct_laws.proofs.Rows.{row_at-with_image_same, without_row-with_image}

pub pair_cmp_total : IsTotalOrder pair_cmp
pair_cmp_total = then_total (on_total (λ (p : Pair). p.key) nat_list_cmp_total) (on_total (λ (p : Pair). p.num) nat_cmp_total)

abbrev is_below : Pair → Pair → Bool
is_below a b = is_lt (pair_cmp a b)

is_lt-Less : (o : Ordering) → is_lt o ≡ true → o ≡ Less
is_lt-Less Less h = refl
is_lt-Less Equal h = absurd (true≢false (sym h))
is_lt-Less Greater h = absurd (true≢false (sym h))

is_lt-ordering_reverse : (o : Ordering) → is_lt o ≡ true → is_lt (ordering_reverse o) ≡ false
is_lt-ordering_reverse Less h = refl
is_lt-ordering_reverse Equal h = refl
is_lt-ordering_reverse Greater h = sym h

is_below_back : (a b : Pair) → is_below a b ≡ true → is_below b a ≡ false
is_below_back a b h = ap is_lt (pair_cmp_total.antisymm b a) ∙ is_lt-ordering_reverse (pair_cmp a b) h

-- the first of the pairs is not below the pair
abbrev pub StartsAfter : Pair → List Pair → Type 0
StartsAfter pair [] = Unit {0}
StartsAfter pair (next ∷ pairs) = is_below next pair ≡ false

-- each pair is followed by none below it
abbrev pub Rises : List Pair → Type 0
Rises [] = Unit {0}
Rises (pair ∷ pairs) = StartsAfter pair pairs × Rises pairs

StartsAfter-with_pair : (pair new : Pair) (pairs : List Pair) → StartsAfter pair pairs → is_below new pair ≡ false → StartsAfter pair (with_pair new pairs)
StartsAfter-with_pair pair new [] h k = k
StartsAfter-with_pair pair new (next ∷ pairs) h k = cond_both (is_below new next) (new ∷ next ∷ pairs) (next ∷ with_pair new pairs) (StartsAfter pair) (λ _. k) (λ _. h)

pub Rises-with_pair : (new : Pair) (pairs : List Pair) → Rises pairs → Rises (with_pair new pairs)
Rises-with_pair new [] h = (tt, tt)
Rises-with_pair new (next ∷ pairs) h =
    cond_both (is_below new next) (new ∷ next ∷ pairs) (next ∷ with_pair new pairs) Rises
    (λ e. (is_below_back new next e, h))
    (λ e. (StartsAfter-with_pair next new pairs h.0 e, Rises-with_pair new pairs h.1))

pub Rises-sorted_pairs : (pairs : List Pair) → Rises (sorted_pairs pairs)
Rises-sorted_pairs [] = tt
Rises-sorted_pairs (pair ∷ pairs) = Rises-with_pair pair (sorted_pairs pairs) (Rises-sorted_pairs pairs)

rises_at : (pairs : List Pair) → Rises pairs → (k : ℕ) (d : Pair) → k + 1 < length pairs → is_below (get_or pairs (k + 1) d) (get_or pairs k d) ≡ false
rises_at [] h k d in' = absurd (omega arith)
rises_at (pair ∷ []) h zero d in' = absurd (omega arith)
rises_at (pair ∷ next ∷ pairs) h zero d in' = h.0
rises_at (pair ∷ pairs) h (suc k) d in' = rw suc-add (rises_at pairs h.1 k d (omega arith))

pub IsSorted-from_Rises : (pairs : List Pair) → Rises pairs → IsSorted pair_cmp pairs
IsSorted-from_Rises pairs h = λ k d _ in'. rises_at pairs h k d in'

pub IsSorted-pairs_of : (index : IndexDef) (rows : List Row) → IsSorted pair_cmp (pairs_of index rows)
IsSorted-pairs_of index rows = IsSorted-from_Rises (pairs_of index rows) (Rises-sorted_pairs (filter_map (pair_of index) rows))

pub IsPermutation-with_pair : (new : Pair) (pairs : List Pair) → IsPermutation (new ∷ pairs) (with_pair new pairs)
IsPermutation-with_pair new [] = IsPermutation-refl (new ∷ [])
IsPermutation-with_pair new (next ∷ pairs) =
    cond_both (is_below new next) (new ∷ next ∷ pairs) (next ∷ with_pair new pairs) (IsPermutation (new ∷ next ∷ pairs))
    (λ _. IsPermutation-refl (new ∷ next ∷ pairs))
    (λ _. IsPermutation-trans (new ∷ next ∷ pairs) (next ∷ new ∷ pairs) (next ∷ with_pair new pairs) (IsPermutation-middle (new ∷ []) next pairs) (IsPermutation-cons next (new ∷ pairs) (with_pair new pairs) (IsPermutation-with_pair new pairs)))

pub IsPermutation-sorted_pairs : (pairs : List Pair) → IsPermutation pairs (sorted_pairs pairs)
IsPermutation-sorted_pairs [] = IsPermutation-refl []
IsPermutation-sorted_pairs (pair ∷ pairs) = IsPermutation-trans (pair ∷ pairs) (pair ∷ sorted_pairs pairs) (with_pair pair (sorted_pairs pairs)) (IsPermutation-cons pair pairs (sorted_pairs pairs) (IsPermutation-sorted_pairs pairs)) (IsPermutation-with_pair pair (sorted_pairs pairs))

pub IsPermutation-pairs_of : (index : IndexDef) (rows : List Row) → IsPermutation (filter_map (pair_of index) rows) (pairs_of index rows)
IsPermutation-pairs_of index rows = IsPermutation-sorted_pairs (filter_map (pair_of index) rows)

-- ---- after a change of the records

is_eq-Equal : (o : Ordering) → o ≡ Equal → is_eq o ≡ true
is_eq-Equal o h = ap is_eq h

then_Equal : (o r : Ordering) → ordering_then o r ≡ Equal → (o ≡ Equal) × (r ≡ Equal)
then_Equal Less r h = absurd (true≢false (ap is_lt h))
then_Equal Equal r h = (refl, h)
then_Equal Greater r h = absurd (true≢false (ap is_gt h))

nat_cmp_ties : (a b : ℕ) → eqb a b ≡ is_eq (nat_cmp a b)
nat_cmp_ties a b = grind (arith, nat_tests)

-- pairs that compare as equal are the same
pub same_pair : (a b : Pair) → pair_cmp a b ≡ Equal → a ≡ b
same_pair a b h =
    let parts = then_Equal (slice_cmp nat_cmp a.key b.key) (nat_cmp a.num b.num) h in
    let key : a.key ≡ b.key = (bytes_decides a.key b.key).0 (lists_ties nat_cmp nat_cmp_ties a.key b.key ∙ is_eq-Equal (slice_cmp nat_cmp a.key b.key) parts.0) in
    let num : a.num ≡ b.num = eqb-true a.num b.num (nat_cmp_ties a.num b.num ∙ is_eq-Equal (nat_cmp a.num b.num) parts.1) in
    λ i. record { key = key i; num = num i }

is_below_trans : (a b c : Pair) → is_below a b ≡ true → is_below b c ≡ true → is_below a c ≡ true
is_below_trans a b c h k = ap is_lt (pair_cmp_total.trans a b c (is_lt-Less (pair_cmp a b) h) (is_lt-Less (pair_cmp b c) k))

-- two pairs, of which the first is below the second, are put in either order
put_both : (a b : Pair) (pairs : List Pair) → is_below a b ≡ true → with_pair a (with_pair b pairs) ≡ with_pair b (with_pair a pairs)
put_both a b [] h = grind (arith, is_below_back a b h)
put_both a b (next ∷ pairs) h = grind (arith, is_below_back a b h, is_below_trans a b next h, put_both a b pairs h)

pub with_pair_comm : (a b : Pair) (pairs : List Pair) → with_pair a (with_pair b pairs) ≡ with_pair b (with_pair a pairs)
with_pair_comm a b pairs = by (pair_cmp a b) refl
  where
    by : (o : Ordering) → pair_cmp a b ≡ o → with_pair a (with_pair b pairs) ≡ with_pair b (with_pair a pairs)
    by Less e = put_both a b pairs (ap is_lt e)
    by Equal e = ap (λ x. with_pair x (with_pair b pairs)) (same_pair a b e) ∙ sym (ap (λ x. with_pair b (with_pair x pairs)) (same_pair a b e))
    by Greater e = sym (put_both b a pairs (ap is_lt (pair_cmp_total.antisymm b a ∙ ap ordering_reverse e)))

pub with_found_comm : (a b : Option Pair) (pairs : List Pair) → with_found_pair a (with_found_pair b pairs) ≡ with_found_pair b (with_found_pair a pairs)
with_found_comm None b pairs = refl
with_found_comm (Some a) None pairs = refl
with_found_comm (Some a) (Some b) pairs = with_pair_comm a b pairs

sorted_pairs-cons : (found : Option Pair) (pairs : List Pair) → sorted_pairs (cons_option found pairs) ≡ with_found_pair found (sorted_pairs pairs)
sorted_pairs-cons None pairs = refl
sorted_pairs-cons (Some pair) pairs = refl

-- the pairs of one record more
pub pairs_of-cons : (index : IndexDef) (row : Row) (rows : List Row) → pairs_of index (row ∷ rows) ≡ with_found_pair (pair_of index row) (pairs_of index rows)
pairs_of-cons index row rows = sorted_pairs-cons (pair_of index row) (filter_map (pair_of index) rows)

pub pairs_of-with_row : (index : IndexDef) (new : Row) (rows : List Row) → pairs_of index (with_row new rows) ≡ with_found_pair (pair_of index new) (pairs_of index rows)
pairs_of-with_row index new [] = pairs_of-cons index new []
pairs_of-with_row index new (row ∷ rows) =
    cond_both (nat_lt new.num row.num) (new ∷ row ∷ rows) (row ∷ with_row new rows) (λ after. pairs_of index after ≡ with_found_pair (pair_of index new) (pairs_of index (row ∷ rows)))
    (λ _. pairs_of-cons index new (row ∷ rows))
    (λ _.
    pairs_of-cons index row (with_row new rows)
    ∙ ap (with_found_pair (pair_of index row)) (pairs_of-with_row index new rows)
    ∙ with_found_comm (pair_of index row) (pair_of index new) (pairs_of index rows)
    ∙ ap (with_found_pair (pair_of index new)) (sym (pairs_of-cons index row rows)))

-- and of one less: with the record's pair they are those from before
pub pairs_of-without_row : (index : IndexDef) (num : ℕ) (row : Row) (rows : List Row) → row_at num rows ≡ Some row → with_found_pair (pair_of index row) (pairs_of index (without_row num rows)) ≡ pairs_of index rows
pairs_of-without_row index num row [] h = absurd (none-some row h)
pairs_of-without_row index num row (x ∷ rows) h = by (x.num == num) refl h (λ k. pairs_of-without_row index num row rows k)
  where
    by : (same : Bool) → (x.num == num) ≡ same → cond same (Some x) (row_at num rows) ≡ Some row → (row_at num rows ≡ Some row → with_found_pair (pair_of index row) (pairs_of index (without_row num rows)) ≡ pairs_of index rows) → with_found_pair (pair_of index row) (pairs_of index (without_row num (x ∷ rows))) ≡ pairs_of index (x ∷ rows)
    by true e k rest =
        ap (λ after. with_found_pair (pair_of index row) (pairs_of index after)) (cond-true (x.num == num) rows (x ∷ without_row num rows) e)
        ∙ ap (λ y. with_found_pair (pair_of index y) (pairs_of index rows)) (sym (same_Some x row k))
        ∙ sym (pairs_of-cons index x rows)
    by false e k rest =
        ap (λ after. with_found_pair (pair_of index row) (pairs_of index after)) (cond-false (x.num == num) rows (x ∷ without_row num rows) e)
        ∙ ap (with_found_pair (pair_of index row)) (pairs_of-cons index x (without_row num rows))
        ∙ with_found_comm (pair_of index row) (pair_of index x) (pairs_of index (without_row num rows))
        ∙ ap (with_found_pair (pair_of index x)) (rest k)
        ∙ sym (pairs_of-cons index x rows)

-- another image: the new pair in the place of the old one
pub pairs_of-with_image : (index : IndexDef) (num : ℕ) (image : List ℕ) (row : Row) (rows : List Row) → row_at num rows ≡ Some row → pairs_of index (with_image num image rows) ≡ with_found_pair (pair_of index (record { num = num; image = image })) (pairs_of index (without_row num rows))
pairs_of-with_image index num image row rows h =
    let new : Row = record { num = num; image = image } in
    let now : row_at num (with_image num image rows) ≡ Some new = row_at-with_image_same num image rows ∙ ap (option_map (λ (x : Row). new)) h in
    sym (pairs_of-without_row index num new (with_image num image rows) now)
    ∙ ap (λ rest. with_found_pair (pair_of index new) (pairs_of index rest)) (without_row-with_image num image rows)

-- ---- which pairs there are

Contains-cons : {X : Type 0} (x y : X) (xs : List X) → Contains (x ∷ xs) y → (x ≡ y) ⊎ Contains xs y
Contains-cons x y xs (zero, l, e) = inl e
Contains-cons x y xs (suc k, l, e) = inr (k, omega arith, e)

-- what a record with a pair gives is among the pairs, and nothing else is
Contains-filter_map : {X Y : Type 0} (f : X → Option Y) (xs : List X) (y : Y) → Contains (filter_map f xs) y → (x : X) × Contains xs x × (f x ≡ Some y)
Contains-filter_map f [] y in' = absurd (omega (arith, in'.1))
Contains-filter_map {X} {Y} f (x ∷ xs) y in' = by (f x) refl in' (λ k. Contains-filter_map f xs y k)
  where
    later : ((z : X) × Contains xs z × (f z ≡ Some y)) → (z : X) × Contains (x ∷ xs) z × (f z ≡ Some y)
    later (z, at, e) = (z, Contains-append_right (x ∷ []) xs z at, e)

    by : (found : Option Y) → f x ≡ found → Contains (cons_option found (filter_map f xs)) y → (Contains (filter_map f xs) y → (z : X) × Contains xs z × (f z ≡ Some y)) → (z : X) × Contains (x ∷ xs) z × (f z ≡ Some y)
    by None e k rest = later (rest k)
    by (Some first) e k rest = ⊎_elim (λ (same : first ≡ y). (x, (0, omega arith, refl), e ∙ ap Some same)) (λ (at : Contains (filter_map f xs) y). later (rest at)) (Contains-cons first y (filter_map f xs) k)

Contains-from_filter_map : {X Y : Type 0} (f : X → Option Y) (xs : List X) (x : X) (y : Y) → Contains xs x → f x ≡ Some y → Contains (filter_map f xs) y
Contains-from_filter_map f [] x y in' h = absurd (omega (arith, in'.1))
Contains-from_filter_map {X} {Y} f (z ∷ xs) x y in' h = ⊎_elim here (λ (at : Contains xs x). after (f z) (Contains-from_filter_map f xs x y at h)) (Contains-cons z x xs in')
  where
    here : z ≡ x → Contains (cons_option (f z) (filter_map f xs)) y
    here same = subst (λ found. Contains (cons_option found (filter_map f xs)) y) (sym (ap f same ∙ h)) (0, omega arith, refl)

    after : (found : Option Y) → Contains (filter_map f xs) y → Contains (cons_option found (filter_map f xs)) y
    after None k = k
    after (Some first) k = Contains-append_right (first ∷ []) (filter_map f xs) y k

pub Contains-pairs_of : (index : IndexDef) (rows : List Row) (pair : Pair) → Contains (pairs_of index rows) pair ↔ ((row : Row) × Contains rows row × (pair_of index row ≡ Some pair))
Contains-pairs_of index rows pair = (
  λ in'. Contains-filter_map (pair_of index) rows pair (Contains-permutation (pairs_of index rows) (filter_map (pair_of index) rows) pair (IsPermutation-sym (filter_map (pair_of index) rows) (pairs_of index rows) (IsPermutation-pairs_of index rows)) in'),
  λ (row, at, e). Contains-permutation (filter_map (pair_of index) rows) (pairs_of index rows) pair (IsPermutation-pairs_of index rows) (Contains-from_filter_map (pair_of index) rows row pair at e),
)

-- a record's pair is its key and its number
pair_parts : (index : IndexDef) (row : Row) (pair : Pair) → pair_of index row ≡ Some pair → (key_of index row.image ≡ Some pair.key) × (row.num ≡ pair.num)
pair_parts index row pair h = by (key_of index row.image) refl h
  where
    by : (found : Option (List ℕ)) → key_of index row.image ≡ found → option_map (λ key. record { key = key; num = row.num }) found ≡ Some pair → (key_of index row.image ≡ Some pair.key) × (row.num ≡ pair.num)
    by None e k = absurd (none-some pair k)
    by (Some key) e k =
        let same : record { key = key; num = row.num } ≡ pair = same_Some (record { key = key; num = row.num }) pair k in
        (e ∙ ap Some (ap (λ (p : Pair). p.key) same), ap (λ (p : Pair). p.num) same)

-- no key stands twice among the pairs of a unique index
pub keys_once_of : (file : File) (index : IndexDef) (p q : Pair) → HasKeysOnce file → Contains file.def.indexes index → index.unique ≡ true → Contains (pairs_of index file.records) p → Contains (pairs_of index file.records) q → p.key ≡ q.key → p.num ≡ q.num
keys_once_of file index p q once in_indexes unique in_p in_q same =
    let a = (Contains-pairs_of index file.records p).0 in_p in
    let b = (Contains-pairs_of index file.records q).0 in_q in
    let of_a = pair_parts index a.0 p a.2 in
    let of_b = pair_parts index b.0 q b.2 in
    sym of_a.1 ∙ once index a.0 b.0 p.key in_indexes unique a.1 b.1 of_a.0 (of_b.0 ∙ ap Some (sym same)) ∙ of_b.1
