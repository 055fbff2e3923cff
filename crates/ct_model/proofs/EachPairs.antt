-- What a change of one record makes of the pairs of each index.
use Rattle.std.proofs.Common.{◌≡◌, true≢false, ℕ, Bool, true, false, not, ◌&&◌, ◌||◌, cond, List, [], ◌∷◌, IfSome, Option, Some, None, option_map, refl, ap, sym, ◌∙◌, subst}
use Rattle.std.specs.List.{list_any}
use Rattle.std.specs.Ordering.{is_lt}
use Rattle.std.specs.Cmp.Lexicographic.{bytes_decides}
use Rattle.std.proofs.lemmas.Bool.{or_parts, cond_both}
use Rattle.ct_definitions.specs.declared.definition.IndexDef.{IndexDef}
use Rattle.ct_definitions.specs.declared.store.Row.{Row}
use Rattle.ct_definitions.specs.Keys.{key_of}
use Rattle.ct_definitions.specs.Room.{row_at, image_at}
use Rattle.ct_definitions.specs.Changes.{with_row, with_image, without_row, has_key_of, is_taken_in}
use Rattle.ct_definitions.specs.Pairs.{Pair, pair_cmp, pair_of, with_pair, pairs_of}
use Rattle.ct_definitions.specs.Reached.{rise_above}
use Rattle.ct_laws.specs.Shares.{with_found_pair}
use Rattle.ct_laws.proofs.Pairs.{with_found_comm, pairs_of-with_row, pairs_of-without_row, pairs_of-with_image}
use Rattle.ct_laws.proofs.Rows.{num-row_at, row_at-without_row_same}
use Rattle.ct_pairs.specs.Finds.{is_pair, has_pair, without_pair, without_found_pair, with_pair_of, without_pair_of, IsApart}
use Rattle.ct_pairs.specs.Order.{same_pair_equiv}
use Rattle.ct_pairs.proofs.RowPairs.{is_pair-same, IsApart-absent, pairs_of-taken, has_key_of-none, has_key_of-pairs}
use Rattle.ct_model.specs.EachIndex.{pairs_of_each, with_pairs_of, without_pairs_of, AreApart, are_same_keys, has_same_key, exchanged_pair, exchanged_pairs, AreFresh, has_other, is_taken_among}

-- ---- a pair put and taken out again

without_pair-absent : (pair : Pair) (pairs : List Pair) → has_pair pair pairs ≡ false → without_pair pair pairs ≡ pairs
without_pair-absent pair [] absent = refl
without_pair-absent pair (x ∷ xs) absent =
    let parts = or_parts (is_pair pair x) (has_pair pair xs) absent in
    ap (λ b. cond (not b) (x ∷ without_pair pair xs) (without_pair pair xs)) parts.0 ∙ ap (λ ys. x ∷ ys) (without_pair-absent pair xs parts.1)

without_pair-first : (pair : Pair) (xs : List Pair) → without_pair pair (pair ∷ xs) ≡ without_pair pair xs
without_pair-first pair xs = ap (λ b. cond (not b) (pair ∷ without_pair pair xs) (without_pair pair xs)) (same_pair_equiv.refl pair)

without_pair-with_pair : (pair : Pair) (pairs : List Pair) → has_pair pair pairs ≡ false → without_pair pair (with_pair pair pairs) ≡ pairs
without_pair-with_pair pair [] absent = without_pair-first pair []
without_pair-with_pair pair (x ∷ xs) absent =
    let parts = or_parts (is_pair pair x) (has_pair pair xs) absent in
    cond_both (is_lt (pair_cmp pair x)) (pair ∷ x ∷ xs) (x ∷ with_pair pair xs) (λ after. without_pair pair after ≡ x ∷ xs)
    (λ _. without_pair-first pair (x ∷ xs) ∙ without_pair-absent pair (x ∷ xs) absent)
    (λ _. ap (λ b. cond (not b) (x ∷ without_pair pair (with_pair pair xs)) (without_pair pair (with_pair pair xs))) parts.0 ∙ ap (λ ys. x ∷ ys) (without_pair-with_pair pair xs parts.1))

without_found-with_found : (found : Option Pair) (pairs : List Pair) → IfSome found (λ pair. has_pair pair pairs ≡ false) → without_found_pair found (with_found_pair found pairs) ≡ pairs
without_found-with_found None pairs apart = refl
without_found-with_found (Some pair) pairs apart = without_pair-with_pair pair pairs apart

-- going back from a pair that was put
pub put_back : (index : IndexDef) (row : Row) (pairs : List Pair) → IsApart index row pairs → without_pair_of index row (with_pair_of index row pairs) ≡ pairs
put_back index row pairs apart = without_found-with_found (pair_of index row) pairs apart

-- ---- one record more, in each index

pub added_each : (indexes : List IndexDef) (row : Row) (rows : List Row) → with_pairs_of indexes row (pairs_of_each indexes rows) ≡ pairs_of_each indexes (with_row row rows)
added_each [] row rows = refl
added_each (index ∷ indexes) row rows =
    ap (λ pairs. pairs ∷ with_pairs_of indexes row (pairs_of_each indexes rows)) (sym (pairs_of-with_row index row rows))
    ∙ ap (λ each. pairs_of index (with_row row rows) ∷ each) (added_each indexes row rows)

pub apart_each : (indexes : List IndexDef) (row : Row) (rows : List Row) → row_at row.num rows ≡ None → AreApart indexes row (pairs_of_each indexes rows)
apart_each [] row rows none = tt
apart_each (index ∷ indexes) row rows none = (IsApart-absent index row rows none, apart_each indexes row rows none)

-- ---- one less

pub less_each : (indexes : List IndexDef) (num : ℕ) (image : List ℕ) (rows : List Row) → rise_above 0 rows ≡ true → image_at num rows ≡ Some image → without_pairs_of indexes (record { num = num; image = image }) (pairs_of_each indexes rows) ≡ pairs_of_each indexes (without_row num rows)
less_each [] num image rows rise found = refl
less_each (index ∷ indexes) num image rows rise found =
    ap (λ pairs. pairs ∷ without_pairs_of indexes (record { num = num; image = image }) (pairs_of_each indexes rows)) (sym (pairs_of-taken index num image rows rise found))
    ∙ ap (λ each. pairs_of index (without_row num rows) ∷ each) (less_each indexes num image rows rise found)

-- ---- another image

same_keys : (a b : Option (List ℕ)) → are_same_keys a b ≡ true → a ≡ b
same_keys None None same = refl
same_keys None (Some key) same = absurd (true≢false (sym same))
same_keys (Some key) None same = absurd (true≢false (sym same))
same_keys (Some key) (Some other) same = ap Some ((bytes_decides key other).0 same)

other_keys : (a b : Option (List ℕ)) → are_same_keys a b ≡ false → a ≡ b → ⊥
other_keys a b unlike same = true≢false (sym (is_same b) ∙ ap (λ (found : Option (List ℕ)). are_same_keys found b) (sym same) ∙ unlike)
  where
    is_same : (found : Option (List ℕ)) → are_same_keys found found ≡ true
    is_same None = refl
    is_same (Some key) = (bytes_decides key key).1 refl

-- pairs of other keys are others
differs : (num : ℕ) (key other : List ℕ) → (key ≡ other → ⊥) → is_pair (record { key = key; num = num }) (record { key = other; num = num }) ≡ false
differs num key other unlike = by_test (is_pair (record { key = key; num = num }) (record { key = other; num = num })) refl
  where
    by_test : (test : Bool) → is_pair (record { key = key; num = num }) (record { key = other; num = num }) ≡ test → test ≡ false
    by_test false is = refl
    by_test true is = absurd (unlike (ap (λ (p : Pair). p.key) (is_pair-same (record { key = key; num = num }) (record { key = other; num = num }) is)))

absent-with_pair : (pair new : Pair) (pairs : List Pair) → has_pair pair pairs ≡ false → is_pair pair new ≡ false → has_pair pair (with_pair new pairs) ≡ false
absent-with_pair pair new [] absent other = ap (λ b. b || false) other
absent-with_pair pair new (x ∷ xs) absent other =
    let parts = or_parts (is_pair pair x) (has_pair pair xs) absent in
    cond_both (is_lt (pair_cmp new x)) (new ∷ x ∷ xs) (x ∷ with_pair new xs) (λ after. has_pair pair after ≡ false)
    (λ _. ap (λ b. b || (is_pair pair x || has_pair pair xs)) other ∙ absent)
    (λ _. ap (λ b. b || has_pair pair (with_pair new xs)) parts.0 ∙ absent-with_pair pair new xs parts.1 other)

-- the pair of a key
abbrev pair_with : ℕ → Option (List ℕ) → Option Pair
pair_with num found = option_map (λ key. record { key = key; num = num }) found

apart_keys : (num : ℕ) (a b : Option (List ℕ)) (pairs : List Pair) → (a ≡ b → ⊥) → IfSome (pair_with num a) (λ pair. has_pair pair pairs ≡ false) → IfSome (pair_with num a) (λ pair. has_pair pair (with_found_pair (pair_with num b) pairs) ≡ false)
apart_keys num None b pairs unlike apart = tt
apart_keys num (Some key) None pairs unlike apart = apart
apart_keys num (Some key) (Some other) pairs unlike apart =
    absent-with_pair (record { key = key; num = num }) (record { key = other; num = num }) pairs apart (differs num key other (λ same. unlike (ap Some same)))

row_found : (num : ℕ) (image : List ℕ) (rows : List Row) → image_at num rows ≡ Some image → row_at num rows ≡ Some (record { num = num; image = image })
row_found num image rows found = by_row (row_at num rows) refl found
  where
    by_row : (row : Option Row) → row_at num rows ≡ row → option_map (λ (r : Row). r.image) row ≡ Some image → row ≡ Some (record { num = num; image = image })
    by_row None e none = cc
    by_row (Some row) e some =
        let is_num : row.num ≡ num = num-row_at num row rows e in
        let is_image : row.image ≡ image = cc in
        ap Some (λ i. record { num = is_num i; image = is_image i })

-- another image exchanges an index's pair
exchanged_one : (index : IndexDef) (num : ℕ) (old new : List ℕ) (rows : List Row) → rise_above 0 rows ≡ true → image_at num rows ≡ Some old → exchanged_pair index num old new (pairs_of index rows) ≡ pairs_of index (with_image num new rows)
exchanged_one index num old new rows rise found = by_keys (has_same_key index old new) refl
  where
    by_keys : (same : Bool) → has_same_key index old new ≡ same → cond same (pairs_of index rows) (without_pair_of index (record { num = num; image = old }) (with_pair_of index (record { num = num; image = new }) (pairs_of index rows))) ≡ pairs_of index (with_image num new rows)
    by_keys true is =
        let before = pairs_of-without_row index num (record { num = num; image = old }) rows (row_found num old rows found) in
        let after = pairs_of-with_image index num new (record { num = num; image = old }) rows (row_found num old rows found) in
        sym before ∙ ap (λ (key : Option (List ℕ)). with_found_pair (pair_with num key) (pairs_of index (without_row num rows))) (same_keys (key_of index old) (key_of index new) is) ∙ sym after
    by_keys false is =
        let before = pairs_of-without_row index num (record { num = num; image = old }) rows (row_found num old rows found) in
        let after = pairs_of-with_image index num new (record { num = num; image = old }) rows (row_found num old rows found) in
        let none = row_at-without_row_same num 0 rows rise in
        let others : List Pair = pairs_of index (without_row num rows) in
        let apart : IsApart index (record { num = num; image = old }) (with_pair_of index (record { num = num; image = new }) others) =
        apart_keys num (key_of index old) (key_of index new) others (other_keys (key_of index old) (key_of index new) is) (IsApart-absent index (record { num = num; image = old }) (without_row num rows) none)
        in
        ap (λ (pairs : List Pair). without_pair_of index (record { num = num; image = old }) (with_pair_of index (record { num = num; image = new }) pairs)) (sym before)
        ∙ ap (without_pair_of index (record { num = num; image = old })) (with_found_comm (pair_with num (key_of index new)) (pair_with num (key_of index old)) others)
        ∙ put_back index (record { num = num; image = old }) (with_pair_of index (record { num = num; image = new }) others) apart
        ∙ sym after

fresh_one : (index : IndexDef) (num : ℕ) (old new : List ℕ) (rows : List Row) → rise_above 0 rows ≡ true → image_at num rows ≡ Some old → has_same_key index old new ≡ false → IsApart index (record { num = num; image = new }) (pairs_of index rows)
fresh_one index num old new rows rise found unlike =
    let before = pairs_of-without_row index num (record { num = num; image = old }) rows (row_found num old rows found) in
    let none = row_at-without_row_same num 0 rows rise in
    subst (IsApart index (record { num = num; image = new })) before
    (apart_keys num (key_of index new) (key_of index old) (pairs_of index (without_row num rows)) (λ same. other_keys (key_of index old) (key_of index new) unlike (sym same)) (IsApart-absent index (record { num = num; image = new }) (without_row num rows) none))

pub exchanged_each : (indexes : List IndexDef) (num : ℕ) (old new : List ℕ) (rows : List Row) → rise_above 0 rows ≡ true → image_at num rows ≡ Some old → exchanged_pairs indexes num old new (pairs_of_each indexes rows) ≡ pairs_of_each indexes (with_image num new rows)
exchanged_each [] num old new rows rise found = refl
exchanged_each (index ∷ indexes) num old new rows rise found =
    ap (λ pairs. pairs ∷ exchanged_pairs indexes num old new (pairs_of_each indexes rows)) (exchanged_one index num old new rows rise found)
    ∙ ap (λ each. pairs_of index (with_image num new rows) ∷ each) (exchanged_each indexes num old new rows rise found)

pub fresh_each : (indexes : List IndexDef) (num : ℕ) (old new : List ℕ) (rows : List Row) → rise_above 0 rows ≡ true → image_at num rows ≡ Some old → AreFresh indexes num old new (pairs_of_each indexes rows)
fresh_each [] num old new rows rise found = tt
fresh_each (index ∷ indexes) num old new rows rise found = (λ unlike. fresh_one index num old new rows rise found unlike, fresh_each indexes num old new rows rise found)

-- ---- keys that other records have

taken_one : (index : IndexDef) (num : ℕ) (image : List ℕ) (rows : List Row) (found : Option (List ℕ)) → key_of index image ≡ found → list_any (has_key_of index num image) rows ≡ has_other found num (pairs_of index rows)
taken_one index num image rows None is = has_key_of-none index num image rows is
taken_one index num image rows (Some key) is = has_key_of-pairs index num image rows key is

-- a key is taken in an index exactly where one of its pairs has it
pub taken_each : (indexes : List IndexDef) (num : ℕ) (image : List ℕ) (rows : List Row) → is_taken_among indexes num image (pairs_of_each indexes rows) ≡ list_any (is_taken_in num image rows) indexes
taken_each [] num image rows = refl
taken_each (index ∷ indexes) num image rows =
    ap (λ b. (index.unique && b) || is_taken_among indexes num image (pairs_of_each indexes rows)) (sym (taken_one index num image rows (key_of index image) refl))
    ∙ ap (λ b. is_taken_in num image rows index || b) (taken_each indexes num image rows)

-- ---- going back from what was put

pub put_undone : (indexes others : List IndexDef) (index : IndexDef) (row : Row) (each rest after : List (List Pair)) (first put back : List Pair) → indexes ≡ index ∷ others → each ≡ first ∷ rest → AreApart indexes row each → put ≡ with_pair_of index row first → back ≡ without_pair_of index row put → after ≡ rest → back ∷ after ≡ each
put_undone indexes others index row each rest after first put back i e apart put_is back_is after_is =
    let here : AreApart (index ∷ others) row (first ∷ rest) = subst (λ (xs : List IndexDef). AreApart xs row (first ∷ rest)) i (subst (λ (ps : List (List Pair)). AreApart indexes row ps) e apart) in
    let same : back ≡ first = back_is ∙ ap (without_pair_of index row) put_is ∙ put_back index row first here.0 in
    ap (λ (pairs : List Pair). pairs ∷ after) same ∙ ap (λ (ps : List (List Pair)). first ∷ ps) after_is ∙ sym e

pub all_put_back : (indexes : List IndexDef) (row : Row) (each : List (List Pair)) → AreApart indexes row each → without_pairs_of indexes row (with_pairs_of indexes row each) ≡ each
all_put_back [] row each apart = refl
all_put_back (index ∷ indexes) row [] apart = refl
all_put_back (index ∷ indexes) row (pairs ∷ each) apart =
    ap (λ (first : List Pair). first ∷ without_pairs_of indexes row (with_pairs_of indexes row each)) (put_back index row pairs apart.0)
    ∙ ap (λ (rest : List (List Pair)). pairs ∷ rest) (all_put_back indexes row each apart.1)

pub all_undone : (indexes : List IndexDef) (num : ℕ) (image again : List ℕ) (each put back : List (List Pair)) → AreApart indexes (record { num = num; image = image }) each → again ≡ image → put ≡ with_pairs_of indexes (record { num = num; image = image }) each → back ≡ without_pairs_of indexes (record { num = num; image = again }) put → back ≡ each
all_undone indexes num image again each put back apart same put_is back_is =
    back_is ∙ ap (λ (bytes : List ℕ). without_pairs_of indexes (record { num = num; image = bytes }) put) same
    ∙ ap (without_pairs_of indexes (record { num = num; image = image })) put_is ∙ all_put_back indexes (record { num = num; image = image }) each apart

pub exchange_undone : (indexes others : List IndexDef) (index : IndexDef) (num : ℕ) (old new : List ℕ) (each rest after : List (List Pair)) (first put back : List Pair) → indexes ≡ index ∷ others → each ≡ first ∷ rest → AreFresh indexes num old new each → has_same_key index old new ≡ false → put ≡ with_pair_of index (record { num = num; image = new }) first → back ≡ without_pair_of index (record { num = num; image = new }) put → after ≡ rest → back ∷ after ≡ each
exchange_undone indexes others index num old new each rest after first put back i e fresh unlike put_is back_is after_is =
    let here : AreFresh (index ∷ others) num old new (first ∷ rest) = subst (λ (xs : List IndexDef). AreFresh xs num old new (first ∷ rest)) i (subst (λ (ps : List (List Pair)). AreFresh indexes num old new ps) e fresh) in
    let same : back ≡ first = back_is ∙ ap (without_pair_of index (record { num = num; image = new })) put_is ∙ put_back index (record { num = num; image = new }) first (here.0 unlike) in
    ap (λ (pairs : List Pair). pairs ∷ after) same ∙ ap (λ (ps : List (List Pair)). first ∷ ps) after_is ∙ sym e
