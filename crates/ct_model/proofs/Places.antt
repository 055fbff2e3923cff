-- Where the record of a number stands among records whose numbers rise, and where those of a block do.
use Rattle.std.proofs.Common.{◌≡◌, ◌≢◌, ℕ, zero, suc, ◌+◌, ◌-◌, ◌<◌, ◌≤◌, Bool, true, false, cond, ◌==◌, nat_lt, nat_le, List, [], ◌∷◌, length, take, drop, min, get_or, slice_get, insert, remove, slice_set, filter, is_some, Option, Some, None, refl, ap, sym, ◌∙◌, arith}
use Rattle.std.proofs.Math.Nat.{sub-zero}
use Rattle.std.specs.List.{prefix_len}
use Rattle.std.specs.List.Sorted.{IsNonDecreasingBy, IsPartitionPoint}
use Rattle.std.proofs.lemmas.Bool.Decides.{nat_tests}
use Rattle.std.proofs.lemmas.Option.{slice_get_within}
use Rattle.std.proofs.lemmas.List.{length-take, length-drop}
use Rattle.std.proofs.lemmas.List.Sums.{prefix_len-le-length, prefix_len_passes, prefix_len_stops}
use Rattle.ct_definitions.specs.declared.store.Row.{Row}
use Rattle.ct_definitions.specs.Room.{row_at, block_of}
use Rattle.ct_definitions.specs.Changes.{with_row, with_image, without_row}
use Rattle.ct_definitions.specs.Reached.{rise_above}
use Rattle.ct_model.specs.Stored.{own}

-- a partition point is the length of the front that passes
pub prefix_from_point : {X : Type 0} (p : X → Bool) (xs : List X) (i : ℕ) → i ≤ length xs → IsPartitionPoint (λ y. p y ≡ true) (λ y. p y ≡ false) xs i → i ≡ prefix_len p xs
prefix_from_point p [] i within point = omega arith
prefix_from_point p (x ∷ xs) zero within point = let fails : p x ≡ false = point.1 0 x (omega arith) (omega arith) in grind (arith, fails)
prefix_from_point p (x ∷ xs) (suc i) within point =
    let passes : p x ≡ true = point.0 0 x (omega arith) (omega arith) in
    let rest : i ≡ prefix_len p xs = prefix_from_point p xs i (omega arith) (λ k d low high. point.0 (suc k) d (omega arith) (omega arith), λ k d low high. point.1 (suc k) d (omega arith) (omega arith)) in
    grind (arith, passes, rest)

-- each number is above where the numbers begin
num_above : (last : ℕ) (rows : List Row) (i : ℕ) (d : Row) → rise_above last rows ≡ true → i < length rows → last < (get_or rows i d).num
num_above last [] i d rise within = absurd (omega arith)
num_above last (row ∷ rows) zero d rise within = grind (arith, nat_tests)
num_above last (row ∷ rows) (suc i) d rise within =
    let first : last < row.num = grind (arith, nat_tests) in
    let rest : row.num < (get_or rows i d).num = num_above row.num rows i d (grind arith) (omega arith) in
    omega arith

-- numbers that rise do not fall
pub nums_rise : (last : ℕ) (rows : List Row) → rise_above last rows ≡ true → IsNonDecreasingBy (λ (row : Row). row.num) rows
nums_rise last [] rise i j d low within = absurd (omega arith)
nums_rise last (row ∷ rows) rise zero zero d low within = omega arith
nums_rise last (row ∷ rows) rise zero (suc j) d low within = let above : row.num < (get_or rows j d).num = num_above row.num rows j d (grind arith) (omega arith) in omega arith
nums_rise last (row ∷ rows) rise (suc i) zero d low within = absurd (omega arith)
nums_rise last (row ∷ rows) rise (suc i) (suc j) d low within = nums_rise row.num rows (grind arith) i j d (omega arith) (omega arith)

-- and neither do their blocks
pub blocks_rise : (rows : List Row) → rise_above 0 rows ≡ true → IsNonDecreasingBy (λ (row : Row). block_of row.num) rows
blocks_rise rows rise i j d low within = let nums : (get_or rows i d).num ≤ (get_or rows j d).num = nums_rise 0 rows rise i j d low within in omega arith

-- what was read at a place
got : {X : Type 0} (xs : List X) (i : ℕ) (y d : X) → Some y ≡ slice_get xs i → get_or xs i d ≡ y
got [] i y d read = cc
got (x ∷ xs) zero y d read = cc
got (x ∷ xs) (suc i) y d read = got xs i y d read

-- where each passes, the front that passes is the whole
all_pass : {X : Type 0} (p : X → Bool) (xs : List X) → ((i : ℕ) (d : X) → i < length xs → p (get_or xs i d) ≡ true) → prefix_len p xs ≡ length xs
all_pass p [] each = refl
all_pass p (x ∷ xs) each =
    let passes : p x ≡ true = each 0 x (omega arith) in
    let rest : prefix_len p xs ≡ length xs = all_pass p xs (λ i d within. each (suc i) d (omega arith)) in
    grind (arith, passes, rest)

-- so it is where the last passes and with it all that are no greater
pub last_decides : (key : Row → ℕ) (p : Row → Bool) (rows : List Row) (last : Row) → IsNonDecreasingBy key rows → Some last ≡ slice_get rows (length rows - 1) → ((row : Row) → key row ≤ key last → p row ≡ true) → prefix_len p rows ≡ length rows
last_decides key p rows last rise is below = all_pass p rows each
  where
    each : (i : ℕ) (d : Row) → i < length rows → p (get_or rows i d) ≡ true
    each i d within =
        let up : key (get_or rows i d) ≤ key (get_or rows (length rows - 1) d) = rise i (length rows - 1) d (omega arith) (omega arith) in
        let top : key (get_or rows (length rows - 1) d) ≡ key last = ap key (got rows (length rows - 1) last d is) in
        below (get_or rows i d) (omega arith)

-- the last tells whether each passes, where with it all do that are no greater
pub last_tells : (key : Row → ℕ) (p : Row → Bool) (rows : List Row) (last : Row) → IsNonDecreasingBy key rows → Some last ≡ slice_get rows (length rows - 1) → (p last ≡ true → (row : Row) → key row ≤ key last → p row ≡ true) → p last ≡ (prefix_len p rows == length rows)
last_tells key p rows last rise is below = by_last (p last) refl
  where
    by_whole : p last ≡ false → (whole : Bool) → (prefix_len p rows == length rows) ≡ whole → false ≡ whole
    by_whole fails false test = refl
    by_whole fails true test =
        let same : prefix_len p rows ≡ length rows = grind (arith, nat_tests) in
        let some : length rows - 1 < length rows = slice_get_within rows (length rows - 1) last (sym is) in
        let passes : p (get_or rows (length rows - 1) last) ≡ true = prefix_len_passes p rows (length rows - 1) last (omega arith) in
        let own : p (get_or rows (length rows - 1) last) ≡ p last = ap p (got rows (length rows - 1) last last is) in
        absurd (cc)

    by_last : (passes : Bool) → p last ≡ passes → passes ≡ (prefix_len p rows == length rows)
    by_last true passes = let whole : prefix_len p rows ≡ length rows = last_decides key p rows last rise is (below passes) in grind (arith, nat_tests)
    by_last false fails = by_whole fails (prefix_len p rows == length rows) refl

-- ---- the record of a number

-- how many records have lower numbers
abbrev pub place : ℕ → List Row → ℕ
place num rows = prefix_len (λ row. nat_lt row.num num) rows

row_at_low : (last num : ℕ) (rows : List Row) → rise_above last rows ≡ true → num ≤ last → row_at num rows ≡ None
row_at_low last num [] rise low = refl
row_at_low last num (row ∷ rows) rise low = grind (arith, nat_tests, row_at_low row.num num rows)

-- a record stands at the place of its number
pub row_at_place : (last num : ℕ) (rows : List Row) → rise_above last rows ≡ true → row_at num rows ≡ own num (slice_get rows (place num rows))
row_at_place last num [] rise = refl
row_at_place last num (row ∷ rows) rise = at_of (row_at_place row.num num rows (grind arith)) (nat_lt row.num num) refl
  where
    at_of : row_at num rows ≡ own num (slice_get rows (place num rows)) → (below : Bool) → nat_lt row.num num ≡ below → row_at num (row ∷ rows) ≡ own num (slice_get (row ∷ rows) (cond below (1 + place num rows) 0))
    at_of rest true is =
        let same : 1 + place num rows ≡ suc (place num rows) = omega arith in
        let other : (row.num == num) ≡ false = grind (arith, nat_tests) in
        rw (same, other) rest
    at_of rest false is = grind (arith, nat_tests, row_at_low row.num num rows)

-- ---- the edits at the place

-- a record of a number that none has is put in there
pub insert_place : (new : Row) (rows : List Row) → row_at new.num rows ≡ None → insert rows (place new.num rows) new ≡ with_row new rows
insert_place new [] free = refl
insert_place new (row ∷ rows) free = at_of (λ none. insert_place new rows none) (nat_lt row.num new.num) refl
  where
    at_of : (row_at new.num rows ≡ None → insert rows (place new.num rows) new ≡ with_row new rows) → (below : Bool) → nat_lt row.num new.num ≡ below → insert (row ∷ rows) (cond below (1 + place new.num rows) 0) new ≡ with_row new (row ∷ rows)
    at_of placed true is =
        let same : 1 + place new.num rows ≡ suc (place new.num rows) = omega arith in
        let above : nat_lt new.num row.num ≡ false = grind (arith, nat_tests) in
        let rest : row_at new.num rows ≡ None = grind (arith, nat_tests) in
        rw (same, above) (ap (λ xs. row ∷ xs) (placed rest))
    at_of placed false is = let above : nat_lt new.num row.num ≡ true = grind (arith, nat_tests) in rw above refl

-- what was read at the place is the record
pub read_own : (num : ℕ) (rows : List Row) (place' : ℕ) (row : Row) → rise_above 0 rows ≡ true → place' ≡ place num rows → Some row ≡ slice_get rows place' → row.num ≡ num → Some row ≡ row_at num rows
read_own num rows place' row rise at read same =
    let here : Some row ≡ slice_get rows (place num rows) = rw at at read in
    let test : (row.num == num) ≡ true = grind (arith, nat_tests) in
    let mine : own num (Some row) ≡ Some row = rw test refl in
    sym (row_at_place 0 num rows rise ∙ ap (own num) (sym here) ∙ mine)

pub read_other : (num : ℕ) (rows : List Row) (place' : ℕ) (row : Row) → rise_above 0 rows ≡ true → place' ≡ place num rows → Some row ≡ slice_get rows place' → row.num ≢ num → None ≡ row_at num rows
read_other num rows place' row rise at read other =
    let here : Some row ≡ slice_get rows (place num rows) = rw at at read in
    let test : (row.num == num) ≡ false = grind (arith, nat_tests) in
    let mine : own num (Some row) ≡ None = rw test refl in
    sym (row_at_place 0 num rows rise ∙ ap (own num) (sym here) ∙ mine)

pub read_none : (num : ℕ) (rows : List Row) (place' : ℕ) → rise_above 0 rows ≡ true → place' ≡ place num rows → None ≡ slice_get rows place' → None ≡ row_at num rows
read_none num rows place' rise at read =
    let here : None ≡ slice_get rows (place num rows) = rw at at read in
    sym (row_at_place 0 num rows rise ∙ ap (own num) (sym here))

-- another image stands there
pub set_place : (last num : ℕ) (image : List ℕ) (rows : List Row) → rise_above last rows ≡ true → is_some (own num (slice_get rows (place num rows))) ≡ true → slice_set rows (place num rows) (record { num = num; image = image }) ≡ with_image num image rows
set_place last num image [] rise stands = refl
set_place last num image (row ∷ rows) rise stands = at_of (λ there. set_place row.num num image rows (grind arith) there) (nat_lt row.num num) refl stands
  where
    at_of : (is_some (own num (slice_get rows (place num rows))) ≡ true → slice_set rows (place num rows) (record { num = num; image = image }) ≡ with_image num image rows) → (below : Bool) → nat_lt row.num num ≡ below → is_some (own num (slice_get (row ∷ rows) (cond below (1 + place num rows) 0))) ≡ true → slice_set (row ∷ rows) (cond below (1 + place num rows) 0) (record { num = num; image = image }) ≡ with_image num image (row ∷ rows)
    at_of placed true is stands =
        let same : 1 + place num rows ≡ suc (place num rows) = omega arith in
        let other : (row.num == num) ≡ false = grind (arith, nat_tests) in
        let rest : is_some (own num (slice_get rows (place num rows))) ≡ true = rw same at stands in
        rw (same, other) (ap (λ xs. row ∷ xs) (placed rest))
    at_of placed false is stands = let same : (row.num == num) ≡ true = grind (arith, nat_tests) in rw same refl

-- the record there goes
pub remove_place : (last num : ℕ) (rows : List Row) → rise_above last rows ≡ true → is_some (own num (slice_get rows (place num rows))) ≡ true → remove rows (place num rows) ≡ without_row num rows
remove_place last num [] rise stands = refl
remove_place last num (row ∷ rows) rise stands = at_of (λ there. remove_place row.num num rows (grind arith) there) (nat_lt row.num num) refl stands
  where
    at_of : (is_some (own num (slice_get rows (place num rows))) ≡ true → remove rows (place num rows) ≡ without_row num rows) → (below : Bool) → nat_lt row.num num ≡ below → is_some (own num (slice_get (row ∷ rows) (cond below (1 + place num rows) 0))) ≡ true → remove (row ∷ rows) (cond below (1 + place num rows) 0) ≡ without_row num (row ∷ rows)
    at_of placed true is stands =
        let same : 1 + place num rows ≡ suc (place num rows) = omega arith in
        let other : (row.num == num) ≡ false = grind (arith, nat_tests) in
        let rest : is_some (own num (slice_get rows (place num rows))) ≡ true = rw same at stands in
        rw (same, other) (ap (λ xs. row ∷ xs) (placed rest))
    at_of placed false is stands = let same : (row.num == num) ≡ true = grind (arith, nat_tests) in rw same refl

-- where no record has the number, neither edit changes anything
pub unplaced : (num : ℕ) (rows : List Row) → rise_above 0 rows ≡ true → is_some (own num (slice_get rows (place num rows))) ≡ false → row_at num rows ≡ None
unplaced num rows rise stands = none_of (row_at num rows) (own num (slice_get rows (place num rows))) (row_at_place 0 num rows rise) stands
  where
    none_of : (found there : Option Row) → found ≡ there → is_some there ≡ false → found ≡ None
    none_of found None same stands = same
    none_of found (Some row) same stands = grind arith

pub none-with_image : (num : ℕ) (image : List ℕ) (rows : List Row) → row_at num rows ≡ None → with_image num image rows ≡ rows
none-with_image num image [] none = refl
none-with_image num image (row ∷ rows) none = grind (arith, nat_tests, none-with_image num image rows)

pub none-without_row : (num : ℕ) (rows : List Row) → row_at num rows ≡ None → without_row num rows ≡ rows
none-without_row num [] none = refl
none-without_row num (row ∷ rows) none = grind (arith, nat_tests, none-without_row num rows)

-- the same of the place that was computed
pub set_there : (num : ℕ) (image : List ℕ) (rows : List Row) (there : ℕ) → rise_above 0 rows ≡ true → there ≡ place num rows → is_some (own num (slice_get rows there)) ≡ true → slice_set rows there (record { num = num; image = image }) ≡ with_image num image rows
set_there num image rows there rise at stands = rw at (set_place 0 num image rows rise (rw at at stands))

pub unset_there : (num : ℕ) (image : List ℕ) (rows : List Row) (there : ℕ) → rise_above 0 rows ≡ true → there ≡ place num rows → is_some (own num (slice_get rows there)) ≡ false → with_image num image rows ≡ rows
unset_there num image rows there rise at stands = none-with_image num image rows (unplaced num rows rise (rw at at stands))

pub remove_there : (num : ℕ) (rows : List Row) (there : ℕ) → rise_above 0 rows ≡ true → there ≡ place num rows → is_some (own num (slice_get rows there)) ≡ true → remove rows there ≡ without_row num rows
remove_there num rows there rise at stands = rw at (remove_place 0 num rows rise (rw at at stands))

pub unremoved_there : (num : ℕ) (rows : List Row) (there : ℕ) → rise_above 0 rows ≡ true → there ≡ place num rows → is_some (own num (slice_get rows there)) ≡ false → without_row num rows ≡ rows
unremoved_there num rows there rise at stands = none-without_row num rows (unplaced num rows rise (rw at at stands))

-- ---- the records of a block

-- above a block's records come none of it
none_behind : (last block : ℕ) (rows : List Row) → rise_above last rows ≡ true → block < block_of last → filter (λ row. block_of row.num == block) rows ≡ []
none_behind last block [] rise above = refl
none_behind last block (row ∷ rows) rise above =
    let higher : last < row.num = grind (arith, nat_tests) in
    let other : block < block_of row.num = omega arith in
    grind (arith, nat_tests, none_behind row.num block rows)

-- from a block on none stand in a lower one
none_before : (last block : ℕ) (rows : List Row) → rise_above last rows ≡ true → block ≤ block_of last → prefix_len (λ row. nat_lt (block_of row.num) block) rows ≡ 0
none_before last block [] rise above = refl
none_before last block (row ∷ rows) rise above =
    let higher : last < row.num = grind (arith, nat_tests) in
    let other : block ≤ block_of row.num = omega arith in
    grind (arith, nat_tests)

-- how many records stand in lower blocks, and in the block or lower ones
abbrev pub starts : ℕ → List Row → ℕ
starts block rows = prefix_len (λ row. nat_lt (block_of row.num) block) rows

abbrev pub ends : ℕ → List Row → ℕ
ends block rows = prefix_len (λ row. nat_le (block_of row.num) block) rows

pub starts_first : (block : ℕ) (rows : List Row) → starts block rows ≤ ends block rows
starts_first block [] = omega arith
starts_first block (row ∷ rows) = grind (arith, nat_tests, starts_first block rows)

-- the part between the two places has a block's records
pub block_part : (last block : ℕ) (rows : List Row) → rise_above last rows ≡ true → take (ends block rows - starts block rows) (drop (starts block rows) rows) ≡ filter (λ row. block_of row.num == block) rows
block_part last block [] rise = refl
block_part last block (row ∷ rows) rise = part_of (block_part row.num block rows (grind arith)) (nat_lt (block_of row.num) block) (nat_le (block_of row.num) block) refl refl
  where
    after : rise_above row.num rows ≡ true
    after = grind arith

    part_of : take (ends block rows - starts block rows) (drop (starts block rows) rows) ≡ filter (λ row. block_of row.num == block) rows → (below within : Bool) → nat_lt (block_of row.num) block ≡ below → nat_le (block_of row.num) block ≡ within → take (cond within (1 + ends block rows) 0 - cond below (1 + starts block rows) 0) (drop (cond below (1 + starts block rows) 0) (row ∷ rows)) ≡ filter (λ row. block_of row.num == block) (row ∷ rows)
    part_of part true true lt le =
        let other : (block_of row.num == block) ≡ false = grind (arith, nat_tests) in
        let least : 1 + starts block rows ≡ suc (starts block rows) = omega arith in
        let most : 1 + ends block rows - suc (starts block rows) ≡ ends block rows - starts block rows = omega arith in
        rw (least, most, other) part
    part_of part true false lt le = absurd (grind (arith, nat_tests))
    part_of part false true lt le =
        let same : (block_of row.num == block) ≡ true = grind (arith, nat_tests) in
        let low : block ≤ block_of row.num = grind (arith, nat_tests) in
        let none : starts block rows ≡ 0 = none_before row.num block rows after low in
        let rest : take (ends block rows) rows ≡ filter (λ row. block_of row.num == block) rows = rw sub-zero at (rw none at part) in
        let most : 1 + ends block rows - 0 ≡ suc (ends block rows) = omega arith in
        rw (most, same) (ap (λ xs. row ∷ xs) rest)
    part_of part false false lt le =
        let other : (block_of row.num == block) ≡ false = grind (arith, nat_tests) in
        let above : block < block_of row.num = grind (arith, nat_tests) in
        rw other (sym (none_behind row.num block rows after above))

-- exactly the records of lower blocks stand before a block's records
lower_first : (block j : ℕ) (rows : List Row) (d : Row) → rise_above 0 rows ≡ true → j < length rows → nat_lt (block_of (get_or rows j d).num) block ≡ nat_lt j (starts block rows)
lower_first block j rows d rise there = by_place (nat_lt j (starts block rows)) refl
  where
    by_place : (before : Bool) → nat_lt j (starts block rows) ≡ before → nat_lt (block_of (get_or rows j d).num) block ≡ before
    by_place true is = prefix_len_passes (λ (row : Row). nat_lt (block_of row.num) block) rows j d (grind (arith, nat_tests))
    by_place false is =
        let behind : starts block rows ≤ j = grind (arith, nat_tests) in
        let stops : nat_lt (block_of (get_or rows (starts block rows) d).num) block ≡ false = prefix_len_stops (λ (row : Row). nat_lt (block_of row.num) block) rows d (omega arith) in
        let up : block_of (get_or rows (starts block rows) d).num ≤ block_of (get_or rows j d).num = blocks_rise rows rise (starts block rows) j d behind there in
        grind (arith, nat_tests)

-- a block has as many records as stand between
part_length : (block : ℕ) (rows : List Row) → rise_above 0 rows ≡ true → length (filter (λ row. block_of row.num == block) rows) ≡ ends block rows - starts block rows
part_length block rows rise =
    let n = ends block rows - starts block rows in
    let part : length (take n (drop (starts block rows) rows)) ≡ length (filter (λ row. block_of row.num == block) rows) = ap length (block_part 0 block rows rise) in
    let most : ends block rows ≤ length rows = prefix_len-le-length (λ (row : Row). nat_le (block_of row.num) block) rows in
    let all : length (take n (drop (starts block rows) rows)) ≡ min n (length rows - starts block rows) = length-take n (drop (starts block rows) rows) ∙ ap (min n) (length-drop (starts block rows) rows) in
    omega arith

-- what stands before the place at which the last ones begin
few_between : (start end most : ℕ) → start ≤ end → most < end → nat_lt (end - most - 1) start ≡ nat_le (end - start) most
few_between start end most order more = by_test (nat_le (end - start) most) refl
  where
    by_test : (few : Bool) → nat_le (end - start) most ≡ few → nat_lt (end - most - 1) start ≡ few
    by_test true is = grind (arith, nat_tests)
    by_test false is = grind (arith, nat_tests)

pub few_before : (block end most : ℕ) (rows : List Row) → rise_above 0 rows ≡ true → end ≡ ends block rows → end ≤ most → true ≡ nat_le (length (filter (λ row. block_of row.num == block) rows)) most
few_before block end most rows rise is few = let part = part_length block rows rise in grind (arith, nat_tests)

-- whether a block has few records is told by the record that stands before so many up to its end
pub few_tells : (block end most : ℕ) (rows : List Row) (d : Row) → rise_above 0 rows ≡ true → end ≡ ends block rows → most < end → nat_lt (block_of (get_or rows (end - most - 1) d).num) block ≡ nat_le (length (filter (λ row. block_of row.num == block) rows)) most
few_tells block end most rows d rise is more =
    let all : ends block rows ≤ length rows = prefix_len-le-length (λ (row : Row). nat_le (block_of row.num) block) rows in
    lower_first block (end - most - 1) rows d rise (omega arith)
    ∙ few_between (starts block rows) end most (omega (arith, starts_first block rows)) more
    ∙ ap (λ (n : ℕ). nat_le n most) (ap (λ (n : ℕ). n - starts block rows) is ∙ sym (part_length block rows rise))
