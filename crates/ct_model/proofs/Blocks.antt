-- The records of one block: what they use, and which numbers they have.
use Rattle.std.proofs.Common.{◌≡◌, ◌≢◌, ℕ, zero, suc, ◌+◌, ◌*◌, ◌-◌, ◌/◌, ◌<◌, ◌≤◌, ◌^◌, min, Bool, true, false, ◌&&◌, ◌==◌, nat_le, if◌then◌else◌, is_none, IfSome, IfNone, List, [], ◌∷◌, length, drop, drop-cons, get_or, filter, sum_by, Option, Some, None, refl, ap, sym, ◌∙◌, arith}
use Rattle.std.specs.List.{list_all}
use Rattle.std.proofs.Math.Nat.{div-mul-le_self, mul-le-mul_right, le-div_iff_mul-le}
use Rattle.std.proofs.lemmas.Bool.Decides.{nat_tests}
use Rattle.std.proofs.lemmas.List.Sums.{sum_by-cons}
use Rattle.ct_definitions.specs.declared.store.Row.{Row}
use Rattle.ct_definitions.specs.Room.{row_at, block_of, use_of, block_use, use_beside, has_room}
use Rattle.ct_definitions.specs.Reached.{rise_above}
use Rattle.ct_laws.proofs.Rows.{rise_above_lower, row_at_none}
use Rattle.ct_model.specs.Free.{IsFree, IsNotFree}
use Rattle.ct_model.proofs.FreeNumbers.{unused_free, is_free-used}

-- the records of a block
abbrev pub rows_of : ℕ → List Row → List Row
rows_of block rows = filter (λ row. block_of row.num == block) rows

-- what they use is what the block does
pub block_use_part : (block : ℕ) (rows : List Row) → sum_by (λ row. use_of row.image) (rows_of block rows) ≡ block_use block rows
block_use_part block [] = refl
block_use_part block (row ∷ rows) = grind (arith, nat_tests, sum_by-cons (λ (other : Row). use_of other.image) row (rows_of block rows), sum_by-cons (λ (other : Row). if block_of other.num == block then use_of other.image else 0) row rows, block_use_part block rows)

-- those beside a number are of its block
pub beside_part : (num : ℕ) (rows : List Row) → sum_by (use_beside num) (rows_of (block_of num) rows) ≡ sum_by (use_beside num) rows
beside_part num [] = refl
beside_part num (row ∷ rows) = grind (arith, nat_tests, sum_by-cons (use_beside num) row (rows_of (block_of num) rows), sum_by-cons (use_beside num) row rows, beside_part num rows)

-- a record of the block's number is one of them
pub row_at_part : (num block : ℕ) (rows : List Row) → block_of num ≡ block → row_at num (rows_of block rows) ≡ row_at num rows
row_at_part num block [] here = refl
row_at_part num block (row ∷ rows) here = grind (arith, nat_tests, row_at_part num block rows)

pub all_part : (block : ℕ) (rows : List Row) → list_all (λ row. block_of row.num == block) (rows_of block rows) ≡ true
all_part block [] = refl
all_part block (row ∷ rows) = grind (arith, all_part block rows)

pub rising_part : (last block : ℕ) (rows : List Row) → rise_above last rows ≡ true → rise_above last (rows_of block rows) ≡ true
rising_part last block [] rise = refl
rising_part last block (row ∷ rows) rise = grind (arith, nat_tests, rising_part row.num block rows, rise_above_lower last row.num (rows_of block rows))

-- they use at most as much as that many images of the greatest length
use_at_most : (num longest : ℕ) (rows : List Row) → list_all (λ row. nat_le (length row.image) longest) rows ≡ true → sum_by (use_beside num) rows ≤ length (rows_of (block_of num) rows) * (longest + 8)
use_at_most num longest [] short = omega arith
use_at_most num longest (row ∷ rows) short =
    let own : length row.image ≤ longest = grind (arith, nat_tests) in
    let rest : sum_by (use_beside num) rows ≤ length (rows_of (block_of num) rows) * (longest + 8) = use_at_most num longest rows (grind arith) in
    by_test own rest (block_of row.num == block_of num) (row.num == num) refl
  where
    by_test : length row.image ≤ longest → sum_by (use_beside num) rows ≤ length (rows_of (block_of num) rows) * (longest + 8) → (here same : Bool) → (block_of row.num == block_of num) ≡ here
        → sum_by (use_beside num) (row ∷ rows) ≤ length (rows_of (block_of num) (row ∷ rows)) * (longest + 8)
    by_test own rest true same is =
        let one : use_beside num row ≤ longest + 8 = grind (arith, nat_tests) in
        let more : length (rows_of (block_of num) (row ∷ rows)) ≡ suc (length (rows_of (block_of num) rows)) = grind arith in
        rw more (omega (arith, sum_by-cons (use_beside num) row rows, one, rest))
    by_test own rest false same is =
        let none : use_beside num row ≡ 0 = grind arith in
        let more : length (rows_of (block_of num) (row ∷ rows)) ≡ length (rows_of (block_of num) rows) = grind arith in
        rw more (omega (arith, sum_by-cons (use_beside num) row rows, none, rest))

-- a block has room for one image that can be stored
pub some_fit : (longest : ℕ) → longest ≤ 3840 → 1 ≤ 3968 / (longest + 8)
some_fit longest stored = (le-div_iff_mul-le (omega arith)).1 (omega arith)

-- where few enough stand beside an image, there is room for it
pub room_for_few : (num longest most : ℕ) (image : List ℕ) (rows : List Row) → list_all (λ row. nat_le (length row.image) longest) rows ≡ true → length image ≤ longest → longest ≤ 3840 → most ≡ 3968 / (longest + 8) - 1 → length (rows_of (block_of num) rows) ≤ most → true ≡ has_room num image rows
room_for_few num longest most image rows short own stored is few =
    let used : sum_by (use_beside num) rows ≤ length (rows_of (block_of num) rows) * (longest + 8) = use_at_most num longest rows short in
    let whole : 3968 / (longest + 8) ≡ suc most = omega (arith, some_fit longest stored, is) in
    let product : suc most * (longest + 8) ≤ 3968 = rw whole at (div-mul-le_self 3968 (longest + 8)) in
    let split : suc most * (longest + 8) ≡ (longest + 8) + most * (longest + 8) = more most (longest + 8) in
    let fewer : length (rows_of (block_of num) rows) * (longest + 8) ≤ most * (longest + 8) = mul-le-mul_right (longest + 8) few in
    let fits : length image + 8 + sum_by (use_beside num) rows ≤ 3968 = room (length image) (sum_by (use_beside num) rows) (length (rows_of (block_of num) rows) * (longest + 8)) (most * (longest + 8)) (suc most * (longest + 8)) own used fewer split product in
    grind (arith, nat_tests)
  where
    room : (len used some more whole : ℕ) → len ≤ longest → used ≤ some → some ≤ more → whole ≡ (longest + 8) + more → whole ≤ 3968 → len + 8 + used ≤ 3968
    room len used some more whole a b c d e = omega arith

    more : (count width : ℕ) → suc count * width ≡ width + count * width
    more count width = omega arith

-- a block has no more records than numbers
pub few_rows : (block last : ℕ) (rows : List Row) → rise_above last rows ≡ true → length (rows_of block rows) ≤ min 128 (block * 128 + 127 - last)
few_rows block last [] rise = omega arith
few_rows block last (row ∷ rows) rise =
    by_test (grind (arith, nat_tests)) (few_rows block row.num rows (grind arith)) (block_of row.num == block) refl
  where
    by_test : last < row.num → length (rows_of block rows) ≤ min 128 (block * 128 + 127 - row.num) → (here : Bool) → (block_of row.num == block) ≡ here
        → length (rows_of block (row ∷ rows)) ≤ min 128 (block * 128 + 127 - last)
    by_test above rest true is =
        let own : block_of row.num ≡ block = grind (arith, nat_tests) in
        let more : length (rows_of block (row ∷ rows)) ≡ suc (length (rows_of block rows)) = grind arith in
        rw more (omega (arith, own, above, rest))
    by_test above rest false is =
        let same : length (rows_of block (row ∷ rows)) ≡ length (rows_of block rows) = grind arith in
        rw same (omega (arith, above, rest))

-- so there is always room for a short image
pub room_for_short : (num longest : ℕ) (image : List ℕ) (rows : List Row) → rise_above 0 rows ≡ true → list_all (λ row. nat_le (length row.image) longest) rows ≡ true → length image ≤ longest → longest ≤ 22 → true ≡ has_room num image rows
room_for_short num longest image rows rise short own few =
    let used : sum_by (use_beside num) rows ≤ length (rows_of (block_of num) rows) * (longest + 8) = use_at_most num longest rows short in
    let count : length (rows_of (block_of num) rows) ≤ 128 = omega (arith, few_rows (block_of num) 0 rows rise) in
    let more : length (rows_of (block_of num) rows) * (longest + 8) ≤ 128 * (longest + 8) = mul-le-mul_right (longest + 8) count in
    let fits : length image + 8 + sum_by (use_beside num) rows ≤ 3968 = omega (arith, used, more, own, few) in
    grind (arith, nat_tests)

-- ---- the numbers that a block's records have

-- whether numbers rise from one on
abbrev pub rise_from : ℕ → List Row → Bool
rise_from next [] = true
rise_from next (row ∷ rows) = nat_le next row.num && rise_above row.num rows

-- records have the block's first numbers, and `rest` are those behind
pub record UsedTo (block place : ℕ) (rows rest : List Row) : Type 0 where
  pub low : 1 ≤ block * 128 + place
  pub few : place ≤ 128
  pub rising : rise_from (block * 128 + place) rest ≡ true
  pub within : list_all (λ row. block_of row.num == block) rest ≡ true
  pub used : (at : ℕ) → 1 ≤ at → block * 128 ≤ at → at < block * 128 + place → is_none (row_at at rows) ≡ false
  pub behind : (num : ℕ) → block * 128 + place ≤ num → row_at num rows ≡ row_at num rest

-- a record stands within its block
pub place_within : (block place : ℕ) (rows rest : List Row) (row : Row) → UsedTo block place rows (row ∷ rest) → block * 128 + place ≤ row.num × (row.num < block * 128 + 128)
place_within block place rows rest row used =
    let rising : rise_from (block * 128 + place) (row ∷ rest) ≡ true = used.rising in
    let within : list_all (λ (other : Row). block_of other.num == block) (row ∷ rest) ≡ true = used.within in
    let own : block_of row.num ≡ block = grind (arith, nat_tests) in
    (grind (arith, nat_tests), omega arith)

behind_row : (at : ℕ) (row : Row) (rest : List Row) → (row.num == at) ≡ false → row_at at (row ∷ rest) ≡ row_at at rest
behind_row at row rest other = rw other refl

pub read_within : (block place i : ℕ) (rows : List Row) (row : Row) → UsedTo block place rows (drop i rows) → i < length rows → row ≡ get_or rows i row → block * 128 + place ≤ row.num × (row.num < block * 128 + 128)
read_within block place i rows row used within is =
    let here : drop i rows ≡ row ∷ drop (suc i) rows = drop-cons rows i row within ∙ ap (λ (first : Row). first ∷ drop (suc i) rows) (sym is) in
    place_within block place rows (drop (suc i) rows) row (rw here at used)

-- a number below the next record is unused
gap_none : (next : ℕ) (row : Row) (rest : List Row) → rise_from next (row ∷ rest) ≡ true → row.num ≢ next → row_at next (row ∷ rest) ≡ None
gap_none next row rest rising other =
    let above : rise_above row.num rest ≡ true = grind arith in
    let low : next ≤ row.num = grind (arith, nat_tests) in
    let test : (row.num == next) ≡ false = grind (arith, nat_tests) in
    behind_row next row rest test ∙ row_at_none next row.num rest above low

pub gap_read : (block place i : ℕ) (rows : List Row) (row : Row) → UsedTo block place rows (drop i rows) → i < length rows → row ≡ get_or rows i row → row.num ≢ block * 128 + place → is_none (row_at (block * 128 + place) rows) ≡ true
gap_read block place i rows row used within is other =
    let here : drop i rows ≡ row ∷ drop (suc i) rows = drop-cons rows i row within ∙ ap (λ (first : Row). first ∷ drop (suc i) rows) (sym is) in
    let rising : rise_from (block * 128 + place) (row ∷ drop (suc i) rows) ≡ true = rw here at used.rising in
    ap is_none (used.behind (block * 128 + place) (omega arith) ∙ ap (row_at (block * 128 + place)) here ∙ gap_none (block * 128 + place) row (drop (suc i) rows) rising other)

drop_all : (rows : List Row) (i : ℕ) → length rows ≤ i → drop i rows ≡ []
drop_all [] zero past = refl
drop_all [] (suc i) past = refl
drop_all (row ∷ rows) zero past = absurd (omega arith)
drop_all (row ∷ rows) (suc i) past = drop_all rows i (omega arith)

-- ---- which numbers of a block are free

-- the numbers that a block's records have are not free
pub lowest_not_free : (found : Option ℕ) (block len : ℕ) (rows : List Row) → IfSome found (λ num. (lower : ℕ) → 1 ≤ lower → lower < num → block_of lower ≡ block → is_none (row_at lower (rows_of block rows)) ≡ false) → IfSome found (λ num. (lower : ℕ) → 1 ≤ lower → lower < num → block_of lower ≡ block → IsNotFree lower len rows)
lowest_not_free None block len rows used = tt
lowest_not_free (Some num) block len rows used = λ lower least below here image same. is_free-used lower image rows (ap is_none (sym (row_at_part lower block rows here)) ∙ used lower least below here)

pub none_not_free : (found : Option ℕ) (block len : ℕ) (rows : List Row) → IfNone found ((num : ℕ) → 1 ≤ num → block_of num ≡ block → is_none (row_at num (rows_of block rows)) ≡ false) → IfNone found ((num : ℕ) → 1 ≤ num → block_of num ≡ block → IsNotFree num len rows)
none_not_free None block len rows used = λ num least here image same. is_free-used num image rows (ap is_none (sym (row_at_part num block rows here)) ∙ used num least here)
none_not_free (Some num) block len rows used = tt

pub found_is_free : (found : Option ℕ) (block len used : ℕ) (rows : List Row) → used ≡ min (block_use block rows) (2 ^ 64 - 1) → len ≤ 3840 → used ≤ 3968 - 8 - len → IfSome found (λ num. 1 ≤ num × (block_of num ≡ block) × (is_none (row_at num (rows_of block rows)) ≡ true)) → IfSome found (λ num. 1 ≤ num × (block_of num ≡ block) × IsFree num len rows)
found_is_free None block len used rows is short room found = tt
found_is_free (Some num) block len used rows is short room found = (found.0, found.1, unused_free block len used rows is short room num found.1 (ap is_none (sym (row_at_part num block rows found.1)) ∙ found.2))

-- what a search in the block answers
pub gap_found : (block place i : ℕ) (rows : List Row) (row : Row) → UsedTo block place rows (drop i rows) → i < length rows → row ≡ get_or rows i row → row.num ≢ block * 128 + place → 1 ≤ block * 128 + place × (block_of (block * 128 + place) ≡ block) × (is_none (row_at (block * 128 + place) rows) ≡ true)
gap_found block place i rows row used within is other =
    let bounds = read_within block place i rows row used within is in
    (used.low, omega (arith, bounds.0, bounds.1), gap_read block place i rows row used within is other)

pub gap_lowest : (block place : ℕ) (rows rest : List Row) → UsedTo block place rows rest → (lower : ℕ) → 1 ≤ lower → lower < block * 128 + place → block_of lower ≡ block → is_none (row_at lower rows) ≡ false
gap_lowest block place rows rest used lower least below here = used.used lower least (omega arith) below
