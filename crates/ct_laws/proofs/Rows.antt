-- What is found among the records after one more, another image, or one taken away.
use Rattle.std.proofs.Common.{ap, ◌∙◌, ◌≡◌, ◌≢◌, ℕ, ◌+◌, ◌<◌, ◌≤◌, Bool, true, ◌&&◌, List, [], ◌∷◌, Some, None, option_map, sum_by, refl, arith}
use Rattle.std.specs.List.{list_all}
use Rattle.std.proofs.lemmas.Bool.Decides.{nat_tests}
use Rattle.std.proofs.lemmas.List.Sums.{sum_by-cons}
use Rattle.ct_definitions.specs.declared.store.Row.{Row}
use Rattle.ct_definitions.specs.Room.{row_at, image_at}
use Rattle.ct_definitions.specs.Changes.{with_row, with_image, without_row}
use Rattle.ct_definitions.specs.Reached.{rise_above}

-- the record of a number has that number
pub num-row_at : (num : ℕ) (row : Row) (rows : List Row) → row_at num rows ≡ Some row → row.num ≡ num
num-row_at num row [] h = grind arith
num-row_at num row (x ∷ rows) h = grind (arith, nat_tests, num-row_at num row rows)

-- no record stands at or below where the numbers begin
pub row_at_none : (num last : ℕ) (rows : List Row) → rise_above last rows ≡ true → num ≤ last → row_at num rows ≡ None
row_at_none num last [] h k = refl
row_at_none num last (row ∷ rows) h k = grind (arith, nat_tests, row_at_none num row.num rows)

-- a test of each record is one of the record found
pub list_all-row_at : (p : Row → Bool) (num : ℕ) (row : Row) (rows : List Row) → list_all p rows ≡ true → row_at num rows ≡ Some row → p row ≡ true
list_all-row_at p num row [] h k = grind arith
list_all-row_at p num row (x ∷ rows) h k = grind (arith, nat_tests, list_all-row_at p num row rows)

-- ---- one more

pub row_at-with_row_same : (new : Row) (rows : List Row) → row_at new.num rows ≡ None → row_at new.num (with_row new rows) ≡ Some new
row_at-with_row_same new [] h = grind (arith, nat_tests)
row_at-with_row_same new (row ∷ rows) h = grind (arith, nat_tests, row_at-with_row_same new rows)

pub row_at-with_row_other : (num : ℕ) (new : Row) (rows : List Row) → num ≢ new.num → row_at num (with_row new rows) ≡ row_at num rows
row_at-with_row_other num new [] h = grind (arith, nat_tests)
row_at-with_row_other num new (row ∷ rows) h = grind (arith, nat_tests, row_at-with_row_other num new rows)

pub list_all-with_row : (p : Row → Bool) (new : Row) (rows : List Row) → list_all p (with_row new rows) ≡ (p new && list_all p rows)
list_all-with_row p new [] = refl
list_all-with_row p new (row ∷ rows) = grind (arith, nat_tests, list_all-with_row p new rows)

pub sum_by-with_row : (f : Row → ℕ) (new : Row) (rows : List Row) → sum_by f (with_row new rows) ≡ sum_by f rows + f new
sum_by-with_row f new [] = refl
sum_by-with_row f new (row ∷ rows) = grind (arith, nat_tests, sum_by-cons f new (row ∷ rows), sum_by-cons f row rows, sum_by-cons f row (with_row new rows), sum_by-with_row f new rows)

pub rise_above-with_row : (last : ℕ) (new : Row) (rows : List Row) → rise_above last rows ≡ true → last < new.num → row_at new.num rows ≡ None → rise_above last (with_row new rows) ≡ true
rise_above-with_row last new [] h k none = grind (arith, nat_tests)
rise_above-with_row last new (row ∷ rows) h k none = grind (arith, nat_tests, rise_above-with_row row.num new rows)

-- ---- another image

pub row_at-with_image_same : (num : ℕ) (image : List ℕ) (rows : List Row) → row_at num (with_image num image rows) ≡ option_map (λ row. record { num = num; image = image }) (row_at num rows)
row_at-with_image_same num image [] = refl
row_at-with_image_same num image (row ∷ rows) = grind (arith, nat_tests, row_at-with_image_same num image rows)

pub row_at-with_image_other : (at num : ℕ) (image : List ℕ) (rows : List Row) → at ≢ num → row_at at (with_image num image rows) ≡ row_at at rows
row_at-with_image_other at num image [] h = refl
row_at-with_image_other at num image (row ∷ rows) h = grind (arith, nat_tests, row_at-with_image_other at num image rows)

pub list_all-with_image : (p : Row → Bool) (num : ℕ) (image : List ℕ) (rows : List Row) → p (record { num = num; image = image }) ≡ true → list_all p rows ≡ true → list_all p (with_image num image rows) ≡ true
list_all-with_image p num image [] h k = refl
list_all-with_image p num image (row ∷ rows) h k = grind (arith, nat_tests, list_all-with_image p num image rows)

pub sum_by-with_image : (f : Row → ℕ) (num : ℕ) (image : List ℕ) (row : Row) (rows : List Row) → row_at num rows ≡ Some row → sum_by f (with_image num image rows) + f row ≡ sum_by f rows + f (record { num = num; image = image })
sum_by-with_image f num image row [] h = grind arith
sum_by-with_image f num image row (x ∷ rows) h = grind (arith, nat_tests, sum_by-cons, sum_by-with_image f num image row rows)

pub rise_above-with_image : (last num : ℕ) (image : List ℕ) (rows : List Row) → rise_above last (with_image num image rows) ≡ rise_above last rows
rise_above-with_image last num image [] = refl
rise_above-with_image last num image (row ∷ rows) = grind (arith, nat_tests, rise_above-with_image row.num num image rows)

-- ---- one taken away

pub row_at-without_row_same : (num last : ℕ) (rows : List Row) → rise_above last rows ≡ true → row_at num (without_row num rows) ≡ None
row_at-without_row_same num last [] h = refl
row_at-without_row_same num last (row ∷ rows) h = grind (arith, nat_tests, row_at_none num row.num rows, row_at-without_row_same num row.num rows)

pub row_at-without_row_other : (at num : ℕ) (rows : List Row) → at ≢ num → row_at at (without_row num rows) ≡ row_at at rows
row_at-without_row_other at num [] h = refl
row_at-without_row_other at num (row ∷ rows) h = grind (arith, nat_tests, row_at-without_row_other at num rows)

pub list_all-without_row : (p : Row → Bool) (num : ℕ) (rows : List Row) → list_all p rows ≡ true → list_all p (without_row num rows) ≡ true
list_all-without_row p num [] h = refl
list_all-without_row p num (row ∷ rows) h = grind (arith, nat_tests, list_all-without_row p num rows)

pub sum_by-without_row : (f : Row → ℕ) (num : ℕ) (row : Row) (rows : List Row) → row_at num rows ≡ Some row → sum_by f (without_row num rows) + f row ≡ sum_by f rows
sum_by-without_row f num row [] h = grind arith
sum_by-without_row f num row (x ∷ rows) h = grind (arith, nat_tests, sum_by-cons, sum_by-without_row f num row rows)

pub rise_above_lower : (low high : ℕ) (rows : List Row) → rise_above high rows ≡ true → low ≤ high → rise_above low rows ≡ true
rise_above_lower low high [] h k = refl
rise_above_lower low high (row ∷ rows) h k = grind (arith, nat_tests)

pub rise_above-without_row : (last num : ℕ) (rows : List Row) → rise_above last rows ≡ true → rise_above last (without_row num rows) ≡ true
rise_above-without_row last num [] h = refl
rise_above-without_row last num (row ∷ rows) h = grind (arith, nat_tests, rise_above_lower last row.num rows, rise_above-without_row row.num num rows)

-- ---- one change after another

pub without_row-with_row : (new : Row) (rows : List Row) → row_at new.num rows ≡ None → without_row new.num (with_row new rows) ≡ rows
without_row-with_row new [] h = grind (arith, nat_tests)
without_row-with_row new (row ∷ rows) h = grind (arith, nat_tests, without_row-with_row new rows)

with_row_first : (row : Row) (rows : List Row) → rise_above row.num rows ≡ true → with_row row rows ≡ row ∷ rows
with_row_first row [] h = refl
with_row_first row (x ∷ rows) h = grind (arith, nat_tests)

pub with_row-without_row : (last : ℕ) (row : Row) (rows : List Row) → rise_above last rows ≡ true → row_at row.num rows ≡ Some row → with_row row (without_row row.num rows) ≡ rows
with_row-without_row last row [] h k = grind arith
with_row-without_row last row (x ∷ rows) h k = grind (arith, nat_tests, with_row-without_row x.num row rows, with_row_first row rows, row_at_none row.num x.num rows)

pub with_image-with_image : (num : ℕ) (image : List ℕ) (row : Row) (rows : List Row) → row_at num rows ≡ Some row → with_image num row.image (with_image num image rows) ≡ rows
with_image-with_image num image row [] h = grind arith
with_image-with_image num image row (x ∷ rows) h = grind (arith, nat_tests, with_image-with_image num image row rows)

pub without_row-with_image : (num : ℕ) (image : List ℕ) (rows : List Row) → without_row num (with_image num image rows) ≡ without_row num rows
without_row-with_image num image [] = refl
without_row-with_image num image (row ∷ rows) = grind (arith, nat_tests, without_row-with_image num image rows)

-- ---- the same of images

pub image_at-with_row_same : (new : Row) (rows : List Row) → row_at new.num rows ≡ None → image_at new.num (with_row new rows) ≡ Some new.image
image_at-with_row_same new rows h = ap (option_map (λ (row : Row). row.image)) (row_at-with_row_same new rows h)

pub image_at-with_row_other : (num : ℕ) (new : Row) (rows : List Row) → num ≢ new.num → image_at num (with_row new rows) ≡ image_at num rows
image_at-with_row_other num new rows h = ap (option_map (λ (row : Row). row.image)) (row_at-with_row_other num new rows h)

pub image_at-with_image_same : (num : ℕ) (image : List ℕ) (row : Row) (rows : List Row) → row_at num rows ≡ Some row → image_at num (with_image num image rows) ≡ Some image
image_at-with_image_same num image row rows h =
    ap (option_map (λ (row : Row). row.image)) (row_at-with_image_same num image rows ∙ ap (option_map (λ (row : Row). record { num = num; image = image })) h)

pub image_at-with_image_other : (at num : ℕ) (image : List ℕ) (rows : List Row) → at ≢ num → image_at at (with_image num image rows) ≡ image_at at rows
image_at-with_image_other at num image rows h = ap (option_map (λ (row : Row). row.image)) (row_at-with_image_other at num image rows h)

pub image_at-without_row_same : (num last : ℕ) (rows : List Row) → rise_above last rows ≡ true → image_at num (without_row num rows) ≡ None
image_at-without_row_same num last rows h = ap (option_map (λ (row : Row). row.image)) (row_at-without_row_same num last rows h)

pub image_at-without_row_other : (at num : ℕ) (rows : List Row) → at ≢ num → image_at at (without_row num rows) ≡ image_at at rows
image_at-without_row_other at num rows h = ap (option_map (λ (row : Row). row.image)) (row_at-without_row_other at num rows h)
