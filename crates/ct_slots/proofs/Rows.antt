-- Records by rising number: where one stands, with one more and without one.
use Rattle.std.proofs.Common.{◌≡◌, ℕ, zero, suc, ◌+◌, ◌*◌, ◌<◌, ◌≤◌, true, false, cond, ◌&&◌, nat_le, nat_lt, eqb, ltb, List, [], ◌∷◌, ◌++◌, length, drop, Some, None, refl, sym, ap, ◌∙◌, arith, zero-add}
use Rattle.std.specs.Prelude.{option_map}
use Rattle.std.proofs.lemmas.Bool.{le-ltb, lt-ltb, eq-eqb, ne_eqb}
use Rattle.std.proofs.lemmas.Bool.Decides.{nat_tests}
use Rattle.std.proofs.lemmas.List.Sums.{sum_by-cons}
use Rattle.ct_definitions.specs.declared.store.Row.{Row}
use Rattle.ct_definitions.specs.Changes.{with_row, without_row}
use Rattle.ct_definitions.specs.Room.{row_at, image_at, use_of}
use Rattle.ct_slots.specs.Pages.{images_len, rows_use, rise_from}
use Rattle.ct_slots.specs.Checks.{AllBelow, AllFrom}

-- one record and further ones
pub images_len-cons : (row : Row) (rows : List Row) → images_len (row ∷ rows) ≡ length row.image + images_len rows
images_len-cons row rows = sum_by-cons (λ (r : Row). length r.image) row rows

pub rows_use-cons : (row : Row) (rows : List Row) → rows_use (row ∷ rows) ≡ length row.image + 8 + rows_use rows
rows_use-cons row rows = sum_by-cons (λ (r : Row). use_of r.image) row rows

-- the use of records: 8 bytes for each, and their images
pub rows_use-is : (rows : List Row) → rows_use rows ≡ images_len rows + 8 * length rows
rows_use-is [] = refl
rows_use-is (row ∷ rows) = omega (arith, rows_use-is rows, images_len-cons row rows, rows_use-cons row rows)

pub images_len-append : (a b : List Row) → images_len (a ++ b) ≡ images_len a + images_len b
images_len-append [] b = sym (zero-add (images_len b))
images_len-append (row ∷ a) b = omega (arith, images_len-append a b, images_len-cons row a, images_len-cons row (a ++ b))

pub rows_use-append : (a b : List Row) → rows_use (a ++ b) ≡ rows_use a + rows_use b
rows_use-append [] b = sym (zero-add (rows_use b))
rows_use-append (row ∷ a) b = omega (arith, rows_use-append a b, rows_use-cons row a, rows_use-cons row (a ++ b))

-- the parts of a test of a record's number
pub record Rises (low : ℕ) (row : Row) (rows : List Row) : Type 0 where
  pub from : low ≤ row.num
  pub below : row.num < 128
  pub rest : rise_from (row.num + 1) rows ≡ true

pub rises : (low : ℕ) (row : Row) (rows : List Row) → rise_from low (row ∷ rows) ≡ true → Rises low row rows
rises low row rows up = record { from = grind (arith, nat_tests); below = grind (arith, nat_tests); rest = grind (arith, nat_tests) }

pub rise : (low : ℕ) (row : Row) (rows : List Row) → low ≤ row.num → row.num < 128 → rise_from (row.num + 1) rows ≡ true → rise_from low (row ∷ rows) ≡ true
rise low row rows from below rest = grind (arith, nat_tests)

-- from a lesser number they rise as well
pub rise_lower : (low lower : ℕ) (rows : List Row) → lower ≤ low → rise_from low rows ≡ true → rise_from lower rows ≡ true
rise_lower low lower [] less up = refl
rise_lower low lower (row ∷ rows) less up =
    let r = rises low row rows up in
    rise lower row rows (omega (arith, r.from)) r.below r.rest

-- from a number on is from a lesser one on
pub from_lower : (low lower : ℕ) (rows : List Row) → lower ≤ low → AllFrom low rows → AllFrom lower rows
from_lower low lower [] less all = tt
from_lower low lower (row ∷ rows) less all = (omega (arith, all.0), from_lower low lower rows less all.1)

-- all records from a number on have it or a greater one
pub all_from : (low : ℕ) (rows : List Row) → rise_from low rows ≡ true → AllFrom low rows
all_from low [] up = tt
all_from low (row ∷ rows) up =
    let r = rises low row rows up in
    (r.from, from_lower (row.num + 1) low rows (omega (arith, r.from)) (all_from (row.num + 1) rows r.rest))

-- records that rise from one number and are all from a greater one on rise from that
pub rise_higher : (low num : ℕ) (rows : List Row) → rise_from low rows ≡ true → AllFrom num rows → rise_from num rows ≡ true
rise_higher low num [] up all = refl
rise_higher low num (row ∷ rows) up all =
    let r = rises low row rows up in
    rise num row rows all.0 r.below r.rest

-- the records behind a place rise
pub rise_drop : (n low : ℕ) (rows : List Row) → rise_from low rows ≡ true → rise_from low (drop n rows) ≡ true
rise_drop zero low rows up = up
rise_drop (suc n) low [] up = refl
rise_drop (suc n) low (row ∷ rows) up =
    let r = rises low row rows up in
    rise_drop n low rows (rise_lower (row.num + 1) low rows (omega (arith, r.from)) r.rest)

-- with one more record between lesser and greater ones they rise
pub rise_with : (low : ℕ) (a : List Row) (new : Row) (b : List Row) → rise_from low (a ++ b) ≡ true → low ≤ new.num → new.num < 128 → AllBelow new.num a → AllFrom (new.num + 1) b → rise_from low (a ++ new ∷ b) ≡ true
rise_with low [] new b up from small below above = rise low new b from small (rise_higher low (new.num + 1) b up above)
rise_with low (row ∷ a) new b up from small below above =
    let r = rises low row (a ++ b) up in
    let less : row.num + 1 ≤ new.num = omega (arith, below.0) in
    rise low row (a ++ new ∷ b) r.from r.below (rise_with (row.num + 1) a new b r.rest less small below.1 above)

-- without one record they rise
pub rise_without : (low : ℕ) (a : List Row) (old : Row) (b : List Row) → rise_from low (a ++ old ∷ b) ≡ true → rise_from low (a ++ b) ≡ true
rise_without low [] old b up =
    let r = rises low old b up in
    rise_lower (old.num + 1) low b (omega (arith, r.from)) r.rest
rise_without low (row ∷ a) old b up =
    let r = rises low row (a ++ old ∷ b) up in
    rise low row (a ++ b) r.from r.below (rise_without (row.num + 1) a old b r.rest)

-- with another record of the same number they rise
pub rise_same : (low : ℕ) (a : List Row) (old new : Row) (b : List Row) → new.num ≡ old.num → rise_from low (a ++ old ∷ b) ≡ true → rise_from low (a ++ new ∷ b) ≡ true
rise_same low [] old new b same up = ap (λ n. nat_le low n && nat_lt n 128 && rise_from (n + 1) b) same ∙ up
rise_same low (row ∷ a) old new b same up =
    let r = rises low row (a ++ old ∷ b) up in
    rise low row (a ++ new ∷ b) r.from r.below (rise_same (row.num + 1) a old new b same r.rest)

-- one more record stands between the lesser ones and the greater ones
pub with_row-between : (a : List Row) (new : Row) (b : List Row) → AllBelow new.num a → AllFrom (new.num + 1) b → with_row new (a ++ b) ≡ a ++ new ∷ b
with_row-between [] new [] below above = refl
with_row-between [] new (row ∷ b) below above =
    let e : ltb new.num row.num ≡ true = lt-ltb new.num row.num (omega (arith, above.0)) in
    ap (λ t. cond t (new ∷ row ∷ b) (row ∷ with_row new b)) e
with_row-between (row ∷ a) new b below above =
    let e : ltb new.num row.num ≡ false = le-ltb new.num row.num (omega (arith, below.0)) in
    ap (λ t. cond t (new ∷ row ∷ (a ++ b)) (row ∷ with_row new (a ++ b))) e ∙ ap (λ (l : List Row). row ∷ l) (with_row-between a new b below.1 above)

-- a number that lesser and greater records leave out is not there
pub without_row-between : (num : ℕ) (a b : List Row) → AllBelow num a → AllFrom (num + 1) b → without_row num (a ++ b) ≡ a ++ b
without_row-between num [] [] below above = refl
without_row-between num [] (row ∷ b) below above =
    let e : eqb row.num num ≡ false = ne_eqb row.num num (λ same. omega (arith, above.0)) in
    ap (λ t. cond t b (row ∷ without_row num b)) e ∙ ap (λ (l : List Row). row ∷ l) (without_row-between num [] b tt above.1)
without_row-between num (row ∷ a) b below above =
    let e : eqb row.num num ≡ false = ne_eqb row.num num (λ same. omega (arith, below.0)) in
    ap (λ t. cond t (a ++ b) (row ∷ without_row num (a ++ b))) e ∙ ap (λ (l : List Row). row ∷ l) (without_row-between num a b below.1 above)

-- the record behind the lesser ones is taken out
pub without_row-at : (num : ℕ) (a : List Row) (old : Row) (b : List Row) → AllBelow num a → old.num ≡ num → without_row num (a ++ old ∷ b) ≡ a ++ b
without_row-at num [] old b below same =
    ap (λ t. cond t b (old ∷ without_row num b)) (eq-eqb old.num num same)
without_row-at num (row ∷ a) old b below same =
    let e : eqb row.num num ≡ false = ne_eqb row.num num (λ s. omega (arith, below.0)) in
    ap (λ t. cond t (a ++ old ∷ b) (row ∷ without_row num (a ++ old ∷ b))) e ∙ ap (λ (l : List Row). row ∷ l) (without_row-at num a old b below.1 same)

-- the image of a number that is left out
pub image_at-between : (num : ℕ) (a b : List Row) → AllBelow num a → AllFrom (num + 1) b → image_at num (a ++ b) ≡ None
image_at-between num [] [] below above = refl
image_at-between num [] (row ∷ b) below above =
    let e : eqb row.num num ≡ false = ne_eqb row.num num (λ same. omega (arith, above.0)) in
    ap (λ t. option_map (λ (r : Row). r.image) (cond t (Some row) (row_at num b))) e ∙ image_at-between num [] b tt above.1
image_at-between num (row ∷ a) b below above =
    let e : eqb row.num num ≡ false = ne_eqb row.num num (λ same. omega (arith, below.0)) in
    ap (λ t. option_map (λ (r : Row). r.image) (cond t (Some row) (row_at num (a ++ b)))) e ∙ image_at-between num a b below.1 above

-- the image of a number that is there
pub image_at-at : (num : ℕ) (a : List Row) (old : Row) (b : List Row) → AllBelow num a → old.num ≡ num → image_at num (a ++ old ∷ b) ≡ Some old.image
image_at-at num [] old b below same =
    ap (λ t. option_map (λ (r : Row). r.image) (cond t (Some old) (row_at num b))) (eq-eqb old.num num same)
image_at-at num (row ∷ a) old b below same =
    let e : eqb row.num num ≡ false = ne_eqb row.num num (λ s. omega (arith, below.0)) in
    ap (λ t. option_map (λ (r : Row). r.image) (cond t (Some row) (row_at num (a ++ old ∷ b)))) e ∙ image_at-at num a old b below.1 same
