-- Where numbers, entries and images stand on a record page.
use Rattle.std.proofs.Common.{◌≡◌, ◌≢◌, ℕ, zero, suc, ◌+◌, ◌-◌, ◌*◌, ◌<◌, ◌≤◌, Bool, true, false, ◌&&◌, eqb, ltb, List, [], ◌∷◌, ◌++◌, length, take, drop, Some, None, replicate, refl, sym, ap, ◌∙◌, arith}
use Rattle.std.specs.Prelude.{slice_get}
use Rattle.std.proofs.lemmas.Bool.{ltb-true, lt-ltb, eqb-true, eqb-false}
use Rattle.std.proofs.lemmas.List.{length-take-le, take-append-drop, drop_at, take_all}
use Rattle.ct_definitions.specs.declared.store.Row.{Row}
use Rattle.ct_definitions.specs.Room.{image_at}
use Rattle.ct_definitions.specs.Changes.{with_row, without_row}
use Rattle.ct_page.specs.Fields.{u16_at}
use Rattle.ct_slots.specs.Pages.{RecordPage, with_rows, with_slot, images_len, rows_use, rise_from, entries, images, row_on, rows_from, rows_on, shown_on, IsRecordPage}
use Rattle.ct_slots.specs.Checks.{AllBelow, AllFrom, IsPlace}
use Rattle.ct_slots.proofs.Rows.{rises, rows_use-is, images_len-cons, all_from, from_lower, rise_drop, images_len-append, image_at-between, image_at-at, with_row-between, without_row-between, without_row-at}
use Rattle.ct_slots.proofs.Decode.{reads, body_of, entries_on}

-- as many records as entries
pub length-rows_from : (n at : ℕ) (page : List ℕ) → length (rows_from at n page) ≡ n
unfolding rows_from
length-rows_from zero at page = refl
length-rows_from (suc n) at page = ap (λ k. suc k) (length-rows_from n (at + 8) page)

-- at most as many records as their entries have room
pub few_rows : (page : List ℕ) → IsRecordPage page → length (rows_on page) ≤ 496
few_rows page is_page = omega (arith, is_page.fits.room, rows_use-is (rows_on page))

-- the place of the next entry
next_place : (at k : ℕ) → at + 8 + 8 * k ≡ at + 8 * (suc k)
next_place at k = omega arith

-- the record at a place
pub row_at_place : (n k at : ℕ) (page : List ℕ) → k < n → slice_get (rows_from at n page) k ≡ Some (row_on (at + 8 * k) page)
unfolding rows_from
row_at_place zero k at page within = absurd (omega arith)
row_at_place (suc n) zero at page within = ap (λ p. Some (row_on p page)) (omega arith)
row_at_place (suc n) (suc k) at page within =
    row_at_place n k (at + 8) page (omega arith) ∙ ap (λ p. Some (row_on p page)) (next_place at k)

-- records in front of one, that one, and those behind it
pub split_at : (k : ℕ) (rows : List Row) (row : Row) → slice_get rows k ≡ Some row → rows ≡ take k rows ++ row ∷ drop (suc k) rows
split_at k [] row is = absurd cc
split_at zero (r ∷ rows) row is = let e : r ≡ row = cc in ap (λ (x : Row). x ∷ rows) e
split_at (suc k) (r ∷ rows) row is = ap (λ (l : List Row). r ∷ l) (split_at k rows row is)

-- the numbers of entries rise
pub nums_from : (n low at : ℕ) (page : List ℕ) → rise_from low (rows_from at n page) ≡ true → (k : ℕ) → k < n → low ≤ u16_at (at + 8 * k) page
unfolding rows_from
nums_from zero low at page up k within = absurd (omega arith)
nums_from (suc n) low at page up zero within =
    let r = rises low (row_on at page) (rows_from (at + 8) n page) up in
    let e : u16_at (at + 8 * 0) page ≡ u16_at at page = ap (λ p. u16_at p page) (omega arith) in
    omega (arith, r.from)
nums_from (suc n) low at page up (suc k) within =
    let r = rises low (row_on at page) (rows_from (at + 8) n page) up in
    let e : u16_at (at + 8 + 8 * k) page ≡ u16_at (at + 8 * suc k) page = ap (λ p. u16_at p page) (next_place at k) in
    omega (arith, r.from, nums_from n (u16_at at page + 1) (at + 8) page r.rest k (omega arith))

pub nums_sorted : (n low at : ℕ) (page : List ℕ) → rise_from low (rows_from at n page) ≡ true → (j k : ℕ) → j ≤ k → k < n → u16_at (at + 8 * j) page ≤ u16_at (at + 8 * k) page
unfolding rows_from
nums_sorted zero low at page up j k order within = absurd (omega arith)
nums_sorted (suc n) low at page up zero zero order within = omega arith
nums_sorted (suc n) low at page up zero (suc k) order within =
    let r = rises low (row_on at page) (rows_from (at + 8) n page) up in
    let first : u16_at (at + 8 * 0) page ≡ u16_at at page = ap (λ p. u16_at p page) (omega arith) in
    let e : u16_at (at + 8 + 8 * k) page ≡ u16_at (at + 8 * suc k) page = ap (λ p. u16_at p page) (next_place at k) in
    omega (arith, nums_from n (u16_at at page + 1) (at + 8) page r.rest k (omega arith))
nums_sorted (suc n) low at page up (suc j) zero order within = absurd (omega arith)
nums_sorted (suc n) low at page up (suc j) (suc k) order within =
    let r = rises low (row_on at page) (rows_from (at + 8) n page) up in
    let d : u16_at (at + 8 + 8 * j) page ≡ u16_at (at + 8 * suc j) page = ap (λ p. u16_at p page) (next_place at j) in
    let e : u16_at (at + 8 + 8 * k) page ≡ u16_at (at + 8 * suc k) page = ap (λ p. u16_at p page) (next_place at k) in
    omega (arith, nums_sorted n (u16_at at page + 1) (at + 8) page r.rest j k (omega arith) (omega arith))

pub sorted_on : (page : List ℕ) → IsRecordPage page → (j k : ℕ) → j ≤ k → k < length (rows_on page) → u16_at (128 + 8 * j) page ≤ u16_at (128 + 8 * k) page
sorted_on page is_page j k order within =
    nums_sorted (u16_at 6 page) 0 128 page is_page.fits.rising j k order (omega (arith, length-rows_from (u16_at 6 page) 128 page))

-- what lesser and greater numbers of entries say of the records
below_by_places : (n p num at : ℕ) (page : List ℕ) → p ≤ n → ((k : ℕ) → k < p → u16_at (at + 8 * k) page < num) → AllBelow num (take p (rows_from at n page))
unfolding rows_from
below_by_places n zero num at page within all = tt
below_by_places zero (suc p) num at page within all = absurd (omega arith)
below_by_places (suc n) (suc p) num at page within all =
    let first : u16_at (at + 8 * 0) page ≡ u16_at at page = ap (λ q. u16_at q page) (omega arith) in
    (omega (arith, all 0 (omega arith)), below_by_places n p num (at + 8) page (omega arith) (λ k less. let e : u16_at (at + 8 + 8 * k) page ≡ u16_at (at + 8 * suc k) page = ap (λ q. u16_at q page) (next_place at k) in omega (arith, all (suc k) (omega arith))))

from_by_places : (n p num at : ℕ) (page : List ℕ) → p ≤ n → ((k : ℕ) → p ≤ k → k < n → num ≤ u16_at (at + 8 * k) page) → AllFrom num (drop p (rows_from at n page))
unfolding rows_from
from_by_places zero zero num at page within all = tt
from_by_places zero (suc p) num at page within all = absurd (omega arith)
from_by_places (suc n) zero num at page within all =
    let first : u16_at (at + 8 * 0) page ≡ u16_at at page = ap (λ q. u16_at q page) (omega arith) in
    (omega (arith, all 0 (omega arith) (omega arith)), from_by_places n zero num (at + 8) page (omega arith) (λ k low less. let e : u16_at (at + 8 + 8 * k) page ≡ u16_at (at + 8 * suc k) page = ap (λ q. u16_at q page) (next_place at k) in omega (arith, all (suc k) (omega arith) (omega arith))))
from_by_places (suc n) (suc p) num at page within all =
    from_by_places n p num (at + 8) page (omega arith) (λ k low less. let e : u16_at (at + 8 + 8 * k) page ≡ u16_at (at + 8 * suc k) page = ap (λ q. u16_at q page) (next_place at k) in omega (arith, all (suc k) (omega arith) (omega arith)))

pub place_by_nums : (page : List ℕ) (num place : ℕ) → place ≤ length (rows_on page) → ((k : ℕ) → k < place → u16_at (128 + 8 * k) page < num) → ((k : ℕ) → place ≤ k → k < length (rows_on page) → num ≤ u16_at (128 + 8 * k) page) → IsPlace num place (rows_on page)
place_by_nums page num place within below from =
    let n = length-rows_from (u16_at 6 page) 128 page in
    record {
      within = within;
      below = below_by_places (u16_at 6 page) place num 128 page (omega arith) below;
      from = from_by_places (u16_at 6 page) place num 128 page (omega arith) (λ k low less. from k low (omega arith));
    }

-- the entry at a place, read from the entries of records
pub record IsEntryOf (at end : ℕ) (page : List ℕ) (k : ℕ) (row : Row) (rows : List Row) : Type 0 where
  pub num : u16_at (at + 8 * k) page ≡ row.num
  pub offset : u16_at (at + 8 * k + 2) page + images_len (take (suc k) rows) ≡ end
  pub len : u16_at (at + 8 * k + 4) page ≡ length row.image

pub entry_reads : (k low at end : ℕ) (rows : List Row) (row : Row) (page rest : List ℕ) → drop at page ≡ entries end rows ++ rest → slice_get rows k ≡ Some row → images_len rows ≤ end → end ≤ 4096 → rise_from low rows ≡ true → IsEntryOf at end page k row rows
unfolding entries
entry_reads k low at end [] row page rest entry is room small up = absurd cc
entry_reads zero low at end (r ∷ rows) row page rest entry is room small up =
    let e : r ≡ row = cc in
    let rise = rises low r rows up in
    let len = length r.image in
    let c = images_len-cons r rows in
    let told = reads at page r.num (end - len) len (entries (end - len) rows ++ rest) entry (omega (arith, rise.below)) (omega arith) (omega arith) in
    let p : at + 8 * 0 ≡ at = omega arith in
    record {
      num = ap (λ q. u16_at q page) p ∙ told.num ∙ ap (λ (x : Row). x.num) e;
      offset = (let o : u16_at (at + 8 * 0 + 2) page ≡ end - len = ap (λ q. u16_at (q + 2) page) p ∙ told.offset in omega (arith, images_len-cons r []));
      len = ap (λ q. u16_at (q + 4) page) p ∙ told.len ∙ ap (λ (x : Row). length x.image) e;
    }
entry_reads (suc k) low at end (r ∷ rows) row page rest entry is room small up =
    let rise = rises low r rows up in
    let len = length r.image in
    let c = images_len-cons r rows in
    let told = reads at page r.num (end - len) len (entries (end - len) rows ++ rest) entry (omega (arith, rise.below)) (omega arith) (omega arith) in
    let inner = entry_reads k (r.num + 1) (at + 8) (end - len) rows row page rest told.next is (omega arith) (omega arith) rise.rest in
    let p = next_place at k in
    record {
      num = sym (ap (λ q. u16_at q page) p) ∙ inner.num;
      offset = (let o : u16_at (at + 8 + 8 * k + 2) page ≡ u16_at (at + 8 * suc k + 2) page = ap (λ q. u16_at (q + 2) page) p in omega (arith, inner.offset, images_len-cons r (take (suc k) rows)));
      len = sym (ap (λ q. u16_at (q + 4) page) p) ∙ inner.len;
    }

-- the entries of a record page
pub entries_there : (page : List ℕ) → IsRecordPage page → drop 128 page ≡ entries 4096 (rows_on page) ++ (replicate (3968 - rows_use (rows_on page)) 0 ++ images (rows_on page))
unfolding body_of
entries_there page is_page = ap (drop 128) is_page.is ∙ entries_on (shown_on page)

pub entry_on : (page : List ℕ) (k : ℕ) (row : Row) → IsRecordPage page → slice_get (rows_on page) k ≡ Some row → IsEntryOf 128 4096 page k row (rows_on page)
entry_on page k row is_page is =
    entry_reads k 0 128 4096 (rows_on page) row page (replicate (3968 - rows_use (rows_on page)) 0 ++ images (rows_on page)) (entries_there page is_page) is (omega (arith, is_page.fits.room, rows_use-is (rows_on page))) (omega arith) is_page.fits.rising

-- the record at a place of a record page
pub row_on_page : (page : List ℕ) (k : ℕ) → k < length (rows_on page) → slice_get (rows_on page) k ≡ Some (row_on (128 + 8 * k) page)
row_on_page page k within = row_at_place (u16_at 6 page) k 128 page (omega (arith, length-rows_from (u16_at 6 page) 128 page))

pub entry_at_place : (page : List ℕ) (k : ℕ) → IsRecordPage page → k < length (rows_on page) → IsEntryOf 128 4096 page k (row_on (128 + 8 * k) page) (rows_on page)
entry_at_place page k is_page within = entry_on page k (row_on (128 + 8 * k) page) is_page (row_on_page page k within)

-- an image begins behind those of the records in front of it
pub offset_at_place : (page : List ℕ) (k : ℕ) → IsRecordPage page → k < length (rows_on page) → u16_at (128 + 8 * k + 2) page ≡ 4096 - images_len (take (k + 1) (rows_on page))
offset_at_place page k is_page within =
    let e = entry_at_place page k is_page within in
    let n : suc k ≡ k + 1 = omega arith in
    let t : images_len (take (suc k) (rows_on page)) ≡ images_len (take (k + 1) (rows_on page)) = ap (λ n. images_len (take n (rows_on page))) n in
    omega (arith, e.offset)

-- one image more
pub len_more : (k : ℕ) (rows : List Row) (row : Row) → slice_get rows k ≡ Some row → images_len (take (suc k) rows) ≡ images_len (take k rows) + length row.image
len_more k [] row is = absurd cc
len_more zero (r ∷ rows) row is = let e : r ≡ row = cc in let l = ap (λ (x : Row). length x.image) e in let c = images_len-cons r [] in omega arith
len_more (suc k) (r ∷ rows) row is =
    omega (arith, len_more k rows row is, images_len-cons r (take (suc k) rows), images_len-cons r (take k rows))

-- an image and those in front of it end within the page
pub image_within : (page : List ℕ) (k : ℕ) → IsRecordPage page → k < length (rows_on page) → u16_at (128 + 8 * k + 2) page + u16_at (128 + 8 * k + 4) page ≤ 4096
image_within page k is_page within =
    let row = row_on (128 + 8 * k) page in
    let e = entry_at_place page k is_page within in
    let s = split_at k (rows_on page) row (row_on_page page k within) in
    let more : images_len (take (suc k) (rows_on page)) ≡ images_len (take k (rows_on page)) + length row.image = len_more k (rows_on page) row (row_on_page page k within) in
    omega (arith, e.offset, e.len)

-- records from a number on, whose first has another number
above : (rows : List Row) (num : ℕ) → rise_from 0 rows ≡ true → AllFrom num rows → ((row : Row) → slice_get rows 0 ≡ Some row → row.num ≢ num) → AllFrom (num + 1) rows
above [] num up from other = tt
above (row ∷ rows) num up from other =
    let r = rises 0 row rows up in
    let apart : row.num ≢ num = other row refl in
    let greater : num + 1 ≤ row.num = omega (arith, from.0) in
    (greater, from_lower (row.num + 1) (num + 1) rows (omega arith) (all_from (row.num + 1) rows r.rest))

first_behind : (k : ℕ) (rows : List Row) → slice_get (drop k rows) 0 ≡ slice_get rows k
first_behind zero rows = refl
first_behind (suc k) [] = refl
first_behind (suc k) (row ∷ rows) = first_behind k rows

there_within : (k : ℕ) (rows : List Row) (row : Row) → slice_get rows k ≡ Some row → k < length rows
there_within k [] row is = absurd cc
there_within zero (r ∷ rows) row is = omega arith
there_within (suc k) (r ∷ rows) row is = omega (arith, there_within k rows row is)

first_true : (a b : Bool) → (a && b) ≡ true → a ≡ true
first_true true b e = refl
first_true false b e = absurd cc

second_true : (a b : Bool) → (a && b) ≡ true → b ≡ true
second_true true b e = e
second_true false b e = absurd cc

both_false : (a b : Bool) → a ≡ true → (a && b) ≡ false → b ≡ false
both_false true b is e = e
both_false false b is e = absurd cc

-- the number that was looked for is not there
pub absent : (page : List ℕ) (num place : ℕ) → IsRecordPage page → IsPlace num place (rows_on page) → (ltb place (length (rows_on page)) && eqb (u16_at (128 + 8 * place) page) num) ≡ false → AllFrom (num + 1) (drop place (rows_on page))
absent page num place is_page is_place test =
    let rows = rows_on page in
    above (drop place rows) num (rise_drop place 0 rows is_page.fits.rising) is_place.from (λ row first same.
    let there : slice_get rows place ≡ Some row = sym (first_behind place rows) ∙ first in
    let within : place < length rows = there_within place rows row there in
    let other = both_false (ltb place (length rows)) (eqb (u16_at (128 + 8 * place) page) num) (lt-ltb place (length rows) within) test in
    eqb-false (u16_at (128 + 8 * place) page) num other ((entry_on page place row is_page there).num ∙ same))

-- the record of the number that was looked for
pub record IsThere (page : List ℕ) (n place : ℕ) : Type 0 where
  pub within : place < length (rows_on page)
  pub num : u16_at (128 + 8 * place) page ≡ n
  pub split : rows_on page ≡ take place (rows_on page) ++ row_on (128 + 8 * place) page ∷ drop (suc place) (rows_on page)

pub present : (page : List ℕ) (num place : ℕ) → (ltb place (length (rows_on page)) && eqb (u16_at (128 + 8 * place) page) num) ≡ true → IsThere page num place
present page num place test =
    let within : place < length (rows_on page) = ltb-true place (length (rows_on page)) (first_true _ _ test) in
    record {
      within = within;
      num = eqb-true (u16_at (128 + 8 * place) page) num (second_true _ _ test);
      split = split_at place (rows_on page) (row_on (128 + 8 * place) page) (row_on_page page place within);
    }

-- the image of a number, found or not
pub image_absent : (page : List ℕ) (num place : ℕ) → IsPlace num place (rows_on page) → AllFrom (num + 1) (drop place (rows_on page)) → image_at num (rows_on page) ≡ None
image_absent page num place is_place above =
    ap (image_at num) (sym (take-append-drop place (rows_on page))) ∙ image_at-between num (take place (rows_on page)) (drop place (rows_on page)) is_place.below above

pub image_present : (page : List ℕ) (num place : ℕ) → IsPlace num place (rows_on page) → IsThere page num place → image_at num (rows_on page) ≡ Some ((row_on (128 + 8 * place) page).image)
image_present page num place is_place there =
    ap (image_at num) there.split ∙ image_at-at num (take place (rows_on page)) (row_on (128 + 8 * place) page) (drop (suc place) (rows_on page)) is_place.below there.num

-- where the images of all records begin
pub lowest : (low count : ℕ) (rows : List Row) → low ≡ 4096 - images_len (take count rows) → count ≡ length rows → low ≡ 4096 - images_len rows
lowest low count rows is counts = is ∙ ap (λ (r : List Row). 4096 - images_len r) (take_all count rows (omega arith))

-- the images in front of a record, its own, and those behind it
pub lens_at : (k : ℕ) (rows : List Row) (row : Row) → slice_get rows k ≡ Some row → images_len rows ≡ images_len (take k rows) + length row.image + images_len (drop (suc k) rows)
lens_at k rows row is =
    let s = ap images_len (split_at k rows row is) in
    omega (arith, images_len-append (take k rows) (row ∷ drop (suc k) rows), images_len-cons row (drop (suc k) rows))

-- the records without the one that was found
pub without_present : (page : List ℕ) (num place : ℕ) → IsPlace num place (rows_on page) → IsThere page num place → without_row num (rows_on page) ≡ take place (rows_on page) ++ drop (suc place) (rows_on page)
without_present page num place is_place there =
    ap (without_row num) there.split ∙ without_row-at num (take place (rows_on page)) (row_on (128 + 8 * place) page) (drop (suc place) (rows_on page)) is_place.below there.num

-- the records without one that is not there
pub without_absent : (rows : List Row) (num place : ℕ) → IsPlace num place rows → AllFrom (num + 1) (drop place rows) → without_row num rows ≡ rows
without_absent rows num place is_place above =
    ap (without_row num) (sym (take-append-drop place rows)) ∙ without_row-between num (take place rows) (drop place rows) is_place.below above ∙ take-append-drop place rows

-- the place of a number among the records that are left
pub record HasPlace (num place : ℕ) (rows : List Row) : Type 0 where
  pub is_place : IsPlace num place rows
  pub above : AllFrom (num + 1) (drop place rows)

-- the records behind the one that was found have greater numbers
above_there : (page : List ℕ) (num place : ℕ) → IsRecordPage page → IsPlace num place (rows_on page) → IsThere page num place → AllFrom (num + 1) (drop (suc place) (rows_on page))
above_there page num place is_page is_place there =
    let rows = rows_on page in
    let row = row_on (128 + 8 * place) page in
    let a = take place rows in
    let b = drop (suc place) rows in
    let up : rise_from 0 (a ++ row ∷ b) ≡ true = ap (rise_from 0) (sym there.split) ∙ is_page.fits.rising in
    let up_behind : rise_from 0 (row ∷ b) ≡ true = ap (rise_from 0) (sym (drop_at a (row ∷ b) place (length-take-le place rows is_place.within))) ∙ rise_drop place 0 (a ++ row ∷ b) up in
    let r = rises 0 row b up_behind in
    from_lower (row.num + 1) (num + 1) b (omega (arith, there.num)) (all_from (row.num + 1) b r.rest)

-- what is shown with one record more is what is shown with the image under its number
pub shown_set : (shown left : RecordPage) (num place : ℕ) (image : List ℕ) → left ≡ with_rows (without_row num shown.rows) shown → HasPlace num place left.rows → with_rows (take place left.rows ++ record { num = num; image = image } ∷ drop place left.rows) left ≡ with_rows (with_slot num image shown.rows) shown
shown_set shown left num place image is has =
    let new : Row = record { num = num; image = image } in
    let more : with_row new left.rows ≡ take place left.rows ++ new ∷ drop place left.rows = ap (with_row new) (sym (take-append-drop place left.rows)) ∙ with_row-between (take place left.rows) new (drop place left.rows) has.is_place.below has.above in
    ap (λ (r : List Row). with_rows r left) (sym more) ∙ ap (λ (s : RecordPage). with_rows (with_row new s.rows) s) is

-- what is shown with another image under a number that is there
pub shown_replaced : (page : List ℕ) (num place : ℕ) (image : List ℕ) → IsRecordPage page → IsPlace num place (rows_on page) → IsThere page num place → with_rows (with_slot num image (rows_on page)) (shown_on page) ≡ with_rows (take place (rows_on page) ++ record { num = num; image = image } ∷ drop (suc place) (rows_on page)) (shown_on page)
shown_replaced page num place image is_page is_place there =
    let rows = rows_on page in
    let row = row_on (128 + 8 * place) page in
    let new : Row = record { num = num; image = image } in
    let a = take place rows in
    let b = drop (suc place) rows in
    ap (λ (r : List Row). with_rows (with_row new r) (shown_on page)) (without_present page num place is_place there) ∙ ap (λ (r : List Row). with_rows r (shown_on page)) (with_row-between a new b is_place.below (above_there page num place is_page is_place there))
