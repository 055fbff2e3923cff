use Rattle.std.proofs.Common.{◌≡◌, ℕ, suc, ◌+◌, ◌-◌, ◌*◌, ◌<◌, ◌≤◌, List, ◌∷◌, ◌++◌, length, take, drop, ap, sym, ◌∙◌, arith}
use Rattle.std.proofs.lemmas.List.{length-take-le}
use Rattle.ct_definitions.specs.declared.store.Row.{Row}
use Rattle.ct_slots.specs.Pages.{IsRecordPage, Fits, rows_on, row_on, shown_on, with_rows, images_len}
use Rattle.ct_page.specs.Fields.{u16_at}
use Rattle.ct_slots.proofs.Rows.{rows_use-is, rows_use-append, images_len-append, images_len-cons}
use Rattle.ct_slots.proofs.Decode.{made_page, made_shows}
use Rattle.ct_slots.proofs.Places.{few_rows, lowest, split_at, row_on_page, entry_at_place, lens_at}
use Rattle.ct_slots.proofs.Edits.{replace_is, fits_changed}
use Rattle.ct_slots.proofs.edit.replace.Goals as goal

pub overflow_mul-entry : goal.overflow_mul-entry
overflow_mul-entry c = omega (arith, few_rows c.args.page.now c.requires.page, c.requires.place)

pub overflow_add-entry : goal.overflow_add-entry
overflow_add-entry c = omega (arith, few_rows c.args.page.now c.requires.page, c.requires.place)

pub overflow_add-entry-2 : goal.overflow_add-entry-2
overflow_add-entry-2 c = omega (arith, few_rows c.args.page.now c.requires.page, c.requires.place)

pub len_at-len-requires : goal.len_at-len-requires
len_at-len-requires c = omega (arith, few_rows c.args.page.now c.requires.page, c.requires.place)

pub set_u16-requires : goal.set_u16-requires
set_u16-requires c = omega (arith, few_rows c.args.page.now c.requires.page, c.requires.place)

pub pack-requires-clause-within : goal.pack-requires-clause-within
pack-requires-clause-within c = omega (arith, few_rows c.args.page.now c.requires.page, c.requires.place)

-- the record that is changed, the images in front of it and behind it
record Around (page : List ℕ) (place low end len : ℕ) : Type 0 where
  fits : Fits (shown_on page)
  split : rows_on page ≡ take place (rows_on page) ++ row_on (128 + 8 * place) page ∷ drop (suc place) (rows_on page)
  begins : 4096 - images_len (take place (rows_on page) ++ row_on (128 + 8 * place) page ∷ drop (suc place) (rows_on page)) ≡ low
  size : length ((row_on (128 + 8 * place) page).image) ≡ len
  ordered : low + len ≤ end
  before : length (take place (rows_on page)) ≡ place
  free : images_len (rows_on page) + 8 * length (rows_on page) ≤ 3968

around : (page : List ℕ) (place count low end len : ℕ) → IsRecordPage page → place < length (rows_on page) → count ≡ length (rows_on page) → low ≡ 4096 - images_len (take count (rows_on page)) → end ≡ 4096 - images_len (take place (rows_on page)) → len ≡ u16_at (128 + 8 * place + 4) page → Around page place low end len
around page place count low end len is_page within counts lows ends lens =
    let rows = rows_on page in
    let there = row_on_page page place within in
    let split = split_at place rows (row_on (128 + 8 * place) page) there in
    let lowest_is = lowest low count rows lows counts in
    let size = sym (lens ∙ (entry_at_place page place is_page within).len) in
    record {
      fits = is_page.fits;
      split = split;
      begins = ap (λ (r : List Row). 4096 - images_len r) (sym split) ∙ sym lowest_is;
      size = size;
      ordered = omega (arith, rows_use-is rows, is_page.fits.room, lens_at place rows (row_on (128 + 8 * place) page) there);
      before = length-take-le place rows (omega arith);
      free = omega (arith, rows_use-is rows, is_page.fits.room);
    }

pub exchange_image-requires-clause-order : goal.exchange_image-requires-clause-order
exchange_image-requires-clause-order c =
    (around c.args.page.now c.args.place c.count_of-count.result c.end_of-low.result c.end_of-end.result c.len_at-len.result c.requires.page c.requires.place c.count_of-count.ensures c.end_of-low.ensures c.end_of-end.ensures c.len_at-len.ensures).ordered

pub exchange_image-requires-clause-room : goal.exchange_image-requires-clause-room
exchange_image-requires-clause-room c =
    let page = c.args.page.now in
    let rows = rows_on page in
    let place = c.args.place in
    let old = row_on (128 + 8 * place) page in
    let a = take place rows in
    let b = drop (suc place) rows in
    let r = around page place c.count_of-count.result c.end_of-low.result c.end_of-end.result c.len_at-len.result c.requires.page c.requires.place c.count_of-count.ensures c.end_of-low.ensures c.end_of-end.ensures c.len_at-len.ensures in
    omega (arith, c.requires.room, r.begins, r.size, rows_use-append a b, rows_use-is a, rows_use-is b, images_len-append a (old ∷ b), images_len-cons old b)

pub returns-clause-page : goal.returns-clause-page
returns-clause-page c =
    let page = c.args.page.now in
    let rows = rows_on page in
    let place = c.args.place in
    let old = row_on (128 + 8 * place) page in
    let a = take place rows in
    let b = drop (suc place) rows in
    let r = around page place c.count_of-count.result c.end_of-low.result c.end_of-end.result c.len_at-len.result c.requires.page c.requires.place c.count_of-count.ensures c.end_of-low.ensures c.end_of-end.ensures c.len_at-len.ensures in
    let is = replace_is (shown_on page) a b old c.args.image.now page c.exchange_image.new.page c.set_u16.new.page c.pack.new.page c.end_of-low.result c.end_of-end.result place c.count_of-count.result c.len_at-len.result
    r.fits c.requires.page.is r.split r.before (ap length (sym r.split) ∙ sym c.count_of-count.ensures) (sym c.end_of-end.ensures) r.begins r.size c.requires.room
    (record { first = c.exchange_image.ensures; second = c.set_u16.ensures; third = c.pack.ensures }) in
    made_page c.pack.new.page (with_rows (a ++ record { num = old.num; image = c.args.image.now } ∷ b) (shown_on page)) (fits_changed (shown_on page) a b old c.args.image.now r.fits r.split c.requires.room) is

pub returns-clause-shown : goal.returns-clause-shown
returns-clause-shown c =
    let page = c.args.page.now in
    let rows = rows_on page in
    let place = c.args.place in
    let old = row_on (128 + 8 * place) page in
    let a = take place rows in
    let b = drop (suc place) rows in
    let r = around page place c.count_of-count.result c.end_of-low.result c.end_of-end.result c.len_at-len.result c.requires.page c.requires.place c.count_of-count.ensures c.end_of-low.ensures c.end_of-end.ensures c.len_at-len.ensures in
    let is = replace_is (shown_on page) a b old c.args.image.now page c.exchange_image.new.page c.set_u16.new.page c.pack.new.page c.end_of-low.result c.end_of-end.result place c.count_of-count.result c.len_at-len.result
    r.fits c.requires.page.is r.split r.before (ap length (sym r.split) ∙ sym c.count_of-count.ensures) (sym c.end_of-end.ensures) r.begins r.size c.requires.room
    (record { first = c.exchange_image.ensures; second = c.set_u16.ensures; third = c.pack.ensures }) in
    made_shows c.pack.new.page (with_rows (a ++ record { num = old.num; image = c.args.image.now } ∷ b) (shown_on page)) (fits_changed (shown_on page) a b old c.args.image.now r.fits r.split c.requires.room) is
    ∙ ap (λ n. with_rows (a ++ record { num = n; image = c.args.image.now } ∷ b) (shown_on page)) c.requires.num
