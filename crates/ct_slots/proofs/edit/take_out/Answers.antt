use Rattle.std.proofs.Common.{◌≡◌, suc, ◌+◌, ◌-◌, ◌*◌, List, ◌∷◌, ◌++◌, length, take, drop, ap, sym, ◌∙◌, arith}
use Rattle.std.proofs.lemmas.List.{length-take-le}
use Rattle.ct_definitions.specs.declared.store.Row.{Row}
use Rattle.ct_slots.specs.Pages.{rows_on, row_on, shown_on, with_rows, images_len}
use Rattle.ct_slots.proofs.Rows.{rows_use-is}
use Rattle.ct_slots.proofs.Decode.{made_page, made_shows}
use Rattle.ct_slots.proofs.Places.{few_rows, lowest, split_at, row_on_page, entry_at_place, lens_at}
use Rattle.ct_slots.proofs.Edits.{take_out_is, fits_without}
use Rattle.ct_slots.proofs.edit.take_out.Goals as goal

pub overflow_mul-entry : goal.overflow_mul-entry
overflow_mul-entry c = omega (arith, few_rows c.args.page.now c.requires.page, c.requires.place)

pub overflow_add-entry : goal.overflow_add-entry
overflow_add-entry c = omega (arith, few_rows c.args.page.now c.requires.page, c.requires.place)

pub overflow_mul-count : goal.overflow_mul-count
overflow_mul-count c = omega (arith, few_rows c.args.page.now c.requires.page)

pub overflow_add-count : goal.overflow_add-count
overflow_add-count c = omega (arith, few_rows c.args.page.now c.requires.page)

pub overflow_cast-count : goal.overflow_cast-count
overflow_cast-count c = omega (arith, few_rows c.args.page.now c.requires.page)

pub len_at-len-requires : goal.len_at-len-requires
len_at-len-requires c = omega (arith, few_rows c.args.page.now c.requires.page, c.requires.place)

pub close_image-requires-clause-order : goal.close_image-requires-clause-order
close_image-requires-clause-order c =
    let page = c.args.page.now in
    let rows = rows_on page in
    let place = c.args.place in
    let lens = lens_at place rows (row_on (128 + 8 * place) page) (row_on_page page place c.requires.place) in
    let low = lowest c.end_of-low.result c.count_of-count.result rows c.end_of-low.ensures c.count_of-count.ensures in
    omega (arith, rows_use-is rows, c.requires.page.fits.room, (entry_at_place page place c.requires.page c.requires.place).len)

pub close_entry-requires-clause-within : goal.close_entry-requires-clause-within
close_entry-requires-clause-within c = omega (arith, few_rows c.args.page.now c.requires.page)

pub pack-requires-clause-within : goal.pack-requires-clause-within
pack-requires-clause-within c = omega (arith, few_rows c.args.page.now c.requires.page, c.requires.place)

pub returns-clause-page : goal.returns-clause-page
returns-clause-page c =
    let page = c.args.page.now in
    let rows = rows_on page in
    let shown = shown_on page in
    let place = c.args.place in
    let old = row_on (128 + 8 * place) page in
    let a = take place rows in
    let b = drop (suc place) rows in
    let there = row_on_page page place c.requires.place in
    let split : shown.rows ≡ a ++ old ∷ b = split_at place rows old there in
    let fits = fits_without shown a b old c.requires.page.fits split in
    let low : 4096 - images_len (a ++ old ∷ b) ≡ c.end_of-low.result = ap (λ (r : List Row). 4096 - images_len r) (sym split) ∙ sym (lowest c.end_of-low.result c.count_of-count.result rows c.end_of-low.ensures c.count_of-count.ensures) in
    let size : length old.image ≡ c.len_at-len.result = sym (c.len_at-len.ensures ∙ (entry_at_place page place c.requires.page c.requires.place).len) in
    let is = take_out_is shown a b old page c.close_image.new.page c.close_entry.new.page c.pack.new.page c.set_u16.new.page c.end_of-low.result c.end_of-end.result place c.count_of-count.result c.len_at-len.result
    c.requires.page.fits c.requires.page.is split (length-take-le place rows (omega (arith, c.requires.place))) (ap length (sym split) ∙ sym c.count_of-count.ensures) (sym c.end_of-end.ensures) low size
    (record { first = c.close_image.ensures; second = c.close_entry.ensures; third = c.pack.ensures; fourth = c.set_u16.ensures }) in
    made_page c.set_u16.new.page (with_rows (a ++ b) shown) fits is

pub returns-clause-shown : goal.returns-clause-shown
returns-clause-shown c =
    let page = c.args.page.now in
    let rows = rows_on page in
    let shown = shown_on page in
    let place = c.args.place in
    let old = row_on (128 + 8 * place) page in
    let a = take place rows in
    let b = drop (suc place) rows in
    let there = row_on_page page place c.requires.place in
    let split : shown.rows ≡ a ++ old ∷ b = split_at place rows old there in
    let fits = fits_without shown a b old c.requires.page.fits split in
    let low : 4096 - images_len (a ++ old ∷ b) ≡ c.end_of-low.result = ap (λ (r : List Row). 4096 - images_len r) (sym split) ∙ sym (lowest c.end_of-low.result c.count_of-count.result rows c.end_of-low.ensures c.count_of-count.ensures) in
    let size : length old.image ≡ c.len_at-len.result = sym (c.len_at-len.ensures ∙ (entry_at_place page place c.requires.page c.requires.place).len) in
    let is = take_out_is shown a b old page c.close_image.new.page c.close_entry.new.page c.pack.new.page c.set_u16.new.page c.end_of-low.result c.end_of-end.result place c.count_of-count.result c.len_at-len.result
    c.requires.page.fits c.requires.page.is split (length-take-le place rows (omega (arith, c.requires.place))) (ap length (sym split) ∙ sym c.count_of-count.ensures) (sym c.end_of-end.ensures) low size
    (record { first = c.close_image.ensures; second = c.close_entry.ensures; third = c.pack.ensures; fourth = c.set_u16.ensures }) in
    made_shows c.set_u16.new.page (with_rows (a ++ b) shown) fits is
