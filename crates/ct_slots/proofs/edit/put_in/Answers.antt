use Rattle.std.proofs.Common.{◌≡◌, ◌+◌, ◌-◌, ◌≤◌, List, ◌∷◌, ◌++◌, length, take, drop, ap, sym, ◌∙◌, arith}
use Rattle.std.proofs.lemmas.List.{take-append-drop, length-take-le}
use Rattle.ct_definitions.specs.declared.store.Row.{Row}
use Rattle.ct_slots.specs.Pages.{rows_on, shown_on, with_rows, images_len, rows_use}
use Rattle.ct_slots.proofs.Rows.{rows_use-is}
use Rattle.ct_slots.proofs.Decode.{made_page, made_shows}
use Rattle.ct_slots.proofs.Places.{few_rows, lowest}
use Rattle.ct_slots.proofs.Edits.{put_in_is, fits_with}
use Rattle.ct_slots.proofs.edit.put_in.Goals as goal

pub overflow_mul-entry : goal.overflow_mul-entry
overflow_mul-entry c = omega (arith, few_rows c.args.page.now c.requires.page, c.requires.place.within)

pub overflow_add-entry : goal.overflow_add-entry
overflow_add-entry c = omega (arith, few_rows c.args.page.now c.requires.page, c.requires.place.within)

pub overflow_mul-count : goal.overflow_mul-count
overflow_mul-count c = omega (arith, few_rows c.args.page.now c.requires.page)

pub overflow_add-count : goal.overflow_add-count
overflow_add-count c = omega (arith, few_rows c.args.page.now c.requires.page)

pub open_image-requires-clause-room : goal.open_image-requires-clause-room
open_image-requires-clause-room c =
    omega (arith, rows_use-is (rows_on c.args.page.now), lowest c.end_of-low.result c.count_of-count.result (rows_on c.args.page.now) c.end_of-low.ensures c.count_of-count.ensures, c.requires.room)

pub open_entry-requires-clause-within : goal.open_entry-requires-clause-within
open_entry-requires-clause-within c = omega (arith, rows_use-is (rows_on c.args.page.now), c.requires.room)

pub returns-clause-page : goal.returns-clause-page
returns-clause-page c =
    let page = c.args.page.now in
    let rows = rows_on page in
    let shown = shown_on page in
    let place = c.args.place in
    let a = take place rows in
    let b = drop place rows in
    let new : Row = record { num = c.args.num; image = c.args.image.now } in
    let split : shown.rows ≡ a ++ b = sym (take-append-drop place rows) in
    let room : length c.args.image.now + 8 + rows_use rows ≤ 3968 = c.requires.room in
    let fits = fits_with shown a b new c.requires.page.fits split c.requires.num c.requires.place.below c.requires.new room in
    let low : 4096 - images_len (a ++ b) ≡ c.end_of-low.result = ap (λ (r : List Row). 4096 - images_len r) (sym split) ∙ sym (lowest c.end_of-low.result c.count_of-count.result rows c.end_of-low.ensures c.count_of-count.ensures) in
    let is = put_in_is shown a b c.args.num c.args.image.now page c.open_image.new.page c.open_entry.new.page c.pack.new.page c.set_u16.new.page c.end_of-low.result c.end_of-end.result place c.count_of-count.result
    c.requires.page.fits c.requires.page.is split (length-take-le place rows c.requires.place.within) (ap length (sym split) ∙ sym c.count_of-count.ensures) (sym c.end_of-end.ensures) low room
    (record { first = c.open_image.ensures; second = c.open_entry.ensures; third = c.pack.ensures; fourth = c.set_u16.ensures }) in
    made_page c.set_u16.new.page (with_rows (a ++ new ∷ b) shown) fits is

pub returns-clause-shown : goal.returns-clause-shown
returns-clause-shown c =
    let page = c.args.page.now in
    let rows = rows_on page in
    let shown = shown_on page in
    let place = c.args.place in
    let a = take place rows in
    let b = drop place rows in
    let new : Row = record { num = c.args.num; image = c.args.image.now } in
    let split : shown.rows ≡ a ++ b = sym (take-append-drop place rows) in
    let room : length c.args.image.now + 8 + rows_use rows ≤ 3968 = c.requires.room in
    let fits = fits_with shown a b new c.requires.page.fits split c.requires.num c.requires.place.below c.requires.new room in
    let low : 4096 - images_len (a ++ b) ≡ c.end_of-low.result = ap (λ (r : List Row). 4096 - images_len r) (sym split) ∙ sym (lowest c.end_of-low.result c.count_of-count.result rows c.end_of-low.ensures c.count_of-count.ensures) in
    let is = put_in_is shown a b c.args.num c.args.image.now page c.open_image.new.page c.open_entry.new.page c.pack.new.page c.set_u16.new.page c.end_of-low.result c.end_of-end.result place c.count_of-count.result
    c.requires.page.fits c.requires.page.is split (length-take-le place rows c.requires.place.within) (ap length (sym split) ∙ sym c.count_of-count.ensures) (sym c.end_of-end.ensures) low room
    (record { first = c.open_image.ensures; second = c.open_entry.ensures; third = c.pack.ensures; fourth = c.set_u16.ensures }) in
    made_shows c.set_u16.new.page (with_rows (a ++ new ∷ b) shown) fits is
