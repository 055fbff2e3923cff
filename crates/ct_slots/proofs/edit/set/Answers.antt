use Rattle.std.proofs.Common.{◌≡◌, suc, ◌+◌, ◌*◌, ◌&&◌, true, false, eqb, ltb, List, ◌++◌, length, take, drop, ap, sym, ◌∙◌, arith}
use Rattle.ct_definitions.specs.declared.store.Row.{Row}
use Rattle.ct_definitions.specs.Changes.{without_row}
use Rattle.ct_page.specs.Fields.{u16_at}
use Rattle.ct_slots.specs.Pages.{rows_on, shown_on, with_rows, rows_use}
use Rattle.ct_slots.proofs.Places.{HasPlace, absent, present, without_present, without_absent, shown_set, shown_replaced}
use Rattle.ct_slots.proofs.edit.set.Goals as goal

pub replace-requires-clause-place : goal.replace-requires-clause-place
replace-requires-clause-place c =
    let test : (ltb c.place_of-place.result (length (rows_on c.args.page.now)) && eqb (u16_at (128 + 8 * c.place_of-place.result) c.args.page.now) c.args.num) ≡ true = cc in
    (present c.args.page.now c.args.num c.place_of-place.result test).within

pub replace-requires-clause-num : goal.replace-requires-clause-num
replace-requires-clause-num c =
    let test : (ltb c.place_of-place.result (length (rows_on c.args.page.now)) && eqb (u16_at (128 + 8 * c.place_of-place.result) c.args.page.now) c.args.num) ≡ true = cc in
    (present c.args.page.now c.args.num c.place_of-place.result test).num

pub replace-requires-clause-room : goal.replace-requires-clause-room
replace-requires-clause-room c =
    let page = c.args.page.now in
    let place = c.place_of-place.result in
    let test : (ltb place (length (rows_on page)) && eqb (u16_at (128 + 8 * place) page) c.args.num) ≡ true = cc in
    let used : rows_use (without_row c.args.num (rows_on page)) ≡ rows_use (take place (rows_on page) ++ drop (suc place) (rows_on page)) = ap rows_use (without_present page c.args.num place c.place_of-place.ensures (present page c.args.num place test)) in
    omega (arith, c.requires.room)

pub put_in-requires-clause-new : goal.put_in-requires-clause-new
put_in-requires-clause-new c =
    let page = c.args.page.now in
    let place = c.place_of-place.result in
    let test : (ltb place (length (rows_on page)) && eqb (u16_at (128 + 8 * place) page) c.args.num) ≡ false = cc in
    absent page c.args.num place c.requires.page c.place_of-place.ensures test

pub put_in-requires-clause-room : goal.put_in-requires-clause-room
put_in-requires-clause-room c =
    let page = c.args.page.now in
    let place = c.place_of-place.result in
    let is_place = c.place_of-place.ensures in
    let test : (ltb place (length (rows_on page)) && eqb (u16_at (128 + 8 * place) page) c.args.num) ≡ false = cc in
    let none = absent page c.args.num place c.requires.page is_place test in
    let used : rows_use (without_row c.args.num (rows_on page)) ≡ rows_use (rows_on page) = ap rows_use (without_absent (rows_on page) c.args.num place is_place none) in
    omega (arith, c.requires.room)

pub returns-then-is_at-clause-shown : goal.returns-then-is_at-clause-shown
returns-then-is_at-clause-shown c =
    let page = c.args.page.now in
    let place = c.place_of-place.result in
    let test : (ltb place (length (rows_on page)) && eqb (u16_at (128 + 8 * place) page) c.args.num) ≡ true = cc in
    c.replace.ensures.shown ∙ sym (shown_replaced page c.args.num place c.args.image.now c.requires.page c.place_of-place.ensures (present page c.args.num place test))

pub returns-else-is_at-clause-shown : goal.returns-else-is_at-clause-shown
returns-else-is_at-clause-shown c =
    let page = c.args.page.now in
    let num = c.args.num in
    let place = c.place_of-place.result in
    let is_place = c.place_of-place.ensures in
    let test : (ltb place (length (rows_on page)) && eqb (u16_at (128 + 8 * place) page) num) ≡ false = cc in
    let none = absent page num place c.requires.page is_place test in
    let left : shown_on page ≡ with_rows (without_row num (rows_on page)) (shown_on page) = ap (λ (r : List Row). with_rows r (shown_on page)) (sym (without_absent (rows_on page) num place is_place none)) in
    let has : HasPlace num place (rows_on page) = record { is_place = is_place; above = none } in
    c.put_in.ensures.shown ∙ shown_set (shown_on page) (shown_on page) num place c.args.image.now left has
