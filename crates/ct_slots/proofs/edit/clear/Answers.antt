use Rattle.std.proofs.Common.{◌≡◌, ◌+◌, ◌*◌, ◌&&◌, true, false, eqb, ltb, List, length, ap, sym, ◌∙◌}
use Rattle.ct_definitions.specs.declared.store.Row.{Row}
use Rattle.ct_page.specs.Fields.{u16_at}
use Rattle.ct_slots.specs.Pages.{rows_on, shown_on, with_rows}
use Rattle.ct_slots.proofs.Places.{absent, present, without_present, without_absent}
use Rattle.ct_slots.proofs.edit.clear.Goals as goal

pub returns-then-is_at-clause-shown : goal.returns-then-is_at-clause-shown
returns-then-is_at-clause-shown c =
    let page = c.args.page.now in
    let num = c.args.num in
    let place = c.place_of-place.result in
    let is_place = c.place_of-place.ensures in
    let test : (ltb place (length (rows_on page)) && eqb (u16_at (128 + 8 * place) page) num) ≡ true = cc in
    c.take_out.ensures.shown ∙ ap (λ (r : List Row). with_rows r (shown_on page)) (sym (without_present page num place is_place (present page num place test)))

pub returns-else-is_at-clause-shown : goal.returns-else-is_at-clause-shown
returns-else-is_at-clause-shown c =
    let page = c.args.page.now in
    let num = c.args.num in
    let place = c.place_of-place.result in
    let is_place = c.place_of-place.ensures in
    let test : (ltb place (length (rows_on page)) && eqb (u16_at (128 + 8 * place) page) num) ≡ false = cc in
    let none = absent page num place c.requires is_place test in
    ap (λ (r : List Row). with_rows r (shown_on page)) (sym (without_absent (rows_on page) num place is_place none))
