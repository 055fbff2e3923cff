use Rattle.std.proofs.Common.{◌≡◌, ℕ, ◌+◌, ◌*◌, ◌%◌, ◌&&◌, true, false, eqb, ltb, length, Option, Some, List, ap, sym, subst, ◌∙◌}
use Rattle.std.specs.Prelude.{IfSome}
use Rattle.ct_definitions.specs.declared.store.Row.{Row}
use Rattle.ct_definitions.specs.Room.{image_at}
use Rattle.ct_page.specs.Fields.{u16_at}
use Rattle.ct_slots.specs.Pages.{RecordPage, rows_on, row_on}
use Rattle.ct_slots.proofs.Places.{absent, present, image_absent, image_present, row_on_page}
use Rattle.ct_slots.proofs.slots.Slots.get.Goals as goal

pub returns-then-not-is_at : goal.returns-then-not-is_at
returns-then-not-is_at c =
    let page = c.self.inside.page in
    let num = c.args.num % 128 in
    let place = c.place_of-place.result in
    let is_place = c.place_of-place.ensures in
    let test : (ltb place (length (rows_on page)) && eqb (u16_at (128 + 8 * place) page) num) ≡ false = cc in
    sym (image_absent page num place is_place (absent page num place c.self.invariant is_place test)) ∙ ap (λ (s : RecordPage). image_at num s.rows) c.self.view_is

pub returns : goal.returns
returns c =
    let page = c.self.inside.page in
    let num = c.args.num % 128 in
    let place = c.place_of-place.result in
    let is_place = c.place_of-place.ensures in
    let test : (ltb place (length (rows_on page)) && eqb (u16_at (128 + 8 * place) page) num) ≡ true = cc in
    let there = present page num place test in
    let P : Option Row → Type 0 = λ o. IfSome o (λ row. c.image_of.result.now ≡ row.image) in
    let same : c.image_of.result.now ≡ (row_on (128 + 8 * place) page).image = subst P (row_on_page page place there.within) c.image_of.ensures in
    ap (λ (l : List ℕ). Some l) same ∙ sym (image_present page num place is_place there) ∙ ap (λ (s : RecordPage). image_at num s.rows) c.self.view_is
