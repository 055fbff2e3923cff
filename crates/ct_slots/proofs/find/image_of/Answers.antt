use Rattle.std.proofs.Common.{◌≡◌, ◌+◌, ◌*◌, take, drop, Option, ap, ◌∙◌, sym, subst, arith}
use Rattle.std.specs.Prelude.{IfSome}
use Rattle.ct_definitions.specs.declared.store.Row.{Row}
use Rattle.ct_page.specs.Fields.{u16_at}
use Rattle.ct_slots.proofs.Places.{few_rows, image_within, row_on_page}
use Rattle.ct_slots.proofs.find.image_of.Goals as goal

pub offset_at-offset-requires : goal.offset_at-offset-requires
offset_at-offset-requires c = omega (arith, few_rows c.args.page.now c.requires.page)

pub len_at-len-requires : goal.len_at-len-requires
len_at-len-requires c = omega (arith, few_rows c.args.page.now c.requires.page)

pub part-requires : goal.part-requires
part-requires c = omega (arith, image_within c.args.page.now c.args.place c.requires.page c.requires.within)

pub returns : goal.returns
returns c =
    let page = c.args.page.now in
    let place = c.args.place in
    let same = c.part.ensures ∙ ap (λ n. take c.len_at-len.result (drop n page)) c.offset_at-offset.ensures ∙ ap (λ n. take n (drop (u16_at (128 + 8 * place + 2) page) page)) c.len_at-len.ensures in
    let P : Option Row → Type 0 = λ o. IfSome o (λ row. c.part.result.now ≡ row.image) in
    subst P (sym (row_on_page page place c.requires.within)) same
