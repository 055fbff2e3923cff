use Rattle.std.proofs.Common.{◌≡◌, ◌+◌, ◌-◌, take, ap, ◌∙◌, arith}
use Rattle.ct_slots.specs.Pages.{images_len, rows_on}
use Rattle.ct_slots.proofs.Places.{few_rows, offset_at_place}
use Rattle.ct_slots.proofs.find.end_of.Goals as goal

pub offset_at-requires : goal.offset_at-requires
offset_at-requires c = omega (arith, few_rows c.args.page.now c.requires.page)

pub returns : goal.returns
returns c =
    let page = c.args.page.now in
    let same : c.args.place - 1 + 1 ≡ c.args.place = omega arith in
    c.offset_at.ensures ∙ offset_at_place page (c.args.place - 1) c.requires.page (omega arith) ∙ ap (λ n. 4096 - images_len (take n (rows_on page))) same
