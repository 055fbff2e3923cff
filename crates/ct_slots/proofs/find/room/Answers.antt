use Rattle.std.proofs.Common.{◌≡◌, take, ap, arith}
use Rattle.std.proofs.lemmas.List.{take_all}
use Rattle.ct_slots.specs.Pages.{images_len, rows_on}
use Rattle.ct_slots.proofs.Rows.{rows_use-is}
use Rattle.ct_slots.proofs.Places.{few_rows}
use Rattle.ct_slots.proofs.find.room.Goals as goal

pub overflow_mul-result : goal.overflow_mul-result
overflow_mul-result c = omega (arith, few_rows c.args.page.now c.requires)

pub overflow_add-result : goal.overflow_add-result
overflow_add-result c = omega (arith, few_rows c.args.page.now c.requires)

pub overflow_sub-result : goal.overflow_sub-result
overflow_sub-result c =
    let rows = rows_on c.args.page.now in
    let all : images_len (take c.count_of-count.result rows) ≡ images_len rows = ap images_len (take_all c.count_of-count.result rows (omega arith)) in
    omega (arith, rows_use-is rows, c.requires.fits.room)

pub returns : goal.returns
returns c =
    let rows = rows_on c.args.page.now in
    let all : images_len (take c.count_of-count.result rows) ≡ images_len rows = ap images_len (take_all c.count_of-count.result rows (omega arith)) in
    omega (arith, rows_use-is rows, c.requires.fits.room)
