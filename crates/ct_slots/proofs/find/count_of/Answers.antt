use Rattle.std.proofs.Common.{sym, ◌∙◌}
use Rattle.ct_page.specs.Fields.{u16_at}
use Rattle.ct_slots.proofs.Places.{length-rows_from}
use Rattle.ct_slots.proofs.find.count_of.Goals as goal

pub returns : goal.returns
returns c = c.u16_at.ensures ∙ sym (length-rows_from (u16_at 6 c.args.page.now) 128 c.args.page.now)
