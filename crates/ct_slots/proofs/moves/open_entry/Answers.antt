use Rattle.std.proofs.Common.{◌∙◌, refl, arith}
use Rattle.ct_slots.specs.Pages.{entry_bytes}
use Rattle.ct_slots.proofs.Cuts.{entry_over}
use Rattle.ct_slots.proofs.moves.open_entry.Goals as goal

pub returns : goal.returns
returns c =
    c.write_entry.ensures ∙ entry_over c.args.at c.args.end (entry_bytes c.args.num 0 c.args.len) c.args.page.now c.copy_within.new.self c.requires.order (omega arith) refl c.copy_within.ensures.after
