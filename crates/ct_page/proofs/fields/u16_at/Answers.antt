use Rattle.std.proofs.Common.{rules}
use Rattle.ct_page.specs.Fields.{u16_at}
use Rattle.ct_page.proofs.fields.u16_at.Goals as goal

pub returns : goal.returns
unfolding u16_at
returns c = search rules
