use Rattle.std.proofs.Common.{rules}
use Rattle.ct_page.specs.Fields.{u64_at}
use Rattle.ct_page.proofs.fields.u64_at.Goals as goal

pub returns : goal.returns
unfolding u64_at
returns c = search rules
