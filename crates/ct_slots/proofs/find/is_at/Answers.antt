use Rattle.std.proofs.Common.{arith}
use Rattle.ct_slots.proofs.Places.{few_rows}
use Rattle.ct_slots.proofs.find.is_at.Goals as goal

pub num_at-requires : goal.num_at-requires
num_at-requires c = omega (arith, few_rows c.args.page.now c.requires)
