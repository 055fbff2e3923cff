use Rattle.std.proofs.Common.{◌%◌, arith}
use Rattle.ct_slots.proofs.tests.put.Goals as goal

pub set-requires : goal.set-requires
set-requires g c = omega (arith, c.room.ensures.beside (c.args.num % 128))
