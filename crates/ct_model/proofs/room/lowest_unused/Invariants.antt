-- Records have the block's numbers so far, from 1 on.
use Rattle.std.proofs.Common.{◌≡◌, ◌*◌, drop}
use Rattle.ct_model.proofs.Blocks.{UsedTo}
use Rattle.ct_model.proofs.room.lowest_unused.Given as goal

abbrev pub invariant-loop-row : goal.invariant-loop-row
invariant-loop-row l = l.start ≡ l.block * 128 × UsedTo l.block l.place l.rows (drop l.row-index l.rows)
