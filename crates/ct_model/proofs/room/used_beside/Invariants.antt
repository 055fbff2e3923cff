-- The sum over the rows so far.
use Rattle.std.proofs.Common.{◌≡◌, ◌-◌, ◌^◌, sum_by, min, take}
use Rattle.ct_definitions.specs.Room.{use_beside}
use Rattle.ct_model.proofs.room.used_beside.Given as goal

abbrev pub invariant-loop-row : goal.invariant-loop-row
invariant-loop-row l = l.used ≡ min (sum_by (use_beside l.num) (take l.row-index l.beside)) (2 ^ 64 - 1)
