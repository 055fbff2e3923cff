-- The sum over the rows so far.
use Rattle.std.proofs.Common.{◌≡◌, ◌-◌, ◌^◌, sum_by, min, take}
use Rattle.ct_definitions.specs.Room.{use_of}
use Rattle.ct_model.proofs.room.used_by.Given as goal

abbrev pub invariant-loop-row : goal.invariant-loop-row
invariant-loop-row l = l.used ≡ min (sum_by (λ row. use_of row.image) (take l.row-index l.rows)) (2 ^ 64 - 1)
