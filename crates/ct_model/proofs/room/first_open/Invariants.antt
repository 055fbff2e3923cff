-- No number of the blocks so far is free.
use Rattle.ct_model.specs.Free.{AreFull}
use Rattle.ct_model.proofs.room.first_open.Given as goal

abbrev pub invariant-loop-block : goal.invariant-loop-block
invariant-loop-block l = AreFull l.block l.len l.rows
