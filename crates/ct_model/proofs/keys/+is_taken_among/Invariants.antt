use Rattle.std.proofs.Common.{length}
use Rattle.ct_model.proofs.keys.+is_taken_among.Given as goal

abbrev pub decreases-is_taken_among : goal.decreases-is_taken_among
decreases-is_taken_among l = length l.indexes.now
