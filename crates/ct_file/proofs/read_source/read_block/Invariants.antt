-- A read that was interrupted consumed nothing, and the block keeps its length.
use Rattle.std.proofs.Common.{◌≡◌, length}
use Rattle.std.specs.Io.KnownBytes.{Keeps}
use Rattle.ct_file.proofs.read_source.read_block.Given as goal

abbrev pub invariant-loop : goal.invariant-loop
invariant-loop g l =
    (length l.block ≡ length l.initial.block)
    × Keeps (g.R.Read.remaining l.initial.reader) (g.R.Read.remaining l.reader)
