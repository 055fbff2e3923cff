use Rattle.std.proofs.Common.{◌≡◌, ◌-◌}
use Rattle.ct_codec.specs.Formats.{read_times}
use Rattle.ct_codec.proofs.Loops.{with_front}
use Rattle.ct_group.specs.Groups.{unfinished_codec}
use Rattle.ct_group.proofs.read.unfinished_of.Given as goal

abbrev pub invariant-loop : goal.invariant-loop
invariant-loop l = with_front l.unfinished (read_times unfinished_codec (l.count - l.counter) l.rest) ≡ read_times unfinished_codec l.count l.bytes
