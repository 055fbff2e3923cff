use Rattle.std.proofs.Common.{◌≡◌, ◌-◌}
use Rattle.ct_codec.specs.Formats.{read_times}
use Rattle.ct_codec.proofs.Loops.{with_front}
use Rattle.ct_change_codec.specs.ChangeFormat.{change_codec}
use Rattle.ct_group.proofs.read.changes_of.Given as goal

abbrev pub invariant-loop : goal.invariant-loop
invariant-loop l = with_front l.changes (read_times change_codec (l.count - l.counter) l.rest) ≡ read_times change_codec l.count l.bytes
