use Rattle.std.proofs.Common.{◌-◌, length}
use Rattle.ct_recover.proofs.Replays.{IsReadUpTo}
use Rattle.ct_recover.proofs.replay.Replay.replay_groups.Given as goal

abbrev pub invariant-loop-at : goal.invariant-loop-at
invariant-loop-at l = IsReadUpTo l.groups l.at l.initial.self l.self

abbrev pub decreases-loop-at : goal.decreases-loop-at
decreases-loop-at l = length l.groups - l.at
