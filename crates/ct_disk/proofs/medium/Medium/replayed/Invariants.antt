use Rattle.std.proofs.Common.{◌≡◌, [], take, not, eqb}
use Rattle.std.specs.List.{fold}
use Rattle.ct_disk.specs.History.{noted}
use Rattle.ct_disk.specs.Replay.{Replays}
use Rattle.ct_disk.proofs.medium.Medium.replayed.Given as goal

abbrev pub invariant-loop-entry : goal.invariant-loop-entry
invariant-loop-entry l = record {
  replays : Replays (fold noted [] (take l.entry-index l.entry-items)) l.replay;
  drawn : l.replay.is_drawn ≡ not (eqb l.pick 0);
}
