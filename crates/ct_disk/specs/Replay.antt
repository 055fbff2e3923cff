-- What a history made again stands for.
use Rattle.std.specs.Prelude.{◌≡◌, List, false}
use Rattle.ct_disk.specs.History.{Event, shown, stable, Leaves}
use Rattle.ct_disk.specs.declared.replay.Replay.{Replay}

-- these events were made again
pub record Replays (past : List Event) (replay : Replay) : Type 0 where
  pub whole : replay.whole.items ≡ shown past
  pub image : Leaves past replay.image.items
  pub still : replay.is_drawn ≡ false → replay.image.items ≡ stable past
