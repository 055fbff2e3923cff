use Rattle.std.proofs.Common.{◌≡◌, take, map}
use Rattle.ct_frames.specs.Pages.{image_of, PlacesAll}
use Rattle.ct_frames.proofs.frames.Frames.replay_all.Given as goal

abbrev pub invariant-loop-image : goal.invariant-loop-image
invariant-loop-image g l = record {
  device : l.self.device ≡ l.initial.self.device;
  placed : PlacesAll (take l.image-index (map image_of l.images)) l.initial.self.table l.self.table;
}
