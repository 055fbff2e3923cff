use Rattle.std.proofs.Common.{◌≡◌, ℕ, List, ◌++◌, take}
use Rattle.ct_frames.specs.Pages.{PageImage, ArePages, PlacesAll}
use Rattle.ct_replay.specs.Images.{images_from}
use Rattle.ct_replay.proofs.replay.replay_groups.Given as goal

abbrev pub invariant-loop-place : goal.invariant-loop-place
invariant-loop-place g l = record {
  device : l.frames.device ≡ l.initial.frames.device;
  placed : PlacesAll (images_from l.position (take l.place l.groups)) l.initial.frames.table l.frames.table;
  pages : (base : ℕ → List ℕ) (before : List PageImage) → ArePages base before l.initial.frames.table → ArePages base (before ++ images_from l.position (take l.place l.groups)) l.frames.table;
}
