use Rattle.std.proofs.Common.{◌≡◌, ◌∙◌, List, take, map, length, ap, subst, arith}
use Rattle.std.proofs.lemmas.List.{take_all, length-map}
use Rattle.ct_frames.specs.Pages.{PageImage, image_of, PlacesAll}
use Rattle.ct_frames.proofs.Replays.{PlacesAll-next, ArePages-places}
use Rattle.ct_frames.proofs.frames.Frames.replay_all.Goals as goal

pub loop-image-preserved : goal.loop-image-preserved
loop-image-preserved g c = record {
  device = c.in_ok-replay.ensures.device ∙ c.loop-image.invariant.device;
  placed = PlacesAll-next c.args.images.now c.loop-image.image-index _ c.args.self.now.table c.loop-image.self.table c.replay.new.self.table c.loop-image-test.true c.loop-image.invariant.placed c.in_ok-replay.ensures.ok;
}

pub returns-clause-pages : goal.returns-clause-pages
returns-clause-pages g c = λ base before are.
    let images : List PageImage = map image_of c.args.images.now in
    let all : take c.loop-image.image-index images ≡ images = take_all c.loop-image.image-index images (omega (arith, length-map c.args.images.now image_of, c.loop-image-test.false)) in
    ArePages-places base before images c.args.self.now.table c.loop-image.self.table are
    (subst (λ l. PlacesAll l c.args.self.now.table c.loop-image.self.table) all c.loop-image.invariant.placed)
