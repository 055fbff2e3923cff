use native.Mathlib.Omega.{arith}
use Rattle.std.proofs.Common.{◌≡◌, ◌++◌, [], take, subst, ◌∙◌}
use Rattle.std.proofs.lemmas.List.{take_all}
use Rattle.ct_frames.specs.Pages.{ArePages}
use Rattle.ct_replay.specs.Images.{images_from}
use Rattle.ct_replay.proofs.Parts.{PlacesAll-next, ArePages-next}
use Rattle.ct_replay.proofs.replay.replay_groups.Goals as goal

pub loop-place-preserved : goal.loop-place-preserved
loop-place-preserved g c =
    let position = c.args.position in
    let groups = c.args.groups.now in
    let place = c.loop-place.place in
    let one = c.index-groups-place.result in
    let table = c.replay_group.new.frames.table in
    let done = images_from position (take place groups) in
    let replayed = c.in_ok-replay_group.ensures in
    record {
      device = replayed.device ∙ c.loop-place.invariant.device;
      placed = PlacesAll-next position groups place one c.args.frames.now.table table c.loop-place-test.true c.index-groups-place.is (replayed.placed c.args.frames.now.table done c.loop-place.invariant.placed);
      pages = λ base before are. ArePages-next base before position groups place one table c.loop-place-test.true c.index-groups-place.is (replayed.pages base (before ++ done) (c.loop-place.invariant.pages base before are));
    }

pub returns-clause-pages : goal.returns-clause-pages
returns-clause-pages g c = λ base are.
    let all : take c.loop-place.place c.args.groups.now ≡ c.args.groups.now = take_all c.loop-place.place c.args.groups.now (omega (arith, c.loop-place-test.false)) in
    subst (λ groups. ArePages base (images_from c.args.position groups) c.loop-place.frames.table) all (c.loop-place.invariant.pages base [] are)
