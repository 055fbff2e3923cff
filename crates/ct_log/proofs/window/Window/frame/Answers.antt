use Rattle.std.proofs.Common.{◌≡◌, ◌+◌, ◌-◌, ◌^◌, ◌≤◌, ◌++◌, min, List, ℕ, length, take, drop, ap, ◌∙◌, arith}
use Rattle.ct_log.specs.Front.{zeros}
use Rattle.ct_log.specs.Reading.{log_bytes}
use Rattle.ct_log.proofs.ChunkReads.{length-log_from}
use Rattle.ct_log.proofs.Windows.{past_end, frame_seen}
use Rattle.ct_log.proofs.window.Window.frame.Goals as goal

pub returns-then-self-place-clause-frame : goal.returns-then-self-place-clause-frame
returns-then-self-place-clause-frame g c = λ tells.
    let device = c.args.device.now in
    past_end (g.L.Disk.content device) c.args.place c.args.self.now.end (g.L.Disk.size device) (g.met.L.Disk.sized device tells) c.requires.window.end c.if-self-place.true

pub returns-clause-frame : goal.returns-clause-frame
returns-clause-frame g c = λ tells.
    let window = c.cover.new.self in
    let content = g.L.Disk.content c.args.device.now in
    let now = g.L.Disk.content c.cover.new.device in
    let place = c.args.place in
    let covered = c.in_ok-cover.ensures.covered in
    let same : now ≡ content = (c.in_ok-cover.ensures.read tells).same in
    let room : length (drop place (log_bytes now)) ≡ min (length now) (2 ^ 62) - place = length-log_from now place in
    let enough : min 5 (length (drop place (log_bytes now))) ≤ length window.bytes - (place - window.place) =
    omega (arith, g.met.L.Disk.sized c.cover.new.device tells, c.in_ok-cover.ensures.window.end, c.in_ok-cover.ensures.end, c.min-to.ensures, covered.from, covered.up_to) in
    let within : place ≤ window.place + length window.bytes = omega (arith, c.if-self-place.false, c.min-to.ensures, covered.up_to) in
    c.frame_of.ensures ∙ ap (λ (l : List ℕ). take 5 (l ++ zeros 5)) c.seen_from.ensures
    ∙ frame_seen (log_bytes now) window.bytes window.place place covered.from within (c.in_ok-cover.ensures.window.bytes tells) enough
    ∙ ap (λ (l : List ℕ). take 5 (drop place (log_bytes l) ++ zeros 5)) same
