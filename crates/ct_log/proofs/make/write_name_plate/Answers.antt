use Rattle.std.proofs.Common.{◌≡◌, ◌+◌, ◌-◌, List, ℕ, ◌++◌, length, ap, ◌∙◌, arith, length-append}
use Rattle.ct_log.specs.Front.{zeros, signature, number_bytes}
use Rattle.ct_log.proofs.Fronts.{plate_of, length-zeros}
use Rattle.ct_log.proofs.make.write_name_plate.Goals as goal

pub returns-clause-written : goal.returns-clause-written
unfolding number_bytes
returns-clause-written g c = λ tells empty.
    let first = g.L.Disk.content c.write_behind.new.device in
    let second = g.L.Disk.content c.write_behind-2.new.device in
    let third = g.L.Disk.content c.pad.new.device in
    let one : first ≡ signature = c.in_ok-write_behind.ensures.written tells (ap length empty) ∙ ap (λ (l : List ℕ). l ++ signature) empty in
    let two : second ≡ first ++ c.args.id.now = c.in_ok-write_behind-2.ensures.written tells (ap length one) in
    let size : length second ≡ 12 + length c.args.id.now = ap length two ∙ length-append first c.args.id.now ∙ ap (λ n. n + length c.args.id.now) (ap length one) in
    let three : third ≡ second ++ zeros (28 - length second) = c.in_ok-pad.ensures.padded tells (omega arith) in
    let long : length third ≡ 28 = omega (arith, ap length three, length-append second (zeros (28 - length second)), length-zeros (28 - length second)) in
    let four = c.in_ok-write_behind-3.ensures.written tells long ∙ ap (λ (l : List ℕ). third ++ l) c.to_le_bytes.ensures in
    plate_of c.args.id.now c.args.base first second third (g.L.Disk.content c.write_behind-3.new.device) c.requires one two three four
