use Rattle.std.proofs.Common.{◌≡◌, ◌≤◌, ◌+◌, ◌-◌, ℕ, List, [], ◌∷◌, ◌++◌, length, ap, ◌∙◌, arith, length-append}
use Rattle.ct_log.specs.Front.{zeros}
use Rattle.ct_log.proofs.Fronts.{emptied, length-zeros}
use Rattle.ct_recover.proofs.Creations.{directory_of}
use Rattle.ct_recover.proofs.create.make_directory.Goals as goal

pub returns-clause-made : goal.returns-clause-made
returns-clause-made g c = λ tells.
    let content = g.P.Disk.content in
    let head = 1 ∷ 0 ∷ 255 ∷ 255 ∷ 255 ∷ 255 ∷ [] in
    let none : content c.cut.new.self ≡ [] = c.in_ok-cut.ensures.content tells ∙ emptied (content c.args.pages.now) in
    let first : content c.write_behind.new.device ≡ head = c.in_ok-write_behind.ensures.written tells (ap (λ (l : List ℕ). length l) none) ∙ ap (λ (l : List ℕ). l ++ head) none in
    let six : length (content c.write_behind.new.device) ≡ 6 = ap (λ (l : List ℕ). length l) first in
    let second = c.in_ok-pad.ensures.padded tells (omega (arith, six)) in
    let whole : length (content c.pad.new.device) ≡ 128 = ap (λ (l : List ℕ). length l) second
    ∙ omega (arith, six, length-append (content c.write_behind.new.device) (zeros (128 - length (content c.write_behind.new.device))), length-zeros (128 - length (content c.write_behind.new.device))) in
    let third = c.in_ok-write_behind-2.ensures.written tells whole in
    let more : length (content c.write_behind-2.new.device) ≡ 129 = ap (λ (l : List ℕ). length l) third ∙ omega (arith, whole, length-append (content c.pad.new.device) (1 ∷ [])) in
    let fourth = c.in_ok-pad-2.ensures.padded tells (omega (arith, more)) in
    c.sync.ensures.content tells
    ∙ directory_of (content c.write_behind.new.device) (content c.pad.new.device) (content c.write_behind-2.new.device) (content c.pad-2.new.device) first second third fourth
