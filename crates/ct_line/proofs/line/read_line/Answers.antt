use Rattle.std.proofs.Common.{◌≡◌, ℕ, List, Err, ap, arith}
use Rattle.ct_line.specs.declared.line.LineFault.TheVariants.{Bad}
use Rattle.ct_text.specs.declared.word.Word.{Word}
use Rattle.ct_text.specs.Words.{HasWords, IsFirstFault}
use Rattle.ct_line.proofs.Places.{answers}
use Rattle.ct_line.proofs.SpelledLines.{spells, is_answered}
use Rattle.ct_line.proofs.BadLines.{unsplit, misfit}
use Rattle.ct_line.proofs.line.read_line.Goals as goal

pub returns-clause-exact : goal.returns-clause-exact
returns-clause-exact c =
    let has : HasWords 0 c.args.line.now c.as_slice-words.result.now = rw c.as_slice-words.ensures c.in-Ok.ensures.exact in
    answers c.args.line.now c.as_slice-words.result.now c.call_of.result (omega arith) has (rw (← c.place_of_missing.ensures) c.call_of.ensures)

pub returns-clause-spelled : goal.returns-clause-spelled
returns-clause-spelled c =
    let has : HasWords 0 c.args.line.now c.as_slice-words.result.now = rw c.as_slice-words.ensures c.in-Ok.ensures.exact in
    spells c.args.line.now c.as_slice-words.result.now c.call_of.result (omega arith) has (rw (← c.place_of_missing.ensures) c.call_of.ensures)

pub returns-clause-call : goal.returns-clause-call
returns-clause-call c =
    let only : (others : List Word) → HasWords 0 c.args.line.now others → c.as_slice-words.result.now ≡ others = (λ others has. let e = c.in-Ok.ensures.words others has in cc) in
    is_answered c.args.line.now c.as_slice-words.result.now c.call_of.result only (rw (← c.place_of_missing.ensures) c.call_of.ensures)

pub returns-in-Err-Bad-clause-place : goal.returns-in-Err-Bad-clause-place
returns-in-Err-Bad-clause-place c at bad =
    let same = unsplit c.args.line.now c.in-Err-Bad.field-0 c.in-Err-Bad.at at c.in-Err-Bad.field-0-is (omega arith) c.in-Err-Bad.ensures.words c.in-Err-Bad.ensures.fault bad in
    rw c.in-Err-Bad.at-is (ap (λ (n : ℕ). Err (Bad n)) same)

pub returns-clause-place : goal.returns-clause-place
returns-clause-place c =
    let only : (others : List Word) → HasWords 0 c.args.line.now others → c.as_slice-words.result.now ≡ others = (λ others has. let e = c.in-Ok.ensures.words others has in cc) in
    let no_fault : (other : ℕ) → IsFirstFault c.args.line.now other → ⊥ = (λ other fault. absurd (let e = c.in-Ok.ensures.fault other fault in cc)) in
    misfit c.args.line.now c.as_slice-words.result.now c.call_of.result (omega arith) only no_fault (rw (← c.place_of_missing.ensures) c.call_of.ensures)
