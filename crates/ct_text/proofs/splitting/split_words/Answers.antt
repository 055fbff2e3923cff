use Rattle.std.proofs.Common.{◌≡◌, ℕ, ◌-◌, true, List, [], ◌∷◌, length, refl, arith}
use Rattle.std.specs.Prelude.{◌==◌}
use Rattle.std.proofs.lemmas.Bool.Decides.{nat_tests}
use Rattle.std.proofs.lemmas.Result.{err_from_is_err_and}
use Rattle.ct_text.proofs.Lines.{starts, takes_more, split_fails, split_ends}
use Rattle.ct_text.proofs.splitting.split_words.Goals as goal

nothing_left : (rest : List ℕ) → true ≡ (length rest == 0) → rest ≡ []
nothing_left [] e = refl
nothing_left (b ∷ rest) e = absurd (grind (arith, nat_tests))

pub loop-rest-init : goal.loop-rest-init
loop-rest-init c = starts c.args.line.now c.past_spaces-rest.result.now c.new-words.result c.new-words.ensures c.past_spaces-rest.ensures

pub returns-in_err-bytes : goal.returns-in_err-bytes
returns-in_err-bytes c =
    let p = err_from_is_err_and c.from_residual.result c.from_residual.ensures.1 in
    rw (p.1, p.2) (split_fails c.args.line.now c.loop-rest.rest.now c.loop-rest.words (length c.args.line.now - length c.loop-rest.rest.now) c.in_err-bytes.field-0.0 c.loop-rest.invariant refl c.in_err-bytes.ensures.cause)

pub loop-rest-preserved : goal.loop-rest-preserved
loop-rest-preserved c =
    takes_more c.args.line.now c.loop-rest.rest.now c.split_at.result.1.now c.past_spaces-rest-in-loop-rest.result.now c.loop-rest.words c.push.new.self c.in_ok-bytes.bytes
    (length c.args.line.now - length c.loop-rest.rest.now) c.in_ok-bytes.len c.loop-rest.invariant c.in_ok-bytes.ensures.found refl c.split_at.ensures.back c.past_spaces-rest-in-loop-rest.ensures c.in_ok-push.ensures.ok

pub returns : goal.returns
returns c = split_ends c.args.line.now c.loop-rest.rest.now c.loop-rest.words c.loop-rest.invariant (nothing_left c.loop-rest.rest.now c.loop-rest-test.ensures)
