use Rattle.std.proofs.Common.{◌≡◌, ℕ, true, Result, Ok, Err, IfOk, IfSome, refl}
use Rattle.std.specs.Str.{IsUtf8}
use Rattle.std.specs.Result.{result_ok}
use Rattle.std.proofs.lemmas.Fmt.{parse-decimal}
use Rattle.ct_text.specs.Numbers.{begins_as_number}
use Rattle.ct_text.proofs.Decimal.{begins-decimal, IsUtf8-decimal, parsed-decimal}
use Rattle.ct_text.proofs.numbers.read_number.Goals as goal

some_from_ok : {E : Type 0} (P : ℕ → Type 0) (r : Result ℕ E) → IfOk r P → IfSome (result_ok r) P
some_from_ok P (Ok n) h = h
some_from_ok P (Err e) h = tt

pub returns-then-not-begins_as_number-clause-only : goal.returns-then-not-begins_as_number-clause-only
returns-then-not-begins_as_number-clause-only c = λ number fits e.
    let begins : begins_as_number c.args.word.now ≡ true = rw e (begins-decimal number fits) in
    absurd cc

pub returns-in_default-clause-only : goal.returns-in_default-clause-only
returns-in_default-clause-only c = λ number fits e.
    let text : IsUtf8 c.args.word.now = rw e (IsUtf8-decimal number fits) in
    absurd (c.in_default.ensures.cases.0 text)

pub returns-clause-found : goal.returns-clause-found
returns-clause-found c =
    let begins : begins_as_number c.args.word.now ≡ true = cc in
    let parses = rw c.in-Ok.ensures.cases.0 at c.parse.ensures.value.0 in
    rw c.ok.ensures.value (some_from_ok _ c.parse.result (parsed-decimal c.args.word.now c.parse.result begins parses))

pub returns-clause-only : goal.returns-clause-only
returns-clause-only c = λ number fits e.
    let parses = rw c.in-Ok.ensures.cases.0 at c.parse.ensures.value.0 in
    let read = parse-decimal 64 number c.args.word.now c.parse.result fits fits e parses in
    rw (c.ok.ensures.value, read) refl
