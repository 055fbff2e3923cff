-- The decimal text of a number: how it begins, and that it is read again.
use Rattle.std.proofs.Common.{◌≡◌, ℕ, zero, suc, ◌^◌, ◌<◌, true, List, [], ◌∷◌, length, get_or, Result, Ok, Err, IfOk, sym, ap, arith}
use Rattle.std.specs.Fmt.{decimal}
use Rattle.std.specs.Int.{IsInRange}
use Rattle.std.specs.Str.{IsUtf8}
use Rattle.std.specs.Str.Parse.{AllDigits, digits_value, ParsesUnsigned}
use Rattle.std.proofs.lemmas.Bool.Decides.{nat_tests}
use Rattle.std.proofs.lemmas.Fmt.{digits_decimal, decimal_nonempty, decimal_digit, first_decimal, decimal-digits_value, IsAscii-decimal}
use Rattle.std.proofs.lemmas.Str.{IsUtf8-from_ascii}
use Rattle.std.proofs.lemmas.Str.Parse.{IsNumeralModel, numerals_by_value, tells_digits, digit_at, parse_plain}
use Rattle.ct_text.specs.Numbers.{begins_as_number}

own : IsNumeralModel (AllDigits 10) (digits_value 10)
own = numerals_by_value (AllDigits 10) tells_digits

begins_from : (ds : List ℕ) → 0 < length ds → IsInRange 48 57 (get_or ds 0 0) → (get_or ds 0 0 ≡ 48 → length ds ≡ 1) → begins_as_number ds ≡ true
begins_from [] some range zero_alone = absurd (omega arith)
begins_from (d ∷ []) some range zero_alone = grind (arith, nat_tests)
begins_from (d ∷ e ∷ ds) some range zero_alone = grind (arith, nat_tests)

begins_back : (ds : List ℕ) → begins_as_number ds ≡ true → (0 < length ds) × IsInRange 48 57 (get_or ds 0 0) × (get_or ds 0 0 ≡ 48 → length ds ≡ 1)
begins_back [] b = absurd cc
begins_back (d ∷ []) b = grind (arith, nat_tests)
begins_back (d ∷ e ∷ ds) b = grind (arith, nat_tests)

zero_alone : (n : ℕ) → n < 2 ^ 64 → get_or (decimal n) 0 0 ≡ 48 → length (decimal n) ≡ 1
zero_alone zero h e = ap length (decimal_digit 0 (omega arith))
zero_alone (suc n) h e = absurd (omega (arith, first_decimal (suc n) (omega arith) h))

-- printed numbers begin as numbers
pub begins-decimal : (n : ℕ) → n < 2 ^ 64 → begins_as_number (decimal n) ≡ true
begins-decimal n h = begins_from (decimal n) (decimal_nonempty n h) (digit_at (decimal n) 0 (digits_decimal own n h) (decimal_nonempty n h)) (zero_alone n h)

-- printed numbers are text
pub IsUtf8-decimal : (n : ℕ) → n < 2 ^ 64 → IsUtf8 (decimal n)
IsUtf8-decimal n h = IsUtf8-from_ascii (decimal n) (IsAscii-decimal n h)

-- what begins as a number and is parsed as one is its printed text
pub parsed-decimal : {E : Type 0} (word : List ℕ) (r : Result ℕ E) → begins_as_number word ≡ true → ParsesUnsigned 64 10 word r → IfOk r (λ n. word ≡ decimal n)
parsed-decimal word (Err e) begins parses = tt
parsed-decimal {E} word (Ok n) begins parses =
    let b = begins_back word begins in
    let first : get_or word 0 0 ≡ 43 → ⊥ = λ e. omega (arith, b.1) in
    let p = parse_plain own {E = E} 64 word (Ok n) parses first in
    let value : n ≡ digits_value 10 word = p.1 in
    let text = decimal-digits_value own word p.0.0 p.0.1 b.2 p.0.2 in
    rw value (sym text)
