-- A word is a number exactly where it is the decimal text of one below 2 ^ 64.
use Rattle.std.proofs.Common.{◌≡◌, ℕ, ◌^◌, ◌<◌, Bool, true, false, cond, List, [], ◌∷◌, length, get_or, Some, None, refl, sym, arith}
use Rattle.std.specs.Prelude.{nat_lt, ◌&&◌}
use Rattle.std.specs.Fmt.{decimal}
use Rattle.std.specs.Str.{all_ascii_digits}
use Rattle.std.specs.Str.Parse.{digits_value}
use Rattle.std.proofs.lemmas.Bool.Decides.{nat_tests}
use Rattle.std.proofs.lemmas.Fmt.{digits_decimal, digits_value-decimal, decimal-digits_value}
use Rattle.std.proofs.lemmas.Str.Parse.{IsNumeralModel, numerals_by_value, tells_all_ascii_digits}
use Rattle.ct_text.specs.Numbers.{begins_as_number}
use Rattle.ct_text.proofs.Decimal.{begins-decimal}
use Rattle.ct_line.specs.Table.{number_of}

abbrev AreDigits : List ℕ → Type 0
AreDigits word = all_ascii_digits word ≡ true

own : IsNumeralModel AreDigits (digits_value 10)
own = numerals_by_value AreDigits tells_all_ascii_digits

begins_back : (ds : List ℕ) → begins_as_number ds ≡ true → (0 < length ds) × (get_or ds 0 0 ≡ 48 → length ds ≡ 1)
begins_back [] b = absurd cc
begins_back (d ∷ []) b = grind (arith, nat_tests)
begins_back (d ∷ e ∷ ds) b = grind (arith, nat_tests)

small : (n : ℕ) → n < 2 ^ 64 → nat_lt n (2 ^ 64) ≡ true
small n h = grind (arith, nat_tests)

small_back : (n : ℕ) → nat_lt n (2 ^ 64) ≡ true → n < 2 ^ 64
small_back n h = grind (arith, nat_tests)

-- the text of a number is that number
pub number-decimal : (n : ℕ) (word : List ℕ) → n < 2 ^ 64 → word ≡ decimal n → Some n ≡ number_of word
number-decimal n word h e =
    let digits : all_ascii_digits (decimal n) ≡ true = digits_decimal own n h in
    rw (e, begins-decimal n h, digits, digits_value-decimal own n h, small n h) refl

unless_all : (b d t : Bool) (n : ℕ) → (b ≡ true → d ≡ true → t ≡ true → ⊥) → None ≡ cond (b && (d && t)) (Some n) None
unless_all true true true n no_number = absurd (no_number refl refl refl)
unless_all true true false n no_number = refl
unless_all true false t n no_number = refl
unless_all false d t n no_number = refl

-- a word that is no number's text is none
pub number-none : (word : List ℕ) → ((n : ℕ) → n < 2 ^ 64 → word ≡ decimal n → ⊥) → None ≡ number_of word
number-none word no_number =
    unless_all (begins_as_number word) (all_ascii_digits word) (nat_lt (digits_value 10 word) (2 ^ 64)) (digits_value 10 word)
    (λ begins digits fits.
    (let b = begins_back word begins in
    let below = small_back (digits_value 10 word) fits in
    no_number (digits_value 10 word) below (sym (decimal-digits_value own word digits b.0 b.1 below))))

if_all : (b d t : Bool) (v n : ℕ) → cond (b && (d && t)) (Some v) None ≡ Some n → (b ≡ true) × (d ≡ true) × (t ≡ true) × (v ≡ n)
if_all true true true v n e = (refl, refl, refl, cc)
if_all true true false v n e = absurd cc
if_all true false t v n e = absurd cc
if_all false d t v n e = absurd cc

-- a word that is a number is its text
pub number_back : (word : List ℕ) (n : ℕ) → number_of word ≡ Some n → (word ≡ decimal n) × (n < 2 ^ 64)
number_back word n e =
    let all = if_all (begins_as_number word) (all_ascii_digits word) (nat_lt (digits_value 10 word) (2 ^ 64)) (digits_value 10 word) n e in
    let b = begins_back word all.0 in
    let below = small_back (digits_value 10 word) all.2 in
    (rw (← all.3) (sym (decimal-digits_value own word all.1 b.0 b.1 below)), rw (← all.3) below)
