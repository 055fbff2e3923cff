-- A word is a byte exactly where it is that byte's two hexadecimal digits.
use Rattle.std.proofs.Common.{◌≡◌, ℕ, ◌+◌, ◌*◌, ◌/◌, ◌%◌, ◌^◌, ◌<◌, Bool, true, false, cond, List, [], ◌∷◌, Some, None, refl, arith}
use Rattle.std.specs.Prelude.{◌&&◌}
use Rattle.std.specs.Char.{is_ascii_hexdigit, digit_value, digit_char}
use Rattle.std.proofs.lemmas.Bool.Decides.{nat_tests}
use Rattle.ct_line.specs.Table.{byte_of}
use Rattle.ct_line.specs.Calls.{IsHexOf}

record IsDigitChar (d : ℕ) : Type 0 where
  is_digit : is_ascii_hexdigit (digit_char d) ≡ true
  value : digit_value (digit_char d) ≡ d

digit_again : (d : ℕ) → d < 16 → IsDigitChar d
digit_again d h = record { is_digit = grind (arith, nat_tests); value = grind (arith, nat_tests) }

-- a byte's lower-case digits are its digits
pub digits_again : (byte : ℕ) → byte < 2 ^ 8 → IsHexOf byte (digit_char (byte / 16) ∷ digit_char (byte % 16) ∷ [])
digits_again byte h =
    let high = digit_again (byte / 16) (omega arith) in
    let low = digit_again (byte % 16) (omega arith) in
    let value : byte ≡ 16 * (byte / 16) + byte % 16 = omega arith in
    (high.is_digit, low.is_digit, rw (high.value, low.value) value)

-- two digits are read as their byte
pub byte_again : (byte : ℕ) (word : List ℕ) → IsHexOf byte word → byte_of word ≡ Some byte
byte_again byte [] h = absurd h
byte_again byte (high ∷ []) h = absurd h
byte_again byte (high ∷ low ∷ []) h = rw (h.0, h.1, h.2) refl
byte_again byte (high ∷ low ∷ more ∷ word) h = absurd h

digits_by : (high low : Bool) (n byte : ℕ) → cond (high && low) (Some n) None ≡ Some byte → (high ≡ true) × (low ≡ true) × (byte ≡ n)
digits_by true true n byte e = (refl, refl, cc)
digits_by true false n byte e = absurd cc
digits_by false low n byte e = absurd cc

-- what is read as a byte is its two digits
pub byte_back : (byte : ℕ) (word : List ℕ) → byte_of word ≡ Some byte → IsHexOf byte word
byte_back byte [] e = absurd cc
byte_back byte (high ∷ []) e = absurd cc
byte_back byte (high ∷ low ∷ []) e = digits_by (is_ascii_hexdigit high) (is_ascii_hexdigit low) (16 * digit_value high + digit_value low) byte e
byte_back byte (high ∷ low ∷ more ∷ word) e = absurd cc

digit_below : (d : ℕ) → is_ascii_hexdigit d ≡ true → digit_value d < 16
digit_below d h = grind (arith, nat_tests)

-- two digits are a byte
pub hex_below : (byte : ℕ) (word : List ℕ) → IsHexOf byte word → byte < 2 ^ 8
hex_below byte [] h = absurd h
hex_below byte (high ∷ []) h = absurd h
hex_below byte (high ∷ low ∷ []) h =
    let one = digit_below high h.0 in
    let two = digit_below low h.1 in
    rw h.2 (omega arith)
hex_below byte (high ∷ low ∷ more ∷ word) h = absurd h
