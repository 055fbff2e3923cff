-- How numbers compare by their digits, and what the bytes of a number give.
use Rattle.std.proofs.Common.{◌≡◌, ℕ, suc, ◌+◌, ◌-◌, ◌*◌, ◌^◌, ◌<◌, ◌≤◌, pos, ◌-ℤ◌, cond, ltb, List, [], ◌∷◌, ◌++◌, length, refl, sym, ap, ◌∙◌, arith, ⊎_elim}
use Rattle.std.proofs.Math.Nat.{mul-le-mul_left, mul-add, mul_assoc, mul_comm, pow-suc}
use Rattle.std.proofs.lemmas.Bool.{cases_lt, lt-ltb, le-ltb}
use Rattle.std.proofs.lemmas.Bool.Decides.{nat_tests}
use Rattle.std.proofs.lemmas.Int.{ints}
use Rattle.std.proofs.lemmas.Cmp.{ranked, by_ranked}
use Rattle.std.specs.declared.cmp.Ordering.TheVariants.{Less, Equal, Greater}
use Rattle.std.specs.Ordering.{nat_cmp, int_cmp, ordering_then}
use Rattle.ct_key.specs.Order.{number_of}
use Rattle.ct_key.proofs.ByteLemmas.{IsBytes}

pub nat_cmp-less : (a b : ℕ) → a < b → nat_cmp a b ≡ Less
nat_cmp-less a b below = grind (arith, nat_tests)

pub nat_cmp-same : (a b : ℕ) → a ≡ b → nat_cmp a b ≡ Equal
nat_cmp-same a b same = grind (arith, nat_tests)

pub nat_cmp-greater : (a b : ℕ) → b < a → nat_cmp a b ≡ Greater
nat_cmp-greater a b above = grind (arith, nat_tests)

-- a greater high digit outweighs any low one
outweighed : (base high greater low least : ℕ) → low < base → high < greater → low + base * high < least + base * greater
outweighed base high greater low least fits above =
    let step : base * (high + 1) ≤ base * greater = mul-le-mul_left base (omega arith) in
    let parts : base * (high + 1) ≡ base * high + base * 1 = mul-add base high 1 in
    omega arith

-- numbers of two digits compare by the high ones first
pub nat_cmp-digits : (base high other_high low other_low : ℕ) → low < base → other_low < base → nat_cmp (low + base * high) (other_low + base * other_high) ≡ ordering_then (nat_cmp high other_high) (nat_cmp low other_low)
nat_cmp-digits base high other_high low other_low fits other_fits =
    by_ranked _ _ _ (nat_cmp high other_high) (ranked high other_high _ refl)
    (λ is_less below.
    nat_cmp-less _ _ (outweighed base high other_high low other_low fits below)
    ∙ sym (ap (λ order. ordering_then order (nat_cmp low other_low)) is_less))
    (λ is_same same.
    ap (λ digit. nat_cmp (low + base * high) (other_low + base * digit)) (sym same)
    ∙ shifted
    ∙ sym (ap (λ order. ordering_then order (nat_cmp low other_low)) is_same))
    (λ is_greater above.
    nat_cmp-greater _ _ (outweighed base other_high high other_low low other_fits above)
    ∙ sym (ap (λ order. ordering_then order (nat_cmp low other_low)) is_greater))
  where
    shifted : nat_cmp (low + base * high) (other_low + base * high) ≡ nat_cmp low other_low
    shifted = grind (arith, nat_tests)

-- the number of bytes with one more high byte
pub number_of-push : (low : List ℕ) (high : ℕ) → number_of (low ++ high ∷ []) ≡ number_of low + 256 ^ length low * high
number_of-push [] high = omega arith
number_of-push (byte ∷ low) high =
    let before = number_of-push low high in
    let power : 256 ^ suc (length low) ≡ 256 ^ length low * 256 = pow-suc 256 (length low) in
    let swapped : 256 ^ length low * 256 * high ≡ 256 * (256 ^ length low * high) =
    ap (λ n. n * high) (mul_comm (256 ^ length low) 256) ∙ mul_assoc 256 (256 ^ length low) high in
    let parts : 256 * (number_of low + 256 ^ length low * high) ≡ 256 * number_of low + 256 * (256 ^ length low * high) =
    mul-add 256 (number_of low) (256 ^ length low * high) in
    ap (λ n. byte + 256 * n) before
    ∙ ap (λ n. byte + n) parts
    ∙ (let sum : byte + (256 * number_of low + 256 * (256 ^ length low * high)) ≡ byte + 256 * number_of low + 256 * (256 ^ length low * high) = omega arith in sum)
    ∙ ap (λ n. byte + 256 * number_of low + n) (sym swapped ∙ ap (λ n. n * high) (sym power))

-- so many bytes give a number below that power
pub number_of-below : (bytes : List ℕ) → IsBytes bytes → number_of bytes < 256 ^ length bytes
number_of-below [] each = omega arith
number_of-below (byte ∷ bytes) each =
    let fits = each.0 in
    let below = number_of-below bytes each.1 in
    rw (pow-suc 256 (length bytes)) (omega arith)

-- a byte with its top bit turned
abbrev pub top_bit_turned : ℕ → ℕ
top_bit_turned byte = cond (ltb byte 128) (byte + 128) (byte - 128)

-- two's complement lies half the range below the number with its top bit turned
pub biased : (power low high : ℕ) → low < power → high < 256 → cond (ltb (2 * (low + power * high)) (power * 256)) (pos (low + power * high)) (pos (low + power * high) -ℤ pos (power * 256)) ≡ pos (low + power * top_bit_turned high) -ℤ pos (power * 128)
biased power low high fits byte = ⊎_elim below above (cases_lt high 128)
  where
    below : high < 128 → cond (ltb (2 * (low + power * high)) (power * 256)) (pos (low + power * high)) (pos (low + power * high) -ℤ pos (power * 256)) ≡ pos (low + power * top_bit_turned high) -ℤ pos (power * 128)
    below small =
        let most : power * (high + 1) ≤ power * 128 = mul-le-mul_left power (omega arith) in
        let parts : power * (high + 1) ≡ power * high + power * 1 = mul-add power high 1 in
        let sum : power * (high + 128) ≡ power * high + power * 128 = mul-add power high 128 in
        rw (lt-ltb high 128 small, lt-ltb (2 * (low + power * high)) (power * 256) (omega arith)) (omega (arith, ints))

    above : 128 ≤ high → cond (ltb (2 * (low + power * high)) (power * 256)) (pos (low + power * high)) (pos (low + power * high) -ℤ pos (power * 256)) ≡ pos (low + power * top_bit_turned high) -ℤ pos (power * 128)
    above large =
        let sum : power * (high - 128 + 128) ≡ power * (high - 128) + power * 128 = mul-add power (high - 128) 128 in
        let whole : high - 128 + 128 ≡ high = omega arith in
        let apart : power * high ≡ power * (high - 128) + power * 128 = ap (λ n. power * n) (sym whole) ∙ sum in
        rw (le-ltb high 128 large, le-ltb (2 * (low + power * high)) (power * 256) (omega arith)) (omega (arith, ints))

-- a common shift leaves the order
pub int_cmp-shifted : (a b shift : ℕ) → int_cmp (pos a -ℤ pos shift) (pos b -ℤ pos shift) ≡ nat_cmp a b
int_cmp-shifted a b shift =
    by_ranked _ _ _ (nat_cmp a b) (ranked a b _ refl)
    (λ is_less below. let less : int_cmp (pos a -ℤ pos shift) (pos b -ℤ pos shift) ≡ Less = grind (arith, ints) in less ∙ sym is_less)
    (λ is_same same. let equal : int_cmp (pos a -ℤ pos shift) (pos b -ℤ pos shift) ≡ Equal = grind (arith, ints) in equal ∙ sym is_same)
    (λ is_greater above. let greater : int_cmp (pos a -ℤ pos shift) (pos b -ℤ pos shift) ≡ Greater = grind (arith, ints) in greater ∙ sym is_greater)
