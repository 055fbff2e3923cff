-- Bytes that are all zero.
use Rattle.std.proofs.Common.{◌≡◌, ℕ, zero, suc, ◌^◌, ◌<◌, Bool, true, false, ◌&&◌, List, [], ◌∷◌, ◌++◌, length, take, drop, get_or, eqb, refl, sym, ap, ◌∙◌, arith, IsTrue, replicate}
use Rattle.std.specs.Int.{w64, from_le_bytes, to_le_bytes}
use Rattle.std.proofs.lemmas.Bool.{eq-eqb, eqb-true}
use Rattle.std.proofs.lemmas.List.Folds.{list_all-append}
use Rattle.std.proofs.lemmas.Bool.Decides.{nat_tests}
use Rattle.std.proofs.lemmas.Nat.{from_le_bytes-to_le_bytes_8}
use Rattle.ct_page.specs.Fields.{are_zero}

-- the first of such bytes, and the rest
record AreFirst (b : ℕ) (bytes : List ℕ) : Type 0 where
  pub first : b ≡ 0
  pub rest : IsTrue (are_zero bytes)

parts : (b : ℕ) (bytes : List ℕ) → IsTrue (are_zero (b ∷ bytes)) → AreFirst b bytes
parts b bytes all = record { first = grind (arith, nat_tests); rest = grind (arith, nat_tests) }

-- such bytes are so many zeros
pub zeros_are : (bytes : List ℕ) → IsTrue (are_zero bytes) → bytes ≡ replicate (length bytes) 0
zeros_are [] all = refl
zeros_are (b ∷ bytes) all =
    let p = parts b bytes all in
    ap (λ (l : List ℕ). b ∷ l) (zeros_are bytes p.rest) ∙ ap (λ x. x ∷ replicate (length bytes) 0) p.first

-- so many zeros are such
pub are_zero-replicate : (n : ℕ) → IsTrue (are_zero (replicate n 0))
are_zero-replicate zero = refl
are_zero-replicate (suc n) = are_zero-replicate n

-- a part of such bytes
pub are_zero-take : (n : ℕ) (bytes : List ℕ) → IsTrue (are_zero bytes) → IsTrue (are_zero (take n bytes))
are_zero-take zero bytes all = refl
are_zero-take (suc n) [] all = refl
are_zero-take (suc n) (b ∷ bytes) all =
    let p = parts b bytes all in
    rw p.first (are_zero-take n bytes p.rest)

pub are_zero-drop : (n : ℕ) (bytes : List ℕ) → IsTrue (are_zero bytes) → IsTrue (are_zero (drop n bytes))
are_zero-drop zero bytes all = all
are_zero-drop (suc n) [] all = refl
are_zero-drop (suc n) (b ∷ bytes) all = are_zero-drop n bytes (parts b bytes all).rest

-- one of such bytes
pub are_zero-get_or : (i : ℕ) (bytes : List ℕ) → IsTrue (are_zero bytes) → get_or bytes i 0 ≡ 0
are_zero-get_or i [] all = refl
are_zero-get_or zero (b ∷ bytes) all = (parts b bytes all).first
are_zero-get_or (suc i) (b ∷ bytes) all = are_zero-get_or i bytes (parts b bytes all).rest

-- bytes behind others
pub are_zero-append : (xs ys : List ℕ) → are_zero (xs ++ ys) ≡ (are_zero xs && are_zero ys)
are_zero-append xs ys = list_all-append (λ x. eqb x 0) xs ys

zero_by_bytes : (n : ℕ) → n < 2 ^ 64 → IsTrue (are_zero (to_le_bytes w64 n)) → n ≡ 0
zero_by_bytes n small all =
    sym (from_le_bytes-to_le_bytes_8 n small) ∙ ap (from_le_bytes w64) (zeros_are (to_le_bytes w64 n) all)

not_true : (b : Bool) → (b ≡ true → false ≡ true) → false ≡ b
not_true true never = never refl
not_true false never = refl

same_test : (b : Bool) (n : ℕ) → (IsTrue b → n ≡ 0) → (n ≡ 0 → IsTrue b) → b ≡ eqb n 0
same_test true n to from = sym (eq-eqb n 0 (to refl))
same_test false n to from = not_true (eqb n 0) (λ e. from (eqb-true n 0 e))

-- the bytes of a number are zero where the number is
pub are_zero-number : (n : ℕ) → n < 2 ^ 64 → are_zero (to_le_bytes w64 n) ≡ eqb n 0
are_zero-number n small =
    same_test (are_zero (to_le_bytes w64 n)) n (zero_by_bytes n small) (λ e. ap (λ k. are_zero (to_le_bytes w64 k)) e)
