-- The bytes before the first zero.
use Rattle.std.proofs.Common.{◌≡◌, ◌+◌, ◌≤◌, ℕ, true, false, cond, List, [], ◌∷◌, length, take, eqb, ltb, Some, None, refl, sym, ap, ◌∙◌, inl, inr, arith}
use Rattle.std.specs.List.{position, position_or_len}
use Rattle.std.proofs.lemmas.Bool.{cases_Bool, cond-true, cond-false, ltb-false}
use Rattle.std.proofs.lemmas.List.{take_all}
use Rattle.std.proofs.lemmas.List.Recursion.{is_position_or_len}
use Rattle.ct_log.specs.Heads.{before_zero}

-- they are a front
pub before_zero-front : (xs : List ℕ) → take (length (before_zero xs)) xs ≡ before_zero xs
before_zero-front [] = refl
before_zero-front (x ∷ xs) =
    elim (eqb x 0) as (λ b. take (length {A = ℕ} (cond b [] (x ∷ before_zero xs))) (x ∷ xs) ≡ cond b [] (x ∷ before_zero xs)) [
      | true ↦ refl
      | false ↦ ap (λ (l : List ℕ). x ∷ l) (before_zero-front xs)
    ]

-- as long as the place of the first zero
length-before_zero : (xs : List ℕ) → length (before_zero xs) ≡ position_or_len (λ byte. eqb byte 0) xs
length-before_zero xs = is_position_or_len (λ l. length (before_zero l)) (λ byte. eqb byte 0) refl step xs
  where
    step : (x : ℕ) (xs : List ℕ) → length (before_zero (x ∷ xs)) ≡ cond (eqb x 0) 0 (1 + length (before_zero xs))
    step x xs = elim (eqb x 0) as (λ b. length {A = ℕ} (cond b [] (x ∷ before_zero xs)) ≡ cond b 0 (1 + length (before_zero xs))) [ true ↦ refl | false ↦ omega arith ]

pub front_to_zero : (xs : List ℕ) (n : ℕ) → position (λ byte. eqb byte 0) xs ≡ Some n → take n xs ≡ before_zero xs
front_to_zero xs n at =
    let p = position_or_len (λ byte. eqb byte 0) xs in
    elim (cases_Bool (ltb p (length xs))) [
      | inl within ↦ (let same : n ≡ p = cc (sym at ∙ cond-true (ltb p (length xs)) (Some p) None within) in
          ap (λ k. take k xs) (same ∙ sym (length-before_zero xs)) ∙ before_zero-front xs)
      | inr past ↦ (let none : None ≡ Some n = sym (cond-false (ltb p (length xs)) (Some p) None past) ∙ at in cc)
    ]

pub all_before_zero : (xs : List ℕ) → position (λ byte. eqb byte 0) xs ≡ None → xs ≡ before_zero xs
all_before_zero xs nowhere =
    let p = position_or_len (λ byte. eqb byte 0) xs in
    elim (cases_Bool (ltb p (length xs))) [
      | inl within ↦ (let none : Some p ≡ None = sym (cond-true (ltb p (length xs)) (Some p) None within) ∙ nowhere in cc)
      | inr past ↦ (let long : length xs ≤ length (before_zero xs) = omega (arith, ltb-false p (length xs) past, length-before_zero xs) in
          sym (take_all (length (before_zero xs)) xs long) ∙ before_zero-front xs)
    ]
