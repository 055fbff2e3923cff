-- The first space of some bytes, and numbers, which have none.
use Rattle.std.proofs.Common.{◌≡◌, ℕ, zero, suc, ◌+◌, ◌-◌, ◌^◌, ◌<◌, ◌≤◌, inl, inr, ltb, ◌==◌, Bool, true, false, true≢false, not, cond, List, [], ◌∷◌, ◌++◌, length, take, drop, Option, Some, None, refl, sym, ap, subst, ◌∙◌, arith}
use Rattle.std.specs.List.{list_all, position, position_or_len}
use Rattle.std.specs.Char.{is_ascii_digit}
use Rattle.std.specs.Fmt.{decimal}
use Rattle.std.specs.Str.{all_ascii_digits}
use Rattle.std.specs.Str.Parse.{digits_value}
use Rattle.std.proofs.lemmas.Bool.{and_parts, and_from, eqb-true, cases_Bool, cond-true, cond-false, ltb-true, ltb-false}
use Rattle.std.proofs.lemmas.List.{take_all, length-drop}
use Rattle.std.proofs.lemmas.Bool.Decides.{nat_tests}
use Rattle.std.proofs.lemmas.Fmt.{digits_decimal}
use Rattle.std.proofs.lemmas.Str.Parse.{IsNumeralModel, numerals_by_value, tells_all_ascii_digits}
use Rattle.ct_play.specs.Orders.{Said, Queues, Makes, Flushes, Checks, spelled, IsSession, IsCount, IsOrder, has_no_space}

abbrev AreDigits : List ℕ → Type 0
AreDigits word = all_ascii_digits word ≡ true

own : IsNumeralModel AreDigits (digits_value 10)
own = numerals_by_value AreDigits tells_all_ascii_digits

digit_is_no_space : (byte : ℕ) → is_ascii_digit byte ≡ true → not (byte == 32) ≡ true
digit_is_no_space byte digit = grind (arith, nat_tests)

digits_have_none : (word : List ℕ) → all_ascii_digits word ≡ true → has_no_space word ≡ true
digits_have_none [] digits = refl
digits_have_none (byte ∷ word) digits =
    let parts = and_parts (is_ascii_digit byte) (all_ascii_digits word) digits in
    and_from (not (byte == 32)) (has_no_space word) (digit_is_no_space byte parts.0) (digits_have_none word parts.1)

pub number_has_none : (n : ℕ) → n < 2 ^ 64 → has_no_space (decimal n) ≡ true
number_has_none n short = digits_have_none (decimal n) (digits_decimal own n short)

-- bytes are parted at their first space in one way
pub parted_once : (a b c d : List ℕ) → has_no_space a ≡ true → has_no_space c ≡ true → a ++ 32 ∷ b ≡ c ++ 32 ∷ d → (a ≡ c) × (b ≡ d)
parted_once [] b [] d one two same = (refl, cc)
parted_once [] b (y ∷ c) d one two same =
    let head : 32 ≡ y = cc in
    absurd (true≢false (sym (and_parts (not (y == 32)) (has_no_space c) two).0 ∙ ap (λ n. not (n == 32)) (sym head)))
parted_once (x ∷ a) b [] d one two same =
    let head : x ≡ 32 = cc in
    absurd (true≢false (sym (and_parts (not (x == 32)) (has_no_space a) one).0 ∙ ap (λ n. not (n == 32)) head))
parted_once (x ∷ a) b (y ∷ c) d one two same =
    let head : x ≡ y = cc in
    let rest = parted_once a b c d (and_parts (not (x == 32)) (has_no_space a) one).1 (and_parts (not (y == 32)) (has_no_space c) two).1 cc in
    (joined x y a c head rest.0, rest.1)
  where
    joined : (x y : ℕ) (a c : List ℕ) → x ≡ y → a ≡ c → x ∷ a ≡ y ∷ c
    joined x y a c first second = cc

-- what has a space is not without one
pub has_one : (a b : List ℕ) → has_no_space (a ++ 32 ∷ b) ≡ true → ⊥
has_one [] b none = absurd cc
has_one (x ∷ a) b none = has_one a b (and_parts (not (x == 32)) (has_no_space (a ++ 32 ∷ b)) none).1

-- how many bytes stand before the first space
abbrev before : List ℕ → ℕ
before bytes = position_or_len (λ byte. byte == 32) bytes

parted_there : (n : ℕ) (bytes : List ℕ) → n ≡ before bytes → n < length bytes → (bytes ≡ take n bytes ++ 32 ∷ drop (n + 1) bytes) × (has_no_space (take n bytes) ≡ true)
parted_there n [] is within = absurd (omega (arith, within))
parted_there n (byte ∷ bytes) is within = by (byte == 32) refl is (parted_there (before bytes) bytes refl)
  where
    more : (m : ℕ) → n ≡ suc m → (byte == 32) ≡ false → (bytes ≡ take m bytes ++ 32 ∷ drop (m + 1) bytes) × (has_no_space (take m bytes) ≡ true)
        → (byte ∷ bytes ≡ take n (byte ∷ bytes) ++ 32 ∷ drop (n + 1) (byte ∷ bytes)) × (has_no_space (take n (byte ∷ bytes)) ≡ true)
    more m same other rest =
        let on : suc m + 1 ≡ suc (m + 1) = omega arith in
        subst (λ k. (byte ∷ bytes ≡ take k (byte ∷ bytes) ++ 32 ∷ drop (k + 1) (byte ∷ bytes)) × (has_no_space (take k (byte ∷ bytes)) ≡ true)) (sym same) (
          ap (λ l. byte ∷ l) rest.0 ∙ ap (λ k. byte ∷ (take m bytes ++ 32 ∷ drop k (byte ∷ bytes))) (sym on),
          and_from (not (byte == 32)) (has_no_space (take m bytes)) (ap not other) rest.1,
        )

    by : (here : Bool) → (byte == 32) ≡ here → n ≡ cond (not here) (1 + before bytes) 0
        → (before bytes < length bytes → (bytes ≡ take (before bytes) bytes ++ 32 ∷ drop (before bytes + 1) bytes) × (has_no_space (take (before bytes) bytes) ≡ true))
        → (byte ∷ bytes ≡ take n (byte ∷ bytes) ++ 32 ∷ drop (n + 1) (byte ∷ bytes)) × (has_no_space (take n (byte ∷ bytes)) ≡ true)
    by true space same rest =
        subst (λ k. (byte ∷ bytes ≡ take k (byte ∷ bytes) ++ 32 ∷ drop (k + 1) (byte ∷ bytes)) × (has_no_space (take k (byte ∷ bytes)) ≡ true)) (sym same)
        (ap (λ b. b ∷ bytes) (eqb-true byte 32 space), refl)
    by false other same rest =
        more (before bytes) (let up : 1 + before bytes ≡ suc (before bytes) = omega arith in same ∙ up) other (rest (omega (arith, same, within)))

none_before : (bytes : List ℕ) → length bytes ≤ before bytes → has_no_space bytes ≡ true
none_before [] long = refl
none_before (byte ∷ bytes) long = by (byte == 32) refl long (none_before bytes)
  where
    by : (here : Bool) → (byte == 32) ≡ here → suc (length bytes) ≤ cond (not here) (1 + before bytes) 0
        → (length bytes ≤ before bytes → has_no_space bytes ≡ true) → has_no_space (byte ∷ bytes) ≡ true
    by true space most rest = absurd (omega (arith, most))
    by false other most rest = and_from (not (byte == 32)) (has_no_space bytes) (ap not other) (rest (omega (arith, most)))

-- the first space by its place
pub found_space : (bytes : List ℕ) (at : ℕ) → position (λ byte. byte == 32) bytes ≡ Some at → (bytes ≡ take at bytes ++ 32 ∷ drop (at + 1) bytes) × (has_no_space (take at bytes) ≡ true)
found_space bytes at found =
    elim (cases_Bool (ltb (before bytes) (length bytes))) [
      | inl within ↦ (let same : at ≡ before bytes = cc (sym found ∙ cond-true (ltb (before bytes) (length bytes)) (Some (before bytes)) None within) in
          parted_there at bytes same (omega (arith, same, ltb-true (before bytes) (length bytes) within)))
      | inr past ↦ (let none : None ≡ Some at = sym (cond-false (ltb (before bytes) (length bytes)) (Some (before bytes)) None past) ∙ found in absurd cc)
    ]

pub no_space : (bytes : List ℕ) → position (λ byte. byte == 32) bytes ≡ None → has_no_space bytes ≡ true
no_space bytes found =
    elim (cases_Bool (ltb (before bytes) (length bytes))) [
      | inl within ↦ (let none : Some (before bytes) ≡ None = sym (cond-true (ltb (before bytes) (length bytes)) (Some (before bytes)) None within) ∙ found in absurd cc)
      | inr past ↦ none_before bytes (ltb-false (before bytes) (length bytes) past)
    ]

-- a slice up to the end
pub behind_space : (bytes : List ℕ) (n : ℕ) → take (length bytes - n) (drop n bytes) ≡ drop n bytes
behind_space bytes n = let long : length (drop n bytes) ≤ length bytes - n = omega (arith, length-drop n bytes) in take_all (length bytes - n) (drop n bytes) long

-- ---- orders by their parts

short : (session : ℕ) → IsSession session → session < 2 ^ 64
short session is = omega (arith, is.last)

-- bytes that begin with a number and a space are parted there
pub number_first : (bytes word rest line : List ℕ) (session : ℕ) → IsSession session → has_no_space word ≡ true → bytes ≡ word ++ 32 ∷ rest
    → bytes ≡ decimal session ++ 32 ∷ line → (word ≡ decimal session) × (rest ≡ line)
number_first bytes word rest line session is none parts whole = parted_once word rest (decimal session) line none (number_has_none session (short session is)) (sym parts ∙ whole)

behind_letter : (k : ℕ) (xs ys : List ℕ) → k ∷ 32 ∷ xs ≡ k ∷ 32 ∷ ys → xs ≡ ys
behind_letter k xs ys same = cc

-- turns with a count
pub count_first : (bytes word rest : List ℕ) (session : ℕ) (count : Option ℕ) → IsOrder (Makes session count) → has_no_space word ≡ true → bytes ≡ word ++ 32 ∷ rest
    → 84 ∷ 32 ∷ bytes ≡ spelled (Makes session count) → (n : ℕ) × (count ≡ Some n) × IsSession session × IsCount n × (word ≡ decimal session) × (rest ≡ decimal n)
count_first bytes word rest session None is none parts whole =
    absurd (has_one word rest (ap has_no_space (sym parts ∙ behind_letter 84 bytes (decimal session) whole) ∙ number_has_none session (short session is)))
count_first bytes word rest session (Some n) is none parts whole =
    let both = number_first bytes word rest (decimal n) session is.0 none parts (behind_letter 84 bytes (decimal session ++ 32 ∷ decimal n) whole) in
    (n, refl, is.0, is.1, both.0, both.1)

-- each order begins with one letter and a space
pub one_letter : (said : Said) (kind rest : List ℕ) → has_no_space kind ≡ true → kind ++ 32 ∷ rest ≡ spelled said → length kind ≡ 1
one_letter (Queues session line) kind rest none whole = ap (λ (l : List ℕ). length l) (parted_once kind rest (83 ∷ []) (decimal session ++ 32 ∷ line) none refl whole).0
one_letter (Makes session None) kind rest none whole = ap (λ (l : List ℕ). length l) (parted_once kind rest (84 ∷ []) (decimal session) none refl whole).0
one_letter (Makes session (Some n)) kind rest none whole = ap (λ (l : List ℕ). length l) (parted_once kind rest (84 ∷ []) (decimal session ++ 32 ∷ decimal n) none refl whole).0
one_letter (Flushes n) kind rest none whole = ap (λ (l : List ℕ). length l) (parted_once kind rest (70 ∷ []) (decimal n) none refl whole).0
one_letter (Checks n) kind rest none whole = ap (λ (l : List ℕ). length l) (parted_once kind rest (75 ∷ []) (decimal n) none refl whole).0

pub queued : (told session : ℕ) (rest line : List ℕ) → Some told ≡ Some session → rest ≡ line → Some (Queues told rest) ≡ Some (Queues session line)
queued told session rest line first second = let same : told ≡ session = cc in ap (λ n. Some (Queues n rest)) same ∙ ap (λ l. Some (Queues session l)) second

pub turned : (told session number n : ℕ) (count : Option ℕ) → Some told ≡ Some session → Some number ≡ Some n → count ≡ Some n → Some (Makes told (Some number)) ≡ Some (Makes session count)
turned told session number n count first second third =
    let same : told ≡ session = cc in
    ap (λ k. Some (Makes k (Some number))) same ∙ ap (λ c. Some (Makes session c)) (second ∙ sym third)
