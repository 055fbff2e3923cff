-- What the bytes of a window tell of a log.
use Rattle.std.proofs.Common.{◌≡◌, ◌+◌, ◌-◌, ◌^◌, ◌≤◌, ℕ, min, List, [], ◌∷◌, ◌++◌, length, get_or, take, drop, replicate, refl, sym, ap, ◌∙◌, inl, inr, arith, length-take, length-drop}
use Rattle.std.proofs.lemmas.Bool.{cases_lt}
use Rattle.std.proofs.lemmas.List.{take-append-le, drop-replicate, take_min, take-take, take_all, drop_all, drop-take, drop-drop}
use Rattle.ct_log.specs.Front.{zeros}
use Rattle.ct_log.specs.Reading.{log_bytes}
use Rattle.ct_log.proofs.ChunkReads.{within_log, padded}

-- a list up to five, with zeros behind it
pub padded_five : (b front : List ℕ) (most : ℕ) → most ≡ min (length b) 5 → front ≡ take most b → front ++ drop most (0 ∷ 0 ∷ 0 ∷ 0 ∷ 0 ∷ []) ≡ take 5 (b ++ zeros 5)
unfolding zeros
padded_five b front most is_most is =
    let first : front ≡ take 5 b = is ∙ ap (λ k. take k b) (let same : most ≡ min 5 (length b) = omega arith in same) ∙ take_min 5 b in
    let left : 5 - most ≡ 5 - length b = omega arith in
    ap (λ (l : List ℕ). l ++ drop most (replicate 5 0)) first ∙ ap (λ (l : List ℕ). take 5 b ++ l) (drop-replicate most 5 0 ∙ ap (λ k. replicate k 0) left) ∙ sym (padded 5 5 b (omega arith))

-- the first five of a list that has as many
pub first_of_five : (b : List ℕ) → 5 ≤ length b → get_or b 0 0 ∷ get_or b 1 0 ∷ get_or b 2 0 ∷ get_or b 3 0 ∷ get_or b 4 0 ∷ [] ≡ take 5 (b ++ zeros 5)
first_of_five (p ∷ q ∷ r ∷ s ∷ t ∷ b) long = refl
first_of_five (p ∷ q ∷ r ∷ s ∷ []) long = absurd (omega (arith, long))
first_of_five (p ∷ q ∷ r ∷ []) long = absurd (omega (arith, long))
first_of_five (p ∷ q ∷ []) long = absurd (omega (arith, long))
first_of_five (p ∷ []) long = absurd (omega (arith, long))
first_of_five [] long = absurd (omega (arith, long))

-- behind the end there are zeros
pub past_end : (content : List ℕ) (place end size : ℕ) → size ≡ length content → end ≡ min size (2 ^ 62) → end ≤ place → 0 ∷ 0 ∷ 0 ∷ 0 ∷ 0 ∷ [] ≡ take 5 (drop place (log_bytes content) ++ zeros 5)
unfolding zeros
past_end content place end size all is_end past =
    let long : length (log_bytes content) ≡ min (2 ^ 62) (length content) = length-take (2 ^ 62) content in
    sym (ap (λ (l : List ℕ). take 5 (l ++ replicate 5 0)) (drop_all place (log_bytes content) (omega arith)))

-- bytes of the content that were read are those of the log
pub filled : (content now bytes : List ℕ) (place n : ℕ) → now ≡ content → place + n ≤ 2 ^ 62 → length bytes ≡ n → bytes ≡ take n (drop place content) → bytes ≡ take (length bytes) (drop place (log_bytes now))
filled content now bytes place n same fits long are =
    are ∙ sym (within_log content place n fits)
    ∙ ap (λ k. take k (drop place (log_bytes content))) (sym long)
    ∙ ap (λ (l : List ℕ). take (length bytes) (drop place (log_bytes l))) (sym same)

-- the bytes from a place on, as far as a window has them
seen : (all bytes : List ℕ) (at place : ℕ) → at ≤ place → place ≤ at + length bytes → bytes ≡ take (length bytes) (drop at all)
    → drop (place - at) bytes ≡ take (length bytes - (place - at)) (drop place all)
seen all bytes at place behind within are =
    let k = place - at in
    let m = length bytes - (place - at) in
    let sum : length bytes ≡ k + m = omega arith in
    let here : at + k ≡ place = omega arith in
    ap (λ (l : List ℕ). drop k l) are ∙ ap (λ i. drop k (take i (drop at all))) sum ∙ drop-take k m (drop at all)
    ∙ ap (λ (l : List ℕ). take m l) (drop-drop k at all ∙ ap (λ i. drop i all) here)

first_five : (b : List ℕ) (m : ℕ) → min 5 (length b) ≤ m → take 5 (take m b ++ zeros 5) ≡ take 5 (b ++ zeros 5)
first_five b m enough = elim (cases_lt m (length b)) [
  | inl few ↦ take-append-le 5 (take m b) (zeros 5) (omega (arith, length-take m b)) ∙ take-take 5 m b (omega arith) ∙ sym (take-append-le 5 b (zeros 5) (omega arith))
  | inr all ↦ ap (λ (l : List ℕ). take 5 (l ++ zeros 5)) (take_all m b all)
]

-- the first five bytes from a place on
pub frame_seen : (all bytes : List ℕ) (at place : ℕ) → at ≤ place → place ≤ at + length bytes → bytes ≡ take (length bytes) (drop at all) → min 5 (length (drop place all)) ≤ length bytes - (place - at)
    → take 5 (drop (place - at) bytes ++ zeros 5) ≡ take 5 (drop place all ++ zeros 5)
frame_seen all bytes at place behind within are enough =
    ap (λ (l : List ℕ). take 5 (l ++ zeros 5)) (seen all bytes at place behind within are) ∙ first_five (drop place all) (length bytes - (place - at)) enough

-- the groups of a chunk that a window has whole
pub groups_seen : (all bytes : List ℕ) (at place n : ℕ) → at ≤ place → place + 5 + n ≤ at + length bytes → bytes ≡ take (length bytes) (drop at all)
    → take n (drop 5 (drop place all)) ≡ take n (drop (place + 5 - at) bytes)
groups_seen all bytes at place n behind within are =
    let m = length bytes - (place + 5 - at) in
    ap (λ (l : List ℕ). take n l) (drop-drop 5 place all)
    ∙ sym (ap (λ (l : List ℕ). take n l) (seen all bytes at (place + 5) (omega arith) (omega arith) are) ∙ take-take n m (drop (place + 5) all) (omega arith))

pub length-groups_seen : (bytes : List ℕ) (from n : ℕ) → from + n ≤ length bytes → length (take n (drop from bytes)) ≡ n
length-groups_seen bytes from n within = omega (arith, length-take n (drop from bytes), length-drop from bytes)
