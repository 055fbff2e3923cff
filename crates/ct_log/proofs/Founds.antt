-- What is found at the chunks of a log, and what its bytes are where a chunk is found.
use Rattle.std.proofs.Common.{◌≡◌, ◌≢◌, suc, ◌+◌, ◌^◌, ◌≤◌, ◌<◌, ◌⊎◌, ℕ, List, [], ◌∷◌, ◌++◌, length, take, drop, get_or, ltb, eqb, refl, sym, ap, ◌∙◌, subst, inl, inr, arith, append_assoc, length-append, length-take, length-drop}
use Rattle.std.specs.Prelude.{All}
use Rattle.std.specs.Int.{w32, from_le_bytes, to_le_bytes}
use Rattle.std.proofs.lemmas.Bool.{cases_Bool, cases_lt, ne_eqb, eqb-true, eqb-false, le-ltb, ltb-false, cond-true, cond-false}
use Rattle.std.proofs.lemmas.List.{take_at, drop_at, take-append-drop, get_or-take, get_or_past}
use Rattle.std.proofs.lemmas.Nat.{le_bytes_4, from_le_bytes-to_le_bytes_4}
use Rattle.ct_log.specs.Chunks.{length_bytes, open_chunk, IsShort}
use Rattle.ct_log.specs.Reading.{damage, chunk, nothing, chunk_in, found_in}
use Rattle.ct_log.proofs.ChunkReads.{behind_open}
use Rattle.ct_log.proofs.Frames.{length-length_bytes}

-- a length of four bytes is read back
length_again : (n : ℕ) → n < 2 ^ 32 → from_le_bytes w32 (length_bytes n) ≡ n
unfolding length_bytes
length_again n short = from_le_bytes-to_le_bytes_4 n short

-- an open chunk is found
pub whole_found : (groups rest : List ℕ) → IsShort groups → found_in (open_chunk groups ++ rest) ≡ chunk groups
whole_found groups rest short =
    let n = length groups in
    let field = length_bytes n in
    let bytes = (field ++ groups) ++ rest in
    let parts : bytes ≡ field ++ (groups ++ rest) = append_assoc field groups rest in
    let front : take 4 bytes ≡ field = ap (λ (l : List ℕ). take 4 l) parts ∙ take_at field (groups ++ rest) 4 (length-length_bytes n) in
    let back : drop 4 bytes ≡ groups ++ rest = ap (λ (l : List ℕ). drop 4 l) parts ∙ drop_at field (groups ++ rest) 4 (length-length_bytes n) in
    let size : from_le_bytes w32 (take 4 bytes) ≡ n = ap (λ (l : List ℕ). from_le_bytes w32 l) front ∙ length_again n short in
    let long : length bytes ≡ 4 + n + length rest = omega (arith, ap length parts, length-append field (groups ++ rest), length-append groups rest, length-length_bytes n) in
    let within : 4 + from_le_bytes w32 (take 4 bytes) ≤ length bytes = omega arith in
    cond-false (ltb (length bytes) (4 + from_le_bytes w32 (take 4 bytes))) damage (chunk (take (from_le_bytes w32 (take 4 bytes)) (drop 4 bytes)))
    (le-ltb (length bytes) (4 + from_le_bytes w32 (take 4 bytes)) within)
    ∙ ap (λ k. chunk (take k (drop 4 bytes))) size ∙ ap (λ (l : List ℕ). chunk (take n l)) back ∙ ap (λ (l : List ℕ). chunk l) (take_at groups rest n refl)

-- nothing is found behind a gate that is not open
pub nothing_found : (gate : ℕ) (rest : List ℕ) → gate ≢ 1 → found_in (gate ∷ rest) ≡ nothing
nothing_found gate rest shut = cond-false (eqb gate 1) (chunk_in rest) nothing (ne_eqb gate 1 shut)

-- the bytes of a chunk that is found
pub record IsChunk (groups bytes : List ℕ) : Type 0 where
  pub short : IsShort groups
  pub rest : List ℕ
  pub parts : bytes ≡ open_chunk groups ++ rest

below_256 : (bytes : List ℕ) → All (λ b. b < 256) bytes → (k : ℕ) → get_or bytes k 0 < 256
below_256 bytes all k = elim (cases_lt k (length bytes)) [
  | inl within ↦ all k 0 within
  | inr past ↦ omega (arith, get_or_past bytes k 0 past)
]

four_below : (bytes : List ℕ) → ((k : ℕ) → get_or bytes k 0 < 256) → (k : ℕ) → get_or (take 4 bytes) k 0 < 256
four_below bytes all k = elim (cases_lt k 4) [
  | inl within ↦ (let same = get_or-take 4 bytes k 0 within in let below = all k in omega arith)
  | inr past ↦ omega (arith, get_or_past (take 4 bytes) k 0 (omega (arith, length-take 4 bytes)))
]

field_below : (bytes : List ℕ) → ((k : ℕ) → get_or bytes k 0 < 256) → from_le_bytes w32 bytes < 2 ^ 32
field_below bytes all = omega (arith, all 0, all 1, all 2, all 3)

is_chunk_in : (rest groups : List ℕ) → All (λ b. b < 256) (1 ∷ rest) → chunk_in rest ≡ chunk groups → IsChunk groups (1 ∷ rest)
unfolding length_bytes
is_chunk_in rest groups all found =
    let size = from_le_bytes w32 (take 4 rest) in
    elim (cases_Bool (ltb (length rest) (4 + size))) [
      | inl past ↦ (let none : damage ≡ chunk groups = sym (cond-true (ltb (length rest) (4 + size)) damage (chunk (take size (drop 4 rest))) past) ∙ found in cc)
      | inr within ↦
          (let same : chunk (take size (drop 4 rest)) ≡ chunk groups = sym (cond-false (ltb (length rest) (4 + size)) damage (chunk (take size (drop 4 rest))) within) ∙ found in
          let is : take size (drop 4 rest) ≡ groups = cc in
          let fits : 4 + size ≤ length rest = ltb-false (length rest) (4 + size) within in
          let long : length groups ≡ size = ap length (sym is) ∙ length-take size (drop 4 rest) ∙ omega (arith, length-drop 4 rest) in
          let four : length (take 4 rest) ≡ 4 = omega (arith, length-take 4 rest) in
          let bytes = four_below rest (λ k. below_256 (1 ∷ rest) all (suc k)) in
          let field : to_le_bytes w32 (length groups) ≡ take 4 rest = ap (λ n. to_le_bytes w32 n) long ∙ le_bytes_4 (take 4 rest) size four bytes refl in
          let behind = drop size (drop 4 rest) in
          let parts : rest ≡ (to_le_bytes w32 (length groups) ++ groups) ++ behind =
          sym (take-append-drop 4 rest) ∙ ap (λ (l : List ℕ). take 4 rest ++ l) (sym (take-append-drop size (drop 4 rest)))
          ∙ ap (λ (l : List ℕ). take 4 rest ++ (l ++ behind)) is ∙ ap (λ (l : List ℕ). l ++ (groups ++ behind)) (sym field)
          ∙ sym (append_assoc (to_le_bytes w32 (length groups)) groups behind) in
          let small : length groups < 2 ^ 32 = omega (arith, field_below (take 4 rest) bytes) in
          record { short = small; rest = behind; parts = ap (λ (l : List ℕ). 1 ∷ l) parts })
    ]

pub chunk_is : (bytes groups : List ℕ) → All (λ b. b < 256) bytes → found_in bytes ≡ chunk groups → IsChunk groups bytes
chunk_is [] groups all found = cc
chunk_is (gate ∷ rest) groups all found = elim (cases_Bool (eqb gate 1)) [
  | inl is_open ↦
      (let one : gate ≡ 1 = eqb-true gate 1 is_open in
      let P : ℕ → Type 0 = λ g. All (λ b. b < 256) (g ∷ rest) in
      let Q : ℕ → Type 0 = λ g. IsChunk groups (g ∷ rest) in
      subst Q (sym one) (is_chunk_in rest groups (subst P one all) (sym (behind_open gate rest one) ∙ found)))
  | inr is_shut ↦ (let none : nothing ≡ chunk groups = sym (cond-false (eqb gate 1) (chunk_in rest) nothing is_shut) ∙ found in cc)
]

-- behind an open gate there is something
not_nothing : (rest : List ℕ) → chunk_in rest ≡ nothing → ⊥
not_nothing rest found =
    let size = from_le_bytes w32 (take 4 rest) in
    elim (cases_Bool (ltb (length rest) (4 + size))) [
      | inl past ↦ (let none : damage ≡ nothing = sym (cond-true (ltb (length rest) (4 + size)) damage (chunk (take size (drop 4 rest))) past) ∙ found in cc)
      | inr within ↦ (let none : chunk (take size (drop 4 rest)) ≡ nothing = sym (cond-false (ltb (length rest) (4 + size)) damage (chunk (take size (drop 4 rest))) within) ∙ found in cc)
    ]
