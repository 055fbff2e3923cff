-- What the first five bytes of a place tell of the chunk that is found there.
use Rattle.std.proofs.Common.{◌≡◌, ◌+◌, ◌-◌, ◌^◌, ◌≤◌, ◌<◌, ℕ, zero, suc, min, List, [], ◌∷◌, ◌++◌, length, take, drop, get_or, ltb, eqb, replicate, sym, ap, ◌∙◌, subst, inl, inr, arith, append_assoc, length-take, length-drop}
use Rattle.std.specs.Int.{w32, from_le_bytes}
use Rattle.std.proofs.lemmas.Nat.{le_bytes_4}
use Rattle.std.proofs.lemmas.Bool.{cases_lt, lt-ltb, le-ltb, eq-eqb, cond-true, cond-false}
use Rattle.std.proofs.lemmas.List.{take-append-le, take-replicate, drop-replicate, take_min, take-take, drop-take, drop-drop, take-append-drop, replicate-append-replicate}
use Rattle.ct_log.specs.Chunks.{length_bytes, BeginsWithChunk}
use Rattle.ct_log.specs.Front.{zeros}
use Rattle.ct_log.specs.Reading.{damage, chunk, nothing, chunk_in, found_in, log_bytes}

-- bytes within the log's last end
pub within_log : (content : List ℕ) (at n : ℕ) → at + n ≤ 2 ^ 62 → take n (drop at (log_bytes content)) ≡ take n (drop at content)
within_log content at n fits =
    let more = 2 ^ 62 - at in
    let whole : 2 ^ 62 ≡ at + more = omega arith in
    ap (λ k. take n (drop at (take k content))) whole ∙ ap (λ (l : List ℕ). take n l) (drop-take at more content) ∙ take-take n more (drop at content) (omega arith)

-- how many bytes a log has from a place on
pub length-log_from : (content : List ℕ) (at : ℕ) → length (drop at (log_bytes content)) ≡ min (length content) (2 ^ 62) - at
length-log_from content at =
    let all : length (log_bytes content) ≡ min (2 ^ 62) (length content) = length-take (2 ^ 62) content in
    length-drop at (log_bytes content) ∙ omega arith

-- the front of a list with zeros behind it
pub padded : (m k : ℕ) (xs : List ℕ) → m ≤ k → take m (xs ++ replicate k 0) ≡ take m xs ++ replicate (m - length xs) 0
padded zero k xs within = let none : 0 - length xs ≡ 0 = omega arith in ap (λ n. replicate n 0) (sym none)
padded (suc m) k [] within = let all : suc m ≡ suc m - 0 = omega arith in take-replicate (suc m) k 0 within ∙ ap (λ n. replicate n 0) all
padded (suc m) k (x ∷ xs) within =
    let left : m - length xs ≡ suc m - suc (length xs) = omega arith in
    ap (λ (l : List ℕ). x ∷ l) (padded m k xs (omega arith)) ∙ ap (λ n. x ∷ take m xs ++ replicate n 0) left

-- no byte is missing in the length where four follow the gate
length_field : (rest : List ℕ) → 4 ≤ length rest → take 4 (rest ++ zeros 5) ≡ take 4 rest
length_field rest all = take-append-le 4 rest (zeros 5) all

pub behind_open : (gate : ℕ) (rest : List ℕ) → gate ≡ 1 → found_in (gate ∷ rest) ≡ chunk_in rest
behind_open gate rest is_open = cond-true (eqb gate 1) (chunk_in rest) nothing (eq-eqb gate 1 is_open)

-- a chunk that goes on past the end
pub damage_found : (b frame : List ℕ) (n : ℕ) → frame ≡ take 5 (b ++ zeros 5) → get_or frame 0 0 ≡ 1 → n ≡ from_le_bytes w32 (drop 1 frame) → length b < 5 + n → found_in b ≡ damage
unfolding zeros
damage_found [] frame n told gate len short = let none : get_or frame 0 0 ≡ 0 = ap (λ (l : List ℕ). get_or l 0 0) told in absurd (omega arith)
damage_found (x ∷ rest) frame n told gate len short =
    let is_open : x ≡ 1 = sym (ap (λ (l : List ℕ). get_or l 0 0) told) ∙ gate in
    let field : n ≡ from_le_bytes w32 (take 4 (rest ++ zeros 5)) = len ∙ ap (λ (l : List ℕ). from_le_bytes w32 (drop 1 l)) told in
    behind_open x rest is_open ∙ too_long rest n field (omega arith)
  where
    too_long : (rest : List ℕ) (n : ℕ) → n ≡ from_le_bytes w32 (take 4 (rest ++ zeros 5)) → length rest < 4 + n → chunk_in rest ≡ damage
    too_long rest n field short =
        let size = from_le_bytes w32 (take 4 rest) in
        let past : length rest < 4 + size = elim (cases_lt (length rest) 4) [
          | inl few ↦ omega arith
          | inr all ↦ (let same : n ≡ size = field ∙ ap (λ (l : List ℕ). from_le_bytes w32 l) (length_field rest all) in omega arith)
        ] in
        cond-true (ltb (length rest) (4 + size)) damage (chunk (take size (drop 4 rest))) (lt-ltb (length rest) (4 + size) past)

-- a chunk that is whole
pub chunk_found : (b frame : List ℕ) (n : ℕ) → frame ≡ take 5 (b ++ zeros 5) → get_or frame 0 0 ≡ 1 → n ≡ from_le_bytes w32 (drop 1 frame) → 5 + n ≤ length b → found_in b ≡ chunk (take n (drop 5 b))
chunk_found [] frame n told gate len whole = absurd (omega arith)
chunk_found (x ∷ rest) frame n told gate len whole =
    let is_open : x ≡ 1 = sym (ap (λ (l : List ℕ). get_or l 0 0) told) ∙ gate in
    let size = from_le_bytes w32 (take 4 rest) in
    let field : n ≡ size = len ∙ ap (λ (l : List ℕ). from_le_bytes w32 (drop 1 l)) told ∙ ap (λ (l : List ℕ). from_le_bytes w32 l) (length_field rest (omega arith)) in
    behind_open x rest is_open
    ∙ cond-false (ltb (length rest) (4 + size)) damage (chunk (take size (drop 4 rest))) (le-ltb (length rest) (4 + size) (omega arith))
    ∙ ap (λ k. chunk (take k (drop 4 rest))) (sym field)

-- a length field is spelled as it was read
length_spelled : (field : List ℕ) (n : ℕ) → length field ≡ 4 → ((k : ℕ) → get_or field k 0 < 256) → n ≡ from_le_bytes w32 field → length_bytes n ≡ field
unfolding length_bytes
length_spelled field n four each told = le_bytes_4 field n four each told

-- the bytes of a chunk that is whole
pub chunk_begins : (b frame groups : List ℕ) (n : ℕ) → frame ≡ take 5 (b ++ zeros 5) → ((k : ℕ) → get_or frame k 0 < 256) → get_or frame 0 0 ≡ 1 → n ≡ from_le_bytes w32 (drop 1 frame) → n < 2 ^ 32
    → 5 + n ≤ length b → take n (drop 5 b) ≡ groups → BeginsWithChunk groups b
chunk_begins [] frame groups n told bytes gate len small whole is = absurd (omega arith)
chunk_begins (x ∷ rest) frame groups n told bytes gate len small whole is =
    let is_open : x ≡ 1 = sym (ap (λ (l : List ℕ). get_or l 0 0) told) ∙ gate in
    let field = take 4 rest in
    let same : frame ≡ x ∷ field = told ∙ ap (λ (l : List ℕ). x ∷ l) (length_field rest (omega arith)) in
    let each : (k : ℕ) → get_or field k 0 < 256 = λ k. subst (λ (l : List ℕ). get_or l (suc k) 0 < 256) same (bytes (suc k)) in
    let told_len : n ≡ from_le_bytes w32 field = len ∙ ap (λ (l : List ℕ). from_le_bytes w32 (drop 1 l)) same in
    let long : length groups ≡ n = ap length (sym is) ∙ length-take n (drop 4 rest) ∙ omega (arith, length-drop 4 rest) in
    let spelled : length_bytes (length groups) ≡ field = ap length_bytes long ∙ length_spelled field n (omega (arith, length-take 4 rest)) each told_len in
    record {
      short = omega (arith, long);
      behind = drop n (drop 4 rest);
      parts =
          ap (λ k. k ∷ rest) is_open
          ∙ ap (λ (l : List ℕ). 1 ∷ l) (sym (take-append-drop 4 rest))
          ∙ ap (λ (l : List ℕ). 1 ∷ field ++ l) (sym (take-append-drop n (drop 4 rest)))
          ∙ ap (λ (l : List ℕ). 1 ∷ field ++ (l ++ drop n (drop 4 rest))) is
          ∙ ap (λ (l : List ℕ). 1 ∷ l ++ (groups ++ drop n (drop 4 rest))) (sym spelled)
          ∙ ap (λ (l : List ℕ). 1 ∷ l) (sym (append_assoc (length_bytes (length groups)) groups (drop n (drop 4 rest))));
    }
