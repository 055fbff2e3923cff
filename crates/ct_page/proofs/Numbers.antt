-- Numbers that are written and read again, and what a write leaves beside them.
use Rattle.std.proofs.Common.{◌≡◌, ℕ, zero, suc, [], ◌∷◌, ◌+◌, ◌^◌, ◌<◌, ◌≤◌, ◌⊎◌, inl, inr, List, ◌++◌, length, take, drop, get_or, refl, sym, ap, ◌∙◌, arith, append_assoc}
use Rattle.std.specs.Int.{w16, w64, from_le_bytes, to_le_bytes}
use Rattle.std.proofs.lemmas.List.{take_at, drop_at, length-append, length-take, length-take-le, length-drop, drop-drop, drop-take, get_or-drop}
use Rattle.std.proofs.lemmas.Slice.{take-put_mid_below, drop-put_mid}
use Rattle.std.proofs.lemmas.Nat.{from_le_bytes-to_le_bytes_2, from_le_bytes-to_le_bytes_8, le_bytes_2, le_bytes_8}
use borrow.Rule.Slice.PartMut.{put_mid}
use Rattle.ct_page.specs.Fields.{u16_at, u64_at, with_bytes, with_u16, with_u64}

-- the first of some bytes are bytes
pub bytes_of_front : (n : ℕ) (bytes : List ℕ) → ((i : ℕ) → get_or bytes i 0 < 256) → (i : ℕ) → get_or (take n bytes) i 0 < 256
bytes_of_front zero bytes below i = omega arith
bytes_of_front (suc n) [] below i = omega arith
bytes_of_front (suc n) (b ∷ bytes) below zero = below 0
bytes_of_front (suc n) (b ∷ bytes) below (suc i) = bytes_of_front n bytes (λ k. below (suc k)) i

-- bytes written through a part of a slice
pub with_bytes-put_mid : (at n : ℕ) (bytes page : List ℕ) → length bytes ≡ n → put_mid at n page bytes ≡ with_bytes at bytes page
with_bytes-put_mid at n bytes page len =
    sym (append_assoc (take at page) bytes (drop n (drop at page))) ∙ ap (λ (l : List ℕ). take at page ++ bytes ++ l) (drop-drop n at page ∙ ap (λ k. drop (at + k) page) (sym len))

-- as many bytes as before
pub length-with_bytes : (at : ℕ) (bytes page : List ℕ) → at + length bytes ≤ length page → length (with_bytes at bytes page) ≡ length page
length-with_bytes at bytes page within =
    omega (arith, length-append (take at page ++ bytes) (drop (at + length bytes) page), length-append (take at page) bytes, length-take-le at page (omega arith), length-drop (at + length bytes) page)

-- the bytes that were written
pub take-with_bytes : (at : ℕ) (bytes page : List ℕ) → at + length bytes ≤ length page → take (length bytes) (drop at (with_bytes at bytes page)) ≡ bytes
take-with_bytes at bytes page within =
    let behind = drop (at + length bytes) page in
    ap (λ (l : List ℕ). take (length bytes) (drop at l)) (append_assoc (take at page) bytes behind) ∙ ap (take (length bytes)) (drop_at (take at page) (bytes ++ behind) at (length-take-le at page (omega arith))) ∙ take_at bytes behind (length bytes) refl

-- the bytes in front of them
pub front-with_bytes : (n at : ℕ) (bytes page : List ℕ) → n ≤ at → at + length bytes ≤ length page → take n (with_bytes at bytes page) ≡ take n page
front-with_bytes n at bytes page before within =
    ap (take n) (sym (with_bytes-put_mid at (length bytes) bytes page refl)) ∙ take-put_mid_below at (length bytes) page bytes n before (omega arith)

-- the bytes behind them
pub behind-with_bytes : (n at : ℕ) (bytes page : List ℕ) → at + length bytes ≤ n → at + length bytes ≤ length page → drop n (with_bytes at bytes page) ≡ drop n page
behind-with_bytes n at bytes page behind within =
    ap (drop n) (sym (with_bytes-put_mid at (length bytes) bytes page refl)) ∙ drop-put_mid at (length bytes) page bytes n behind (omega arith) refl

-- so many bytes apart from them
pub apart-with_bytes : (n other at : ℕ) (bytes page : List ℕ) → at + length bytes ≤ length page → (at + length bytes ≤ other) ⊎ (other + n ≤ at) → take n (drop other (with_bytes at bytes page)) ≡ take n (drop other page)
apart-with_bytes n other at bytes page within (inl behind) =
    ap (take n) (behind-with_bytes other at bytes page behind within)
apart-with_bytes n other at bytes page within (inr before) =
    sym (drop-take other n (with_bytes at bytes page)) ∙ ap (drop other) (front-with_bytes (other + n) at bytes page before within) ∙ drop-take other n page

-- bytes written over others of the same number
pub with_bytes-with_bytes : (at : ℕ) (first second page : List ℕ) → length first ≡ length second → at + length first ≤ length page → with_bytes at second (with_bytes at first page) ≡ with_bytes at second page
with_bytes-with_bytes at first second page same within =
    let front = front-with_bytes at at first page (omega arith) within in
    let behind = behind-with_bytes (at + length second) at first page (omega arith) within in
    ap (λ (l : List ℕ). l ++ second ++ drop (at + length second) (with_bytes at first page)) front ∙ ap (λ (l : List ℕ). take at page ++ second ++ l) behind

-- a number that is written is read again
pub u16_at-with_u16 : (at n : ℕ) (page : List ℕ) → at + 2 ≤ length page → n < 2 ^ 16 → u16_at at (with_u16 at n page) ≡ n
unfolding u16_at with_u16
u16_at-with_u16 at n page within small =
    ap (from_le_bytes w16) (take-with_bytes at (to_le_bytes w16 n) page within) ∙ from_le_bytes-to_le_bytes_2 n small

pub u64_at-with_u64 : (at n : ℕ) (page : List ℕ) → at + 8 ≤ length page → n < 2 ^ 64 → u64_at at (with_u64 at n page) ≡ n
unfolding u64_at with_u64
u64_at-with_u64 at n page within small =
    ap (from_le_bytes w64) (take-with_bytes at (to_le_bytes w64 n) page within) ∙ from_le_bytes-to_le_bytes_8 n small

-- a number apart from the one that is written
pub u16_at-with_u16_apart : (at other n : ℕ) (page : List ℕ) → at + 2 ≤ length page → (at + 2 ≤ other) ⊎ (other + 2 ≤ at) → u16_at other (with_u16 at n page) ≡ u16_at other page
unfolding u16_at with_u16
u16_at-with_u16_apart at other n page within apart =
    ap (from_le_bytes w16) (apart-with_bytes 2 other at (to_le_bytes w16 n) page within apart)

pub u64_at-with_u16_apart : (at other n : ℕ) (page : List ℕ) → at + 2 ≤ length page → (at + 2 ≤ other) ⊎ (other + 8 ≤ at) → u64_at other (with_u16 at n page) ≡ u64_at other page
unfolding u64_at with_u16
u64_at-with_u16_apart at other n page within apart =
    ap (from_le_bytes w64) (apart-with_bytes 8 other at (to_le_bytes w16 n) page within apart)

pub u16_at-with_u64_apart : (at other n : ℕ) (page : List ℕ) → at + 8 ≤ length page → (at + 8 ≤ other) ⊎ (other + 2 ≤ at) → u16_at other (with_u64 at n page) ≡ u16_at other page
unfolding u16_at with_u64
u16_at-with_u64_apart at other n page within apart =
    ap (from_le_bytes w16) (apart-with_bytes 2 other at (to_le_bytes w64 n) page within apart)

pub u64_at-with_u64_apart : (at other n : ℕ) (page : List ℕ) → at + 8 ≤ length page → (at + 8 ≤ other) ⊎ (other + 8 ≤ at) → u64_at other (with_u64 at n page) ≡ u64_at other page
unfolding u64_at with_u64
u64_at-with_u64_apart at other n page within apart =
    ap (from_le_bytes w64) (apart-with_bytes 8 other at (to_le_bytes w64 n) page within apart)

pub length-with_u16 : (at n : ℕ) (page : List ℕ) → at + 2 ≤ length page → length (with_u16 at n page) ≡ length page
unfolding with_u16
length-with_u16 at n page within = length-with_bytes at (to_le_bytes w16 n) page within

pub length-with_u64 : (at n : ℕ) (page : List ℕ) → at + 8 ≤ length page → length (with_u64 at n page) ≡ length page
unfolding with_u64
length-with_u64 at n page within = length-with_bytes at (to_le_bytes w64 n) page within

-- a part of bytes has bytes
pub bytes_of_part : (n at : ℕ) (page : List ℕ) → ((i : ℕ) → get_or page i 0 < 256) → (i : ℕ) → get_or (take n (drop at page)) i 0 < 256
bytes_of_part n at page bytes i = bytes_of_front n (drop at page) (λ k. let e = get_or-drop at page k 0 in omega (arith, bytes (at + k))) i

-- the bytes of a number that is read are its spelling
pub bytes_of_u16 : (at : ℕ) (page : List ℕ) → ((i : ℕ) → get_or page i 0 < 256) → at + 2 ≤ length page → to_le_bytes w16 (u16_at at page) ≡ take 2 (drop at page)
unfolding u16_at
bytes_of_u16 at page bytes within =
    le_bytes_2 (take 2 (drop at page)) _ (omega (arith, length-take 2 (drop at page), length-drop at page)) (bytes_of_part 2 at page bytes) refl

pub bytes_of_u64 : (at : ℕ) (page : List ℕ) → ((i : ℕ) → get_or page i 0 < 256) → at + 8 ≤ length page → to_le_bytes w64 (u64_at at page) ≡ take 8 (drop at page)
unfolding u64_at
bytes_of_u64 at page bytes within =
    le_bytes_8 (take 8 (drop at page)) _ (omega (arith, length-take 8 (drop at page), length-drop at page)) (bytes_of_part 8 at page bytes) refl
