-- Bounds and entries are read back as they were written, and written as they were read.
use Rattle.std.proofs.Common.{◌≡◌, ℕ, zero, suc, ◌+◌, ◌*◌, ◌<◌, ◌≤◌, Bool, true, false, ◌||◌, cond, eqb, List, ◌∷◌, ◌++◌, length, get_or, take, drop, map, replicate, refl, sym, ap, ◌∙◌, arith, subst, Option, Some, None, ⊎_elim}
use Rattle.std.specs.List.{flat_map}
use Rattle.std.specs.Int.{w64, from_be_bytes, to_be_bytes, from_le_bytes, to_le_bytes}
use Rattle.std.proofs.Math.Seq.{take-add}
use Rattle.std.proofs.lemmas.Bool.{or_cases, eqb-true}
use Rattle.std.proofs.lemmas.Nat.{be_bytes_8, le_bytes_8}
use Rattle.std.proofs.lemmas.List.{length-take-le, length-drop, length-append, get_or-drop, get_or-take, drop_more, drop-drop, take_all, take_at, append-nil, length-replicate}
use Rattle.std.proofs.lemmas.List.Concat.{flat_map-cons}
use Rattle.ct_definitions.specs.Pairs.{Pair}
use Rattle.ct_page.specs.Fields.{are_zero}
use Rattle.ct_page.proofs.Numbers.{bytes_of_front, bytes_of_part}
use Rattle.ct_page.proofs.Zeros.{zeros_are, are_zero-replicate, are_zero-get_or}
use Rattle.ct_node.specs.Nodes.{width_of}
use Rattle.ct_node.specs.Cells.{cells_of, pair_at, entry_at, entries_of, pair_bytes, entry_bytes}
use Rattle.ct_node.specs.Pages.{is_bound, bound_at, bound_bytes, IsFitting}
use Rattle.ct_node.proofs.CellLemmas.{cells_of-front, length-cells_of}
use Rattle.ct_node.proofs.Entries.{pair_at-bytes}

-- each of these is a byte
abbrev pub AreBytes : List ℕ → Type 0
AreBytes bytes = (i : ℕ) → get_or bytes i 0 < 256

pub AreBytes-drop : (n : ℕ) (bytes : List ℕ) → AreBytes bytes → AreBytes (drop n bytes)
AreBytes-drop n bytes all i = subst (λ b. b < 256) (sym (get_or-drop n bytes i 0)) (all (n + i))

-- a pair that was read is written with its bytes
pub pair_bytes-at : (key_len : ℕ) (bytes : List ℕ) → AreBytes bytes → key_len + 8 ≤ length bytes → pair_bytes (pair_at key_len bytes) ≡ take (key_len + 8) bytes
pair_bytes-at key_len bytes all fits =
    let behind = length-drop key_len bytes in
    let eight : length (take 8 (drop key_len bytes)) ≡ 8 = length-take-le 8 (drop key_len bytes) (omega arith) in
    ap (λ ys. take key_len bytes ++ ys) (be_bytes_8 (take 8 (drop key_len bytes)) (from_be_bytes w64 (take 8 (drop key_len bytes))) eight (bytes_of_part 8 key_len bytes all) refl)
    ∙ sym (take-add key_len 8 bytes)

-- and so is an entry
pub entry_bytes-at : (key_len : ℕ) (leaf : Bool) (bytes : List ℕ) → AreBytes bytes → width_of key_len leaf ≤ length bytes → entry_bytes leaf (entry_at key_len leaf bytes) ≡ take (width_of key_len leaf) bytes
entry_bytes-at key_len true bytes all fits = append-nil (pair_bytes (pair_at key_len bytes)) ∙ pair_bytes-at key_len bytes all fits
entry_bytes-at key_len false bytes all fits =
    let behind = length-drop (key_len + 8) bytes in
    let child = from_le_bytes w64 (take 8 (drop (key_len + 8) bytes)) in
    let eight : length (take 8 (drop (key_len + 8) bytes)) ≡ 8 = length-take-le 8 (drop (key_len + 8) bytes) (omega arith) in
    let sum : key_len + 8 + 8 ≡ key_len + 16 = omega arith in
    ap (λ ys. ys ++ to_le_bytes w64 child) (pair_bytes-at key_len bytes all (omega arith))
    ∙ ap (λ ys. take (key_len + 8) bytes ++ ys) (le_bytes_8 (take 8 (drop (key_len + 8) bytes)) child eight (bytes_of_part 8 (key_len + 8) bytes all) refl)
    ∙ sym (take-add (key_len + 8) 8 bytes)
    ∙ ap (λ n. take n bytes) sum

-- the entries that were read are written with the bytes of their cells
pub entries_bytes : (key_len : ℕ) (leaf : Bool) (count : ℕ) (bytes : List ℕ) → AreBytes bytes → count * width_of key_len leaf ≤ length bytes → flat_map (entry_bytes leaf) (entries_of key_len leaf count bytes) ≡ take (count * width_of key_len leaf) bytes
entries_bytes key_len leaf zero bytes all fits = let none : 0 ≡ zero * width_of key_len leaf = omega arith in ap (λ n. take n bytes) none
entries_bytes key_len leaf (suc count) bytes all fits =
    let width = width_of key_len leaf in
    let more : suc count * width ≡ width + count * width = omega arith in
    let behind = length-drop width bytes in
    let cell = length-take-le width bytes (omega arith) in
    let first : entry_bytes leaf (entry_at key_len leaf (take width bytes)) ≡ take width bytes =
    entry_bytes-at key_len leaf (take width bytes) (bytes_of_front width bytes all) (omega arith) ∙ take_all width (take width bytes) (omega arith) in
    let rest : flat_map (entry_bytes leaf) (entries_of key_len leaf count (drop width bytes)) ≡ take (count * width) (drop width bytes) =
    entries_bytes key_len leaf count (drop width bytes) (AreBytes-drop width bytes all) (omega arith) in
    flat_map-cons (entry_bytes leaf) (entry_at key_len leaf (take width bytes)) (entries_of key_len leaf count (drop width bytes))
    ∙ ap (λ ys. ys ++ flat_map (entry_bytes leaf) (entries_of key_len leaf count (drop width bytes))) first
    ∙ ap (λ ys. take width bytes ++ ys) rest
    ∙ sym (take-add width (count * width) bytes)
    ∙ ap (λ n. take n bytes) (sym more)

-- entries are those of any bytes with the same cells
pub entries_of-same : (key_len : ℕ) (leaf : Bool) (count : ℕ) (old new : List ℕ) → take (count * width_of key_len leaf) new ≡ take (count * width_of key_len leaf) old → count * width_of key_len leaf ≤ length old → entries_of key_len leaf count new ≡ entries_of key_len leaf count old
entries_of-same key_len leaf count old new is fits =
    let width = width_of key_len leaf in
    ap (map (entry_at key_len leaf)) (cells_of-front width count count old new (omega arith) is fits ∙ take_all count (cells_of width count old) (omega (arith, length-cells_of width count old)))

pub length-bound_bytes : (key_len : ℕ) (bound : Option Pair) → IsFitting key_len bound → length (bound_bytes key_len bound) ≡ 9 + key_len
length-bound_bytes key_len None fits = length-replicate {A = ℕ} (9 + key_len) 0
length-bound_bytes key_len (Some pair) fits =
    let long = length-append pair.key (to_be_bytes w64 pair.num) in
    let same = fits.0 in
    omega arith

first_byte : (at : ℕ) (page : List ℕ) → get_or page at 0 ≡ get_or (drop at page) 0 0
first_byte at page = let same : at ≡ at + 0 = omega arith in ap (λ i. get_or page i 0) same ∙ sym (get_or-drop at page 0 0)

-- the zeros of an open bound, from the first on
open_text : (key_len : ℕ) (rest : List ℕ) → replicate (9 + key_len) 0 ++ rest ≡ 0 ∷ (replicate (8 + key_len) 0 ++ rest)
open_text key_len rest = let next : 9 + key_len ≡ suc (8 + key_len) = omega arith in ap (λ n. replicate n 0 ++ rest) next

-- a bound that was written is read
pub bound_at-bytes : (key_len at : ℕ) (bound : Option Pair) (page rest : List ℕ) → IsFitting key_len bound → drop at page ≡ bound_bytes key_len bound ++ rest → bound_at key_len at page ≡ bound
bound_at-bytes key_len at None page rest fits is =
    let first : get_or page at 0 ≡ 0 = first_byte at page ∙ ap (λ ys. get_or ys 0 0) (is ∙ open_text key_len rest) in
    ap (λ n. cond (eqb n 0) None (Some (pair_at key_len (drop (at + 1) page)))) first
bound_at-bytes key_len at (Some pair) page rest fits is =
    let first : get_or page at 0 ≡ 1 = first_byte at page ∙ ap (λ ys. get_or ys 0 0) is in
    let behind : drop (at + 1) page ≡ pair_bytes pair ++ rest = sym (drop-drop 1 at page) ∙ ap (drop 1) is in
    ap (λ n. cond (eqb n 0) None (Some (pair_at key_len (drop (at + 1) page)))) first
    ∙ ap (λ ys. Some (pair_at key_len ys)) behind
    ∙ ap Some (pair_at-bytes key_len pair rest fits.0 fits.1)

-- and it is in the grammar
pub is_bound-bytes : (key_len at : ℕ) (bound : Option Pair) (page rest : List ℕ) → drop at page ≡ bound_bytes key_len bound ++ rest → is_bound key_len at page ≡ true
is_bound-bytes key_len at None page rest is =
    let first : get_or page at 0 ≡ 0 = first_byte at page ∙ ap (λ ys. get_or ys 0 0) (is ∙ open_text key_len rest) in
    let zeros : take (9 + key_len) (drop at page) ≡ replicate (9 + key_len) 0 = ap (take (9 + key_len)) is ∙ take_at (replicate (9 + key_len) 0) rest (9 + key_len) (length-replicate {A = ℕ} (9 + key_len) 0) in
    ap (λ n. eqb n 1 || are_zero (take (9 + key_len) (drop at page))) first ∙ ap are_zero zeros ∙ are_zero-replicate (9 + key_len)
is_bound-bytes key_len at (Some pair) page rest is =
    let first : get_or page at 0 ≡ 1 = first_byte at page ∙ ap (λ ys. get_or ys 0 0) is in
    ap (λ n. eqb n 1 || are_zero (take (9 + key_len) (drop at page))) first

-- a bound that was read is written with its bytes
pub bound_bytes-at : (key_len at : ℕ) (page : List ℕ) → AreBytes page → at + (9 + key_len) ≤ length page → is_bound key_len at page ≡ true → bound_bytes key_len (bound_at key_len at page) ≡ take (9 + key_len) (drop at page)
bound_bytes-at key_len at page all fits is = ⊎_elim pair open_one (or_cases (eqb (get_or page at 0) 1) (are_zero (take (9 + key_len) (drop at page))) is)
  where
    told : (n : ℕ) → get_or page at 0 ≡ n → bound_bytes key_len (bound_at key_len at page) ≡ bound_bytes key_len (cond (eqb n 0) None (Some (pair_at key_len (drop (at + 1) page))))
    told n first = ap (λ m. bound_bytes key_len (cond (eqb m 0) None (Some (pair_at key_len (drop (at + 1) page))))) first

    pair : eqb (get_or page at 0) 1 ≡ true → bound_bytes key_len (bound_at key_len at page) ≡ take (9 + key_len) (drop at page)
    pair one =
        let first : get_or page at 0 ≡ 1 = eqb-true (get_or page at 0) 1 one in
        let next : suc (key_len + 8) ≡ 9 + key_len = omega arith in
        let behind : drop at page ≡ 1 ∷ drop (at + 1) page = drop_more page at 0 (omega arith) ∙ ap (λ n. n ∷ drop (at + 1) page) first in
        told 1 first
        ∙ ap (λ ys. 1 ∷ ys) (pair_bytes-at key_len (drop (at + 1) page) (AreBytes-drop (at + 1) page all) (omega (arith, length-drop (at + 1) page)))
        ∙ ap (λ ys. take (suc (key_len + 8)) ys) (sym behind)
        ∙ ap (λ n. take n (drop at page)) next

    open_one : are_zero (take (9 + key_len) (drop at page)) ≡ true → bound_bytes key_len (bound_at key_len at page) ≡ take (9 + key_len) (drop at page)
    open_one zeros =
        let long : length (take (9 + key_len) (drop at page)) ≡ 9 + key_len = length-take-le (9 + key_len) (drop at page) (omega (arith, length-drop at page)) in
        let first : get_or page at 0 ≡ 0 = first_byte at page ∙ sym (get_or-take (9 + key_len) (drop at page) 0 0 (omega arith)) ∙ are_zero-get_or 0 (take (9 + key_len) (drop at page)) zeros in
        told 0 first ∙ sym (zeros_are (take (9 + key_len) (drop at page)) zeros ∙ ap (λ n. replicate n 0) long)
