-- The head of a log that is cut short, or goes on: the bytes that are missing tell what zeros would.
use Rattle.std.proofs.Common.{◌≡◌, ◌≤◌, ◌<◌, ◌+◌, ◌-◌, ◌^◌, IsTrue, ℕ, zero, suc, Bool, true, false, cond, ◌&&◌, List, [], ◌∷◌, ◌++◌, length, take, drop, replicate, Option, Some, None, Ok, inl, inr, refl, sym, ap, ◌∙◌, arith, length-append, length-drop, length-take, nat_eq}
use Rattle.std.specs.Prelude.{slice_get, nat_le, bytes_eq}
use Rattle.std.proofs.lemmas.Bool.{cases_Bool, cases_lt}
use Rattle.std.proofs.lemmas.Bool.Decides.{nat_tests}
use Rattle.std.proofs.lemmas.List.{take_all, take-append-le, drop-append-le, take-append-drop, append-nil, drop_all, length-replicate}
use Rattle.std.proofs.lemmas.List.Folds.{list_all-append}
use Rattle.std.specs.Int.{w64, from_le_bytes}
use Rattle.ct_log.specs.Front.{zeros, signature, is_id}
use Rattle.ct_log.specs.Heads.{page_at, is_open, are_zero, before_zero, counting, number_at, id_field, id_of, is_header, has_open_header, is_cell_open, start_of, is_start, is_cell, told_by, told_head, closed_head, head_in}
use Rattle.ct_log.specs.Reading.{log_bytes}
use Rattle.ct_log.specs.declared.head.Head.{Head}
use Rattle.ct_log.specs.declared.head.Start.{Start}
use Rattle.ct_log.proofs.HeadReads.{pick}
use Rattle.ct_log.proofs.MadeHeads.{front_tells}
use Rattle.ct_recover.specs.Opening.{filled_to}

-- ---- the front of zeros behind some bytes

record IsPadded (bytes front : List ℕ) : Type 0 where
  count : ℕ
  is : bytes ≡ front ++ replicate count 0

take_zeros : (m n : ℕ) → IsPadded (take m (replicate n 0)) []
take_zeros zero n = record { count = 0; is = refl }
take_zeros (suc m) zero = record { count = 0; is = refl }
take_zeros (suc m) (suc n) = let p = take_zeros m n in record { count = suc p.count; is = ap (λ (l : List ℕ). 0 ∷ l) p.is }

drop_zeros : (k n : ℕ) → IsPadded (drop k (replicate n 0)) []
drop_zeros zero n = record { count = n; is = refl }
drop_zeros (suc k) zero = record { count = 0; is = refl }
drop_zeros (suc k) (suc n) = drop_zeros k n

take_padded : (m n : ℕ) (bytes : List ℕ) → IsPadded (take m (bytes ++ replicate n 0)) (take m bytes)
take_padded zero n bytes = record { count = 0; is = refl }
take_padded (suc m) n [] = take_zeros (suc m) n
take_padded (suc m) n (x ∷ bytes) = let p = take_padded m n bytes in record { count = p.count; is = ap (λ (l : List ℕ). x ∷ l) p.is }

drop_padded : (k n : ℕ) (bytes : List ℕ) → IsPadded (drop k (bytes ++ replicate n 0)) (drop k bytes)
drop_padded zero n bytes = record { count = n; is = refl }
drop_padded (suc k) n [] = drop_zeros (suc k) n
drop_padded (suc k) n (x ∷ bytes) = drop_padded k n bytes

page_padded : (k n : ℕ) (bytes : List ℕ) → IsPadded (page_at k (bytes ++ replicate n 0)) (page_at k bytes)
page_padded k n bytes =
    let p = drop_padded k n bytes in
    let q = take_padded 4096 p.count (drop k bytes) in
    record { count = q.count; is = ap (λ (l : List ℕ). take 4096 l) p.is ∙ q.is }

-- a gate that is missing is not open, as a zero is not
shut_zeros : (n k : ℕ) → is_open (slice_get (replicate n 0) k) ≡ false
shut_zeros zero k = refl
shut_zeros (suc n) zero = refl
shut_zeros (suc n) (suc k) = shut_zeros n k

gate_padded : (bytes : List ℕ) (n k : ℕ) → is_open (slice_get (bytes ++ replicate n 0) k) ≡ is_open (slice_get bytes k)
gate_padded [] n k = shut_zeros n k
gate_padded (x ∷ bytes) n zero = refl
gate_padded (x ∷ bytes) n (suc k) = gate_padded bytes n k

open_within : (bytes : List ℕ) (k : ℕ) → is_open (slice_get bytes k) ≡ true → k < length bytes
open_within [] k h = let none : ⊥ = cc h in absurd none
open_within (x ∷ bytes) zero h = omega arith
open_within (x ∷ bytes) (suc k) h = let below = open_within bytes k h in omega (arith, below)

zeros_zero : (n : ℕ) → are_zero (replicate n 0) ≡ true
zeros_zero zero = refl
zeros_zero (suc n) = zeros_zero n

and_true : (b : Bool) → (b && true) ≡ b
and_true false = refl
and_true true = refl

zero_padded : (bytes : List ℕ) (n k : ℕ) → k ≤ length bytes → are_zero (drop k (bytes ++ replicate n 0)) ≡ are_zero (drop k bytes)
zero_padded bytes n k within =
    ap are_zero (drop-append-le k bytes (replicate n 0) within) ∙ list_all-append (λ byte. nat_eq byte 0) (drop k bytes) (replicate n 0)
    ∙ ap (λ b. are_zero (drop k bytes) && b) (zeros_zero n) ∙ and_true (are_zero (drop k bytes))

-- bytes that are there
part_padded : (bytes : List ℕ) (n k long : ℕ) → k + long ≤ length bytes → take long (drop k (bytes ++ replicate n 0)) ≡ take long (drop k bytes)
part_padded bytes n k long within =
    ap (λ (l : List ℕ). take long l) (drop-append-le k bytes (replicate n 0) (omega arith)) ∙ take-append-le long (drop k bytes) (replicate n 0) (omega (arith, length-drop k bytes))

-- ---- the parts of a head

number_padded : (page : List ℕ) (n k : ℕ) → k + 8 ≤ length page → number_at k (page ++ replicate n 0) ≡ number_at k page
number_padded page n k within = ap (λ (l : List ℕ). from_le_bytes w64 l) (part_padded page n k 8 within)

id_padded : (page : List ℕ) (n : ℕ) → 37 ≤ length page → id_field (page ++ replicate n 0) ≡ id_field page
id_padded page n within = part_padded page n 12 16 (omega (arith, within))

id_of_padded : (page : List ℕ) (n : ℕ) → 37 ≤ length page → id_of (page ++ replicate n 0) ≡ id_of page
id_of_padded page n within = ap before_zero (id_padded page n within)

-- whether the parts of a header are in order
abbrev header_of : List ℕ → List ℕ → List ℕ → ℕ → Bool → Bool
header_of sign id field number rest = bytes_eq sign signature && is_id id && are_zero (drop (length id) field) && nat_le number (2 ^ 63) && rest

header_padded : (page : List ℕ) (n : ℕ) → 37 ≤ length page → is_header (page ++ replicate n 0) ≡ is_header page
header_padded page n within =
    let p = page ++ replicate n 0 in
    ap (λ (l : List ℕ). header_of l (id_of p) (id_field p) (number_at 28 p) (are_zero (drop 37 p))) (take-append-le 12 page (replicate n 0) (omega (arith, within)))
    ∙ ap (λ (l : List ℕ). header_of (take 12 page) l (id_field p) (number_at 28 p) (are_zero (drop 37 p))) (id_of_padded page n within)
    ∙ ap (λ (l : List ℕ). header_of (take 12 page) (id_of page) l (number_at 28 p) (are_zero (drop 37 p))) (id_padded page n within)
    ∙ ap (λ k. header_of (take 12 page) (id_of page) (id_field page) k (are_zero (drop 37 p))) (number_padded page n 28 (omega (arith, within)))
    ∙ ap (λ b. header_of (take 12 page) (id_of page) (id_field page) (number_at 28 page) b) (zero_padded page n 37 within)

abbrev fields : ℕ → ℕ → ℕ → ℕ → Start
fields sequence place ordinal last = record { sequence = sequence; place = place; ordinal = ordinal; last = last }

start_padded : (page : List ℕ) (n : ℕ) → 33 ≤ length page → start_of (page ++ replicate n 0) ≡ start_of page
start_padded page n within =
    let p = page ++ replicate n 0 in
    ap (λ k. fields k (number_at 8 p) (number_at 16 p) (number_at 24 p)) (number_padded page n 0 (omega (arith, within)))
    ∙ ap (λ k. fields (number_at 0 page) k (number_at 16 p) (number_at 24 p)) (number_padded page n 8 (omega (arith, within)))
    ∙ ap (λ k. fields (number_at 0 page) (number_at 8 page) k (number_at 24 p)) (number_padded page n 16 (omega (arith, within)))
    ∙ ap (λ k. fields (number_at 0 page) (number_at 8 page) (number_at 16 page) k) (number_padded page n 24 (omega (arith, within)))

-- whether a cell is in order, and what it tells, by its parts
abbrev cell_of : Bool → Start → Bool → Bool
cell_of gate start rest = cond gate (is_start start && rest) true

abbrev told_of : Bool → Start → Option Start
told_of gate start = cond gate (Some start) None

cell_padded : (page : List ℕ) (n : ℕ) → (is_cell (page ++ replicate n 0) ≡ is_cell page) × (told_by (page ++ replicate n 0) ≡ told_by page)
cell_padded page n =
    let p = page ++ replicate n 0 in
    let gate : is_cell_open p ≡ is_cell_open page = gate_padded page n 32 in
    elim (cases_Bool (is_cell_open page)) [
      | inl is_there ↦
          (let within : 33 ≤ length page = open_within page 32 is_there in
          let start = start_padded page n within in (
            ap (λ b. cell_of b (start_of p) (are_zero (drop 33 p))) gate ∙ ap (λ (s : Start). cell_of (is_cell_open page) s (are_zero (drop 33 p))) start
                ∙ ap (λ b. cell_of (is_cell_open page) (start_of page) b) (zero_padded page n 33 within),
            ap (λ b. told_of b (start_of p)) gate ∙ ap (λ (s : Start). told_of (is_cell_open page) s) start,
          ))
      | inr shut ↦ (
        ap (λ b. cell_of b (start_of p) (are_zero (drop 33 p))) (gate ∙ shut) ∙ ap (λ b. cell_of b (start_of page) (are_zero (drop 33 page))) (sym shut),
        ap (λ b. told_of b (start_of p)) (gate ∙ shut) ∙ ap (λ b. told_of b (start_of page)) (sym shut),
      )
    ]

-- ---- the head

abbrev head_of : List ℕ → ℕ → Option Start → Option Start → Head
head_of id base first second = record { id = id; base = base; gate = true; start = counting base first second }

-- zeros behind an open header tell nothing
head_padded : (bytes : List ℕ) (n : ℕ) → has_open_header bytes ≡ true → head_in (bytes ++ replicate n 0) ≡ head_in bytes
head_padded bytes n gate =
    let f = bytes ++ replicate n 0 in
    let page = page_at 0 bytes in
    let zeroth = page_padded 0 n bytes in
    let first = page_padded 4096 n bytes in
    let second = page_padded 8192 n bytes in
    let there = open_within bytes 36 gate in
    let within : 37 ≤ length page = omega (arith, there, length-take 4096 bytes) in
    let header : is_header (page_at 0 f) ≡ is_header page = ap is_header zeroth.is ∙ header_padded page zeroth.count within in
    let one = cell_padded (page_at 4096 bytes) first.count in
    let two = cell_padded (page_at 8192 bytes) second.count in
    let cell_one : is_cell (page_at 4096 f) ≡ is_cell (page_at 4096 bytes) = ap is_cell first.is ∙ one.0 in
    let cell_two : is_cell (page_at 8192 f) ≡ is_cell (page_at 8192 bytes) = ap is_cell second.is ∙ two.0 in
    let told_one : told_by (page_at 4096 f) ≡ told_by (page_at 4096 bytes) = ap told_by first.is ∙ one.1 in
    let told_two : told_by (page_at 8192 f) ≡ told_by (page_at 8192 bytes) = ap told_by second.is ∙ two.1 in
    let id : id_of (page_at 0 f) ≡ id_of page = ap id_of zeroth.is ∙ id_of_padded page zeroth.count within in
    let base : number_at 28 (page_at 0 f) ≡ number_at 28 page = ap (λ (l : List ℕ). number_at 28 l) zeroth.is ∙ number_padded page zeroth.count 28 (omega (arith, within)) in
    let told : told_head f ≡ told_head bytes =
    ap (λ (l : List ℕ). head_of l (number_at 28 (page_at 0 f)) (told_by (page_at 4096 f)) (told_by (page_at 8192 f))) id
    ∙ ap (λ k. head_of (id_of page) k (told_by (page_at 4096 f)) (told_by (page_at 8192 f))) base
    ∙ ap (λ (o : Option Start). head_of (id_of page) (number_at 28 page) o (told_by (page_at 8192 f))) told_one
    ∙ ap (λ (o : Option Start). head_of (id_of page) (number_at 28 page) (told_by (page_at 4096 bytes)) o) told_two in
    ap (λ b. pick b (is_header (page_at 0 f)) (is_cell (page_at 4096 f)) (is_cell (page_at 8192 f)) (told_head f)) (gate_padded bytes n 36)
    ∙ ap (λ b. pick (has_open_header bytes) b (is_cell (page_at 4096 f)) (is_cell (page_at 8192 f)) (told_head f)) header
    ∙ ap (λ b. pick (has_open_header bytes) (is_header page) b (is_cell (page_at 8192 f)) (told_head f)) cell_one
    ∙ ap (λ b. pick (has_open_header bytes) (is_header page) (is_cell (page_at 4096 bytes)) b (told_head f)) cell_two
    ∙ ap (λ (h : Head). pick (has_open_header bytes) (is_header page) (is_cell (page_at 4096 bytes)) (is_cell (page_at 8192 bytes)) h) told

-- the head is that of the bytes within a log's last end
pub head_within : (content : List ℕ) → head_in (log_bytes content) ≡ head_in content
head_within content = elim (cases_lt (length content) 12288) [
  | inl few ↦ ap head_in (take_all (2 ^ 62) content (omega (arith, few)))
  | inr many ↦
      sym (front_tells (log_bytes content) (drop (2 ^ 62) content) (omega (arith, many, length-take (2 ^ 62) content)))
      ∙ ap head_in (take-append-drop (2 ^ 62) content)
]

-- and of the front up to a place behind the cells, with zeros for what is missing
pub front_filled : (place : ℕ) (bytes : List ℕ) → 12288 ≤ place → has_open_header bytes ≡ true → head_in (take place (filled_to place bytes)) ≡ head_in bytes
unfolding zeros
front_filled place bytes behind gate =
    let f = filled_to place bytes in
    let long : length f ≡ length bytes + (place - length bytes) = length-append bytes (replicate (place - length bytes) 0) ∙ omega (arith, length-replicate {A = ℕ} (place - length bytes) 0) in
    let front : length (take place f) ≡ place = length-take place f ∙ omega (arith, long) in
    sym (front_tells (take place f) (drop place f) (omega (arith, front, behind))) ∙ ap head_in (take-append-drop place f)
    ∙ head_padded bytes (place - length bytes) gate

pub length-filled : (place : ℕ) (bytes : List ℕ) → length (take place (filled_to place bytes)) ≡ place
unfolding zeros
length-filled place bytes =
    let f = filled_to place bytes in
    let long : length f ≡ length bytes + (place - length bytes) = length-append bytes (replicate (place - length bytes) 0) ∙ omega (arith, length-replicate {A = ℕ} (place - length bytes) 0) in
    length-take place f ∙ omega (arith, long)

-- nothing is filled behind the place
pub behind_filled : (place : ℕ) (bytes : List ℕ) → drop place (filled_to place bytes) ≡ drop place bytes
unfolding zeros
behind_filled place bytes = elim (cases_lt (length bytes) place) [
  | inl few ↦
      (let f = filled_to place bytes in
      let long : length f ≡ length bytes + (place - length bytes) = length-append bytes (replicate (place - length bytes) 0) ∙ omega (arith, length-replicate {A = ℕ} (place - length bytes) 0) in
      drop_all place f (omega (arith, long, few)) ∙ sym (drop_all place bytes (omega (arith, few))))
  | inr all ↦
      (let none : place - length bytes ≡ 0 = omega (arith, all) in
      ap (λ k. drop place (bytes ++ replicate k 0)) none ∙ ap (λ (l : List ℕ). drop place l) (append-nil bytes))
]

-- nothing at all, where none is missing
pub filled_all : (place : ℕ) (bytes : List ℕ) → place ≤ length bytes → filled_to place bytes ≡ bytes
unfolding zeros
filled_all place bytes all = let none : place - length bytes ≡ 0 = omega (arith, all) in ap (λ k. bytes ++ replicate k 0) none ∙ append-nil bytes

-- the header's gate is open where the head says so
pub gate_told : (bytes : List ℕ) (head : Head) → head_in bytes ≡ Ok head → head.gate ≡ has_open_header bytes
gate_told bytes head told = by_tests (has_open_header bytes) (is_header (page_at 0 bytes)) (is_cell (page_at 4096 bytes)) (is_cell (page_at 8192 bytes)) told
  where
    by_tests : (gate header first second : Bool) → pick gate header first second (told_head bytes) ≡ Ok head → head.gate ≡ gate
    by_tests false header first second is = let same : closed_head ≡ head = cc is in ap (λ (h : Head). h.gate) (sym same)
    by_tests true false first second is = let none : ⊥ = cc is in absurd none
    by_tests true true false second is = let none : ⊥ = cc is in absurd none
    by_tests true true true false is = let none : ⊥ = cc is in absurd none
    by_tests true true true true is = let same : told_head bytes ≡ head = cc is in ap (λ (h : Head). h.gate) (sym same)

-- chunks stand behind the header and the cells
pub start_behind : (start : Start) → IsTrue (is_start start) → 12288 ≤ start.place
start_behind start holds = grind (arith, nat_tests)
