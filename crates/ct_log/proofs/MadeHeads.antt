-- The head of a log that was made, as it is read.
use Rattle.std.proofs.Common.{◌≡◌, ◌≢◌, IsTrue, ◌+◌, ◌-◌, ◌^◌, ◌≤◌, ◌<◌, ℕ, zero, suc, Bool, true, false, not, List, [], ◌∷◌, ◌++◌, length, take, drop, get_or, replicate, eqb, leb, Some, None, Result, Ok, refl, sym, ap, ◌∙◌, arith, append_assoc, length-append, length-drop, ◌&&◌}
use Rattle.std.specs.Prelude.{slice_get, bytes_eq}
use Rattle.std.specs.List.{list_any}
use Rattle.std.specs.Int.{w64, from_le_bytes}
use Rattle.std.proofs.lemmas.Bool.{eq-eqb, ne_eqb, and_from, and_parts, or_parts, not-true, le-leb, cond-false}
use Rattle.std.proofs.lemmas.List.{take_at, drop_at, take-append-le, drop-append-le, drop-drop, get_or-replicate}
use Rattle.std.proofs.lemmas.Nat.{from_le_bytes-to_le_bytes_8}
use Rattle.std.proofs.lemmas.Option.{slice_get-get_or}
use Rattle.ct_log.specs.Front.{zeros, signature, number_bytes, is_id, name_plate, header, front, front_with}
use Rattle.ct_log.specs.Heads.{page_at, is_open, are_zero, before_zero, number_at, id_field, id_of, is_header, is_cell_open, start_of, is_start, is_cell, told_by, closed_head, made_head, open_head, head_in, has_open_header}
use Rattle.ct_log.specs.declared.head.Head.{Head}
use Rattle.ct_log.proofs.Fronts.{length-zeros, length-number_bytes, zeros-append-zeros, length-name_plate, front_parts, id_short}
use Rattle.ct_log.proofs.HeadReads.{gate_on_page, pick}

-- the head by its gate and its three pages
abbrev head_of : Bool → List ℕ → List ℕ → List ℕ → Result Head ℕ
head_of gate page one two = pick gate (is_header page) (is_cell one) (is_cell two) (open_head page (told_by one) (told_by two))

by_pages : (bytes : List ℕ) → head_in bytes ≡ head_of (is_open (slice_get (page_at 0 bytes) 36)) (page_at 0 bytes) (page_at 4096 bytes) (page_at 8192 bytes)
by_pages bytes = ap (λ b. head_of b (page_at 0 bytes) (page_at 4096 bytes) (page_at 8192 bytes)) (sym (gate_on_page bytes))

same_pages : (bytes page one two : List ℕ) → page_at 0 bytes ≡ page → page_at 4096 bytes ≡ one → page_at 8192 bytes ≡ two → head_in bytes ≡ head_of (is_open (slice_get page 36)) page one two
same_pages bytes page one two zeroth first second =
    by_pages bytes ∙ ap (λ (l : List ℕ). head_of (is_open (slice_get l 36)) l (page_at 4096 bytes) (page_at 8192 bytes)) zeroth
    ∙ ap (λ (l : List ℕ). head_of (is_open (slice_get page 36)) page l (page_at 8192 bytes)) first
    ∙ ap (λ (l : List ℕ). head_of (is_open (slice_get page 36)) page one l) second

-- a page that the front has whole
page_of_front : (front behind : List ℕ) (place long : ℕ) → place + long ≤ length front → take long (drop place (front ++ behind)) ≡ take long (drop place front)
page_of_front front behind place long within =
    ap (λ (l : List ℕ). take long l) (drop-append-le place front behind (omega arith)) ∙ take-append-le long (drop place front) behind (omega (arith, length-drop place front))

pub front_tells : (front behind : List ℕ) → 12288 ≤ length front → head_in (front ++ behind) ≡ head_in front
front_tells front behind within =
    same_pages (front ++ behind) (page_at 0 front) (page_at 4096 front) (page_at 8192 front)
    (page_of_front front behind 0 4096 (omega arith)) (page_of_front front behind 4096 4096 (omega arith)) (page_of_front front behind 8192 4096 (omega arith))
    ∙ sym (by_pages front)

-- zeros are zero
are_zero-zeros : (n : ℕ) → are_zero (zeros n) ≡ true
unfolding zeros
are_zero-zeros zero = refl
are_zero-zeros (suc n) = are_zero-zeros n

-- a cell in which nothing is written is not open
shut_zeros : (n k : ℕ) → k < n → is_open (slice_get (zeros n) k) ≡ false
unfolding zeros
shut_zeros n k within =
    let byte : get_or (replicate {A = ℕ} n 0) k 0 ≡ 0 = get_or-replicate n k 0 0 within in
    ap is_open (slice_get-get_or (replicate n 0) k 0 (omega (arith, length-zeros n)) ∙ ap (λ b. Some b) byte)

cell_stands : (cell : List ℕ) → is_cell_open cell ≡ false → is_cell cell ≡ true
cell_stands cell shut = cond-false (is_cell_open cell) (is_start (start_of cell) && are_zero (drop 33 cell)) true shut

cell_silent : (cell : List ℕ) → is_cell_open cell ≡ false → told_by cell ≡ None
cell_silent cell shut = cond-false (is_cell_open cell) (Some (start_of cell)) None shut

-- an id is what stands before the first zero
before_zero-id : (id : List ℕ) (n : ℕ) → list_any (λ byte. eqb byte 0) id ≡ false → before_zero (id ++ zeros n) ≡ id
unfolding zeros
before_zero-id [] zero none = refl
before_zero-id [] (suc n) none = refl
before_zero-id (x ∷ id) n none =
    let parts = or_parts (eqb x 0) (list_any (λ byte. eqb byte 0) id) none in
    cond-false (eqb x 0) [] (x ∷ before_zero (id ++ zeros n)) parts.0 ∙ ap (λ (l : List ℕ). x ∷ l) (before_zero-id id n parts.1)

-- a byte behind a list
slice_get_at : (xs ys : List ℕ) (y n : ℕ) → length xs ≡ n → slice_get (xs ++ y ∷ ys) n ≡ Some y
slice_get_at [] ys y zero long = refl
slice_get_at [] ys y (suc n) long = absurd (omega arith)
slice_get_at (x ∷ xs) ys y zero long = absurd (omega arith)
slice_get_at (x ∷ xs) ys y (suc n) long = slice_get_at xs ys y n (omega arith)

number_again : (n : ℕ) → n ≤ 2 ^ 63 → from_le_bytes w64 (number_bytes n) ≡ n
unfolding number_bytes
number_again n within = from_le_bytes-to_le_bytes_8 n (omega arith)

module _ (id : List ℕ) (base gate : ℕ) (holds : IsTrue (is_id id)) where
  short : length id ≤ 16
  short = id_short id holds

  no_zero : list_any (λ byte. eqb byte 0) id ≡ false
  no_zero = not-true (list_any (λ byte. eqb byte 0) id) (and_parts (leb 1 (length id) && leb (length id) 16) (not (list_any (λ byte. eqb byte 0) id)) holds).1

  length-header : length (header id base gate) ≡ 4096
  length-header = omega (arith, length-append (name_plate id base) (gate ∷ zeros 4059), length-name_plate id base short, length-zeros 4059)

  parts : (behind : List ℕ) → front_with gate id base ++ behind ≡ header id base gate ++ (zeros 4096 ++ (zeros 4096 ++ behind))
  parts behind =
      append_assoc (header id base gate) (zeros 8192) behind
      ∙ ap (λ (l : List ℕ). header id base gate ++ (l ++ behind)) (sym (zeros-append-zeros 4096 4096))
      ∙ ap (λ (l : List ℕ). header id base gate ++ l) (append_assoc (zeros 4096) (zeros 4096) behind)

  page_zero : (behind : List ℕ) → page_at 0 (front_with gate id base ++ behind) ≡ header id base gate
  page_zero behind = ap (λ (l : List ℕ). take 4096 l) (parts behind) ∙ take_at (header id base gate) (zeros 4096 ++ (zeros 4096 ++ behind)) 4096 length-header

  behind_header : (behind : List ℕ) → drop 4096 (front_with gate id base ++ behind) ≡ zeros 4096 ++ (zeros 4096 ++ behind)
  behind_header behind = ap (λ (l : List ℕ). drop 4096 l) (parts behind) ∙ drop_at (header id base gate) (zeros 4096 ++ (zeros 4096 ++ behind)) 4096 length-header

  page_one : (behind : List ℕ) → page_at 4096 (front_with gate id base ++ behind) ≡ zeros 4096
  page_one behind = ap (λ (l : List ℕ). take 4096 l) (behind_header behind) ∙ take_at (zeros 4096) (zeros 4096 ++ behind) 4096 (length-zeros 4096)

  page_two : (behind : List ℕ) → page_at 8192 (front_with gate id base ++ behind) ≡ zeros 4096
  page_two behind =
      ap (λ (l : List ℕ). take 4096 l) (sym (drop-drop 4096 4096 (front_with gate id base ++ behind)) ∙ ap (λ (l : List ℕ). drop 4096 l) (behind_header behind) ∙ drop_at (zeros 4096) (zeros 4096 ++ behind) 4096 (length-zeros 4096))
      ∙ take_at (zeros 4096) behind 4096 (length-zeros 4096)

  gate_of_header : is_open (slice_get (header id base gate) 36) ≡ eqb gate 1
  gate_of_header = ap is_open (slice_get_at (name_plate id base) (zeros 4059) gate 36 (length-name_plate id base short))

  pub made_pages : (behind : List ℕ) → head_in (front_with gate id base ++ behind) ≡ head_of (eqb gate 1) (header id base gate) (zeros 4096) (zeros 4096)
  made_pages behind =
      same_pages (front_with gate id base ++ behind) (header id base gate) (zeros 4096) (zeros 4096) (page_zero behind) (page_one behind) (page_two behind)
      ∙ ap (λ b. head_of b (header id base gate) (zeros 4096) (zeros 4096)) gate_of_header

  -- the parts of the header behind its signature
  field_is : id_field (header id base gate) ≡ id ++ zeros (16 - length id)
  field_is =
      let plate = id ++ zeros (16 - length id) in
      ap (λ (l : List ℕ). take 16 l) (append_assoc plate (number_bytes base) (gate ∷ zeros 4059))
      ∙ take_at plate (number_bytes base ++ gate ∷ zeros 4059) 16 (omega (arith, length-append id (zeros (16 - length id)), length-zeros (16 - length id), short))

  id_is : id_of (header id base gate) ≡ id
  id_is = ap (λ (l : List ℕ). before_zero l) field_is ∙ before_zero-id id (16 - length id) no_zero

  padding_is : are_zero (drop (length (id_of (header id base gate))) (id_field (header id base gate))) ≡ true
  padding_is =
      ap (λ (l : List ℕ). are_zero (drop (length l) (id_field (header id base gate)))) id_is ∙ ap (λ (l : List ℕ). are_zero (drop (length id) l)) field_is
      ∙ ap (λ (l : List ℕ). are_zero l) (drop_at id (zeros (16 - length id)) (length id) refl) ∙ are_zero-zeros (16 - length id)

  base_is : base ≤ 2 ^ 63 → number_at 28 (header id base gate) ≡ base
  base_is within =
      let plate = id ++ zeros (16 - length id) in
      let long : length plate ≡ 16 = omega (arith, length-append id (zeros (16 - length id)), length-zeros (16 - length id), short) in
      let behind : drop 28 (header id base gate) ≡ number_bytes base ++ gate ∷ zeros 4059 =
      ap (λ (l : List ℕ). drop 16 l) (append_assoc plate (number_bytes base) (gate ∷ zeros 4059)) ∙ drop_at plate (number_bytes base ++ gate ∷ zeros 4059) 16 long in
      ap (λ (l : List ℕ). from_le_bytes w64 (take 8 l)) behind ∙ ap (λ (l : List ℕ). from_le_bytes w64 l) (take_at (number_bytes base) (gate ∷ zeros 4059) 8 (length-number_bytes base)) ∙ number_again base within

  rest_is : are_zero (drop 37 (header id base gate)) ≡ true
  rest_is =
      let plate = name_plate id base in
      let long : length (plate ++ gate ∷ []) ≡ 37 = omega (arith, length-append plate (gate ∷ []), length-name_plate id base short) in
      ap (λ (l : List ℕ). are_zero (drop 37 l)) (sym (append_assoc plate (gate ∷ []) (zeros 4059))) ∙ ap (λ (l : List ℕ). are_zero l) (drop_at (plate ++ gate ∷ []) (zeros 4059) 37 long) ∙ are_zero-zeros 4059

  header_is : base ≤ 2 ^ 63 → is_header (header id base gate) ≡ true
  header_is within =
      let page = header id base gate in
      let named : is_id (id_of page) ≡ true = ap (λ (l : List ℕ). is_id l) id_is ∙ holds in
      let low : leb (number_at 28 page) (2 ^ 63) ≡ true = ap (λ n. leb n (2 ^ 63)) (base_is within) ∙ le-leb base (2 ^ 63) within in
      all_five (bytes_eq (take 12 page) signature) (is_id (id_of page)) (are_zero (drop (length (id_of page)) (id_field page))) (leb (number_at 28 page) (2 ^ 63)) (are_zero (drop 37 page))
      refl named padding_is low rest_is
    where
      all_five : (a b c d e : Bool) → a ≡ true → b ≡ true → c ≡ true → d ≡ true → e ≡ true → (a && b && c && d && e) ≡ true
      all_five a b c d e first second third fourth fifth = and_from (a && b && c && d) e (and_from (a && b && c) d (and_from (a && b) c (and_from a b first second) third) fourth) fifth

  head_is : base ≤ 2 ^ 63 → gate ≡ 1 → head_of (eqb gate 1) (header id base gate) (zeros 4096) (zeros 4096) ≡ Ok (made_head id base)
  head_is within is_one =
      let page = header id base gate in
      let cell = zeros 4096 in
      let shut : is_cell_open cell ≡ false = shut_zeros 4096 32 (omega arith) in
      let stands : is_cell cell ≡ true = cell_stands cell shut in
      let silent : told_by cell ≡ None = cell_silent cell shut in
      ap (λ b. head_of b page cell cell) (eq-eqb gate 1 is_one)
      ∙ ap (λ b. pick true b (is_cell cell) (is_cell cell) (open_head page (told_by cell) (told_by cell))) (header_is within)
      ∙ ap (λ b. pick true true b b (open_head page (told_by cell) (told_by cell))) stands
      ∙ ap (λ o. Ok (open_head page o o)) silent
      ∙ ap (λ (l : List ℕ). Ok (made_head l (number_at 28 page))) id_is ∙ ap (λ n. Ok (made_head id n)) (base_is within)

pub made_closed : (gate : ℕ) (id : List ℕ) (base : ℕ) (behind : List ℕ) → gate ≢ 1 → IsTrue (is_id id) → head_in (front_with gate id base ++ behind) ≡ Ok closed_head
made_closed gate id base behind shut holds = made_pages id base gate holds behind ∙ ap (λ b. head_of b (header id base gate) (zeros 4096) (zeros 4096)) (ne_eqb gate 1 shut)

pub made_opened : (id : List ℕ) (base : ℕ) (behind : List ℕ) → IsTrue (is_id id) → base ≤ 2 ^ 63 → head_in (front id base ++ behind) ≡ Ok (made_head id base)
made_opened id base behind holds within = made_pages id base 1 holds behind ∙ head_is id base 1 holds within refl

-- whether the header's gate is open is told by its byte
pub made_gate : (gate : ℕ) (id : List ℕ) (base : ℕ) (behind : List ℕ) → length id ≤ 16 → has_open_header (front_with gate id base ++ behind) ≡ eqb gate 1
made_gate gate id base behind short =
    ap (λ (l : List ℕ). has_open_header l) (front_parts gate id base behind)
    ∙ ap is_open (slice_get_at (name_plate id base) (zeros 4059 ++ zeros 8192 ++ behind) gate 36 (length-name_plate id base short))
