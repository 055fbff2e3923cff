-- The steps of a search by halves among cells in order.
use Rattle.std.proofs.Common.{◌≡◌, ℕ, ◌+◌, ◌*◌, ◌<◌, ◌≤◌, Bool, true, false, List, [], ◌∷◌, length, get_or, take, drop, map, refl, sym, ap, ◌∙◌, arith, ⊎_elim, zero, suc, Some, None}
use Rattle.std.specs.List.{AllWithin}
use Rattle.std.specs.Prelude.{slice_get}
use Rattle.std.specs.Int.{w64, from_be_bytes}
use Rattle.std.proofs.lemmas.Bool.{cases_Bool, false≢true}
use Rattle.std.proofs.lemmas.List.{get_or-map, length-map, take-take, drop-drop}
use Rattle.ct_definitions.specs.Pairs.{Pair}
use Rattle.ct_node.specs.Nodes.{IsAscending}
use Rattle.ct_node.specs.Cells.{cells_of, pair_at}
use Rattle.ct_node.specs.Places.{is_before}
use Rattle.ct_node.proofs.CellLemmas.{window, window-take, get_or-cells_of, length-cells_of}
use Rattle.ct_node.proofs.Orders.{IsPartitionedBy-before}

-- the pairs of the first cells
abbrev pub pairs_of : ℕ → ℕ → ℕ → List ℕ → List Pair
pairs_of key_len width count bytes = map (pair_at key_len) (cells_of width count bytes)

pub length-pairs_of : (key_len width count : ℕ) (bytes : List ℕ) → length (pairs_of key_len width count bytes) ≡ count
length-pairs_of key_len width count bytes = length-map (cells_of width count bytes) (pair_at key_len) ∙ length-cells_of width count bytes

-- a pair is read from the front of its cell
pub pair_at-take : (key_len width : ℕ) (bytes : List ℕ) → key_len + 8 ≤ width → pair_at key_len (take width bytes) ≡ pair_at key_len bytes
pair_at-take key_len width bytes fits =
    let key : take key_len (take width bytes) ≡ take key_len bytes = take-take key_len width bytes (omega arith) in
    let number : window key_len 8 (take width bytes) ≡ window key_len 8 bytes = window-take key_len 8 width bytes fits in
    let made : List ℕ → List ℕ → Pair = λ text digits. record { key = text; num = from_be_bytes w64 digits } in
    ap (λ text. made text (window key_len 8 (take width bytes))) key ∙ ap (made (take key_len bytes)) number

pub get_or-pairs_of : (key_len width count : ℕ) (bytes : List ℕ) (i : ℕ) (d : Pair) → key_len + 8 ≤ width → i < count → get_or (pairs_of key_len width count bytes) i d ≡ pair_at key_len (drop (i * width) bytes)
get_or-pairs_of key_len width count bytes i d fits within =
    get_or-map (pair_at key_len) (cells_of width count bytes) i [] d (omega (arith, length-cells_of width count bytes))
    ∙ ap (pair_at key_len) (get_or-cells_of width count bytes i [] within)
    ∙ pair_at-take key_len width (drop (i * width) bytes) fits

-- a pair that comes before: so do all before it
pub before_up_to : (or_at : Bool) (other : Pair) (pairs : List Pair) (i : ℕ) (pair : Pair) → IsAscending pairs → i < length pairs → ((d : Pair) → get_or pairs i d ≡ pair) → true ≡ is_before or_at other pair → AllWithin (λ next. is_before or_at other next ≡ true) pairs 0 (i + 1)
before_up_to or_at other pairs i pair order within is before k d low high =
    IsPartitionedBy-before or_at other pairs order k i d (omega arith) within (ap (is_before or_at other) (is d) ∙ sym before)

-- one that does not: nor do those behind it
pub none_from : (or_at : Bool) (other : Pair) (pairs : List Pair) (i : ℕ) (pair : Pair) → IsAscending pairs → ((d : Pair) → get_or pairs i d ≡ pair) → false ≡ is_before or_at other pair → AllWithin (λ next. is_before or_at other next ≡ false) pairs i (length pairs)
none_from or_at other pairs i pair order is behind k d low high =
    ⊎_elim (λ before. absurd (false≢true (behind ∙ sym (ap (is_before or_at other) (is d)) ∙ IsPartitionedBy-before or_at other pairs order i k d low high before))) (λ other. other) (cases_Bool (is_before or_at other (get_or pairs k d)))

pub slice_get-at : {X : Type 0} (xs : List X) (i : ℕ) (d : X) → i < length xs → slice_get xs i ≡ Some (get_or xs i d)
slice_get-at [] i d within = absurd (omega (arith, within))
slice_get-at (x ∷ xs) zero d within = refl
slice_get-at (x ∷ xs) (suc i) d within = slice_get-at xs i d (omega arith)

pub slice_get-past : {X : Type 0} (xs : List X) (i : ℕ) → length xs ≤ i → slice_get xs i ≡ None
slice_get-past [] i past = refl
slice_get-past (x ∷ xs) zero past = absurd (omega (arith, past))
slice_get-past (x ∷ xs) (suc i) past = slice_get-past xs i (omega arith)

-- the cell of a place
pub slice_get-cells_of : (width count : ℕ) (bytes : List ℕ) (i : ℕ) → i < count → slice_get (cells_of width count bytes) i ≡ Some (take width (drop (i * width) bytes))
slice_get-cells_of width count bytes i within =
    slice_get-at (cells_of width count bytes) i [] (omega (arith, length-cells_of width count bytes)) ∙ ap Some (get_or-cells_of width count bytes i [] within)

-- the pair of a cell, by its place in the page
pub get_or-pairs_in_page : (key_len width count at : ℕ) (page : List ℕ) (i : ℕ) (d : Pair) → key_len + 8 ≤ width → i < count → get_or (pairs_of key_len width count (drop at page)) i d ≡ pair_at key_len (drop (at + i * width) page)
get_or-pairs_in_page key_len width count at page i d fits within =
    get_or-pairs_of key_len width count (drop at page) i d fits within ∙ ap (pair_at key_len) (drop-drop (i * width) at page)
