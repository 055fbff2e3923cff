-- The two halves of a node: both are nodes, and their bounds meet at the middle pair.
use Rattle.std.proofs.Common.{◌≡◌, ℕ, ◌+◌, ◌-◌, ◌*◌, ◌/◌, ◌<◌, ◌≤◌, true, false, not, List, ◌++◌, length, get_or, take, drop, map, refl, sym, ap, ◌∙◌, arith, subst, Option, Some, ⊎_elim}
use Rattle.std.specs.Prelude.{slice_get}
use Rattle.std.specs.List.{AllPass}
use Rattle.std.specs.Ordering.{is_lt}
use Rattle.std.proofs.Math.Nat.{mul-le-mul_right}
use Rattle.std.proofs.lemmas.Bool.{and_parts, and_from, cases_eq}
use Rattle.std.proofs.lemmas.Cmp.{tied_itself}
use Rattle.std.proofs.lemmas.List.{length-map, length-take-le, length-drop, get_or-take, get_or-drop, take-map, drop-map, take_at}
use Rattle.ct_definitions.specs.Pairs.{Pair}
use Rattle.ct_node.specs.Nodes.{Entry, NodeValue, IsNode, IsAscending, pair_in, pairs_in, width_of, is_from, is_below, is_within}
use Rattle.ct_node.specs.Halves.{middle_of, upper_half, lower_half}
use Rattle.ct_node.specs.Cells.{cells_of, pair_at, entry_at, entries_of}
use Rattle.ct_node.specs.Stored.{value_of, edge_pair}
use Rattle.ct_node.specs.declared.edge.Edge.{Edge}
use Rattle.ct_node.specs.declared.node.Node.TheInside.{Inside}
use Rattle.ct_node.proofs.Orders.{below, pair_total, not_above}
use Rattle.ct_node.proofs.CellLemmas.{cells_of-front, cells_of-back, step_within}
use Rattle.ct_node.proofs.Searches.{get_or-pairs_of, slice_get-at}
use Rattle.ct_node.proofs.Entries.{pairs-entries_of, length-entries_of, width_of-bounds}
use Rattle.ct_node.proofs.Edits.{cells_within}

-- a pair is not below itself
not_below_itself : (pair : Pair) → below pair pair ≡ false
not_below_itself pair = ap is_lt (tied_itself pair_total pair)

-- the pairs from one on are at it or above it
pub upper_bounds : (low high : Option Pair) (pairs : List Pair) (m : ℕ) (middle : Pair) → IsAscending pairs → AllPass (is_within low high) pairs → m < length pairs → ((d : Pair) → get_or pairs m d ≡ middle) → AllPass (is_within (Some middle) high) (drop m pairs)
upper_bounds low high pairs m middle order all within is k d inside =
    let long = length-drop m pairs in
    let read : get_or (drop m pairs) k d ≡ get_or pairs (m + k) d = get_or-drop m pairs k d in
    let parts = and_parts (is_from low (get_or pairs (m + k) d)) (is_below high (get_or pairs (m + k) d)) (all (m + k) d (omega arith)) in
    subst (λ pair. is_within (Some middle) high pair ≡ true) (sym read) (and_from _ _ (ap not (⊎_elim (here parts.1) (over parts.1) (cases_eq k 0))) parts.1)
  where
    here : is_below high (get_or pairs (m + k) d) ≡ true → k ≡ 0 → below (get_or pairs (m + k) d) middle ≡ false
    here ok none =
        let same : get_or pairs (m + k) d ≡ middle = ap (λ j. get_or pairs j d) (let sum : m + k ≡ m = omega arith in sum) ∙ is d in
        ap (λ pair. below pair middle) same ∙ not_below_itself middle

    over : is_below high (get_or pairs (m + k) d) ≡ true → (k ≡ 0 → ⊥) → below (get_or pairs (m + k) d) middle ≡ false
    over ok some =
        not_above middle (get_or pairs (m + k) d) (subst (λ pair. below pair (get_or pairs (m + k) d) ≡ true) (is d) (order m (m + k) d (omega arith) (omega (arith, length-drop m pairs, inside))))

-- those before it are below it
pub lower_bounds : (low high : Option Pair) (pairs : List Pair) (m : ℕ) (middle : Pair) → IsAscending pairs → AllPass (is_within low high) pairs → m < length pairs → ((d : Pair) → get_or pairs m d ≡ middle) → AllPass (is_within low (Some middle)) (take m pairs)
lower_bounds low high pairs m middle order all within is k d inside =
    let long = length-take-le m pairs (omega arith) in
    let read : get_or (take m pairs) k d ≡ get_or pairs k d = get_or-take m pairs k d (omega arith) in
    let parts = and_parts (is_from low (get_or pairs k d)) (is_below high (get_or pairs k d)) (all k d (omega arith)) in
    let first : below (get_or pairs k d) middle ≡ true = subst (λ pair. below (get_or pairs k d) pair ≡ true) (is d) (order k m d (omega arith) within) in
    subst (λ pair. is_within low (Some middle) pair ≡ true) (sym read) (and_from _ _ parts.0 first)

IsAscending-drop : (pairs : List Pair) (m : ℕ) → IsAscending pairs → IsAscending (drop m pairs)
IsAscending-drop pairs m order i j d first within =
    let long = length-drop m pairs in
    subst (λ pair. below pair (get_or (drop m pairs) j d) ≡ true) (sym (get_or-drop m pairs i d))
    (subst (λ pair. below (get_or pairs (m + i) d) pair ≡ true) (sym (get_or-drop m pairs j d)) (order (m + i) (m + j) d (omega arith) (omega arith)))

IsAscending-take : (pairs : List Pair) (m : ℕ) → m ≤ length pairs → IsAscending pairs → IsAscending (take m pairs)
IsAscending-take pairs m fits order i j d first within =
    let long = length-take-le m pairs fits in
    subst (λ pair. below pair (get_or (take m pairs) j d) ≡ true) (sym (get_or-take m pairs i d (omega arith)))
    (subst (λ pair. below (get_or pairs i d) pair ≡ true) (sym (get_or-take m pairs j d (omega arith))) (order i j d first (omega arith)))

-- the middle pair of a node with two or more
pub middle_within : (node : NodeValue) → 2 ≤ length node.entries → middle_of node < length (pairs_in node)
middle_within node enough = let long = length-map node.entries pair_in in omega arith

pub IsNode-upper_half : (node : NodeValue) (middle : Pair) → IsNode node → 2 ≤ length node.entries → ((d : Pair) → get_or (pairs_in node) (middle_of node) d ≡ middle) → slice_get (pairs_in node) (middle_of node) ≡ Some middle → IsNode (upper_half node)
IsNode-upper_half node middle is enough at told =
    let m = middle_of node in
    let pairs : pairs_in (upper_half node) ≡ drop m (pairs_in node) = sym (drop-map pair_in m node.entries) in
    let fewer = length-drop m node.entries in
    let room = is.room in
    record {
      some_key = is.some_key;
      short_key = is.short_key;
      room = omega arith;
      order = subst IsAscending (sym pairs) (IsAscending-drop (pairs_in node) m is.order);
      bounds = subst (AllPass (is_within (slice_get (pairs_in node) m) node.high)) (sym pairs)
          (subst (λ low. AllPass (is_within low node.high) (drop m (pairs_in node))) (sym told) (upper_bounds node.low node.high (pairs_in node) m middle is.order is.bounds (middle_within node enough) at));
    }

pub IsNode-lower_half : (right : ℕ) (node : NodeValue) (middle : Pair) → IsNode node → 2 ≤ length node.entries → ((d : Pair) → get_or (pairs_in node) (middle_of node) d ≡ middle) → slice_get (pairs_in node) (middle_of node) ≡ Some middle → IsNode (lower_half right node)
IsNode-lower_half right node middle is enough at told =
    let m = middle_of node in
    let pairs : pairs_in (lower_half right node) ≡ take m (pairs_in node) = sym (take-map pair_in m node.entries) in
    let fewer = length-take-le m node.entries (omega arith) in
    let inside = middle_within node enough in
    let room = is.room in
    record {
      some_key = is.some_key;
      short_key = is.short_key;
      room = omega arith;
      order = subst IsAscending (sym pairs) (IsAscending-take (pairs_in node) m (omega arith) is.order);
      bounds = subst (AllPass (is_within node.low (slice_get (pairs_in node) m))) (sym pairs)
          (subst (λ high. AllPass (is_within node.low high) (take m (pairs_in node))) (sym told) (lower_bounds node.low node.high (pairs_in node) m middle is.order is.bounds inside at));
    }

-- the pair in the cell of a place
pub pair_in_cell : (n : Inside) (m : ℕ) (d : Pair) → m < n.count → get_or (pairs_in (value_of n)) m d ≡ pair_at n.key_len (drop (m * width_of n.key_len n.leaf) n.cells)
pair_in_cell n m d within =
    let bounds = width_of-bounds n.key_len n.leaf in
    ap (λ pairs. get_or pairs m d) (pairs-entries_of n.key_len n.leaf n.count n.cells)
    ∙ get_or-pairs_of n.key_len (width_of n.key_len n.leaf) n.count n.cells m d bounds.0 within

pub slice_get-in_cell : (n : Inside) (m : ℕ) → m < n.count → slice_get (pairs_in (value_of n)) m ≡ Some (pair_at n.key_len (drop (m * width_of n.key_len n.leaf) n.cells))
slice_get-in_cell n m within =
    let middle = pair_at n.key_len (drop (m * width_of n.key_len n.leaf) n.cells) in
    let long = length-map (entries_of n.key_len n.leaf n.count n.cells) pair_in in
    let count = length-entries_of n.key_len n.leaf n.count n.cells in
    slice_get-at (pairs_in (value_of n)) m middle (omega arith) ∙ ap Some (pair_in_cell n m middle within)

-- the entries of the first cells, and of those from one on
pub entries_of-front : (n : Inside) (m : ℕ) → m ≤ n.count → IsNode (value_of n) → length n.cells ≡ 3968 → entries_of n.key_len n.leaf m n.cells ≡ take m (entries_of n.key_len n.leaf n.count n.cells)
entries_of-front n m fits is long =
    let room = cells_within n is in
    ap (map (entry_at n.key_len n.leaf)) (cells_of-front (width_of n.key_len n.leaf) m n.count n.cells n.cells fits refl (omega (arith, mul-le-mul_right (width_of n.key_len n.leaf) fits)))
    ∙ sym (take-map (entry_at n.key_len n.leaf) m (cells_of (width_of n.key_len n.leaf) n.count n.cells))

pub entries_of-back : (n : Inside) (m : ℕ) (rest : List ℕ) → m ≤ n.count → IsNode (value_of n) → length n.cells ≡ 3968 → entries_of n.key_len n.leaf (n.count - m) (take (n.count * width_of n.key_len n.leaf - m * width_of n.key_len n.leaf) (drop (m * width_of n.key_len n.leaf) n.cells) ++ rest) ≡ drop m (entries_of n.key_len n.leaf n.count n.cells)
entries_of-back n m rest fits is long =
    let room = cells_within n is in
    ap (map (entry_at n.key_len n.leaf)) (cells_of-back (width_of n.key_len n.leaf) m n.count n.cells rest fits (omega arith))
    ∙ sym (drop-map (entry_at n.key_len n.leaf) m (cells_of (width_of n.key_len n.leaf) n.count n.cells))

-- the middle place, by the count or by the entries
pub middle-count : (n : Inside) → n.count / 2 ≡ middle_of (value_of n)
middle-count n = ap (λ count. count / 2) (sym (length-entries_of n.key_len n.leaf n.count n.cells))

edge_at : (n : Inside) (width m : ℕ) (slice : List ℕ) (edge : Edge) → m < n.count → width ≡ width_of n.key_len n.leaf → slice ≡ n.cells → edge_pair n.key_len edge ≡ pair_at n.key_len (drop (m * width) slice) → Some (edge_pair n.key_len edge) ≡ slice_get (pairs_in (value_of n)) m
edge_at n width m slice edge within is_width is_slice read =
    ap Some (read ∙ ap (λ w. pair_at n.key_len (drop (m * w) slice)) is_width ∙ ap (λ s. pair_at n.key_len (drop (m * width_of n.key_len n.leaf) s)) is_slice)
    ∙ sym (slice_get-in_cell n m within)

pub value_of-upper : (n : Inside) (width : ℕ) (slice copied rest new : List ℕ) (edge : Edge) → length n.cells ≡ 3968 → IsNode (value_of n) → 2 ≤ n.count → width ≡ width_of n.key_len n.leaf → slice ≡ n.cells → copied ≡ n.cells → edge_pair n.key_len edge ≡ pair_at n.key_len (drop (n.count / 2 * width) slice) → new ≡ take (n.count * width - n.count / 2 * width) (drop (n.count / 2 * width) copied) ++ rest → value_of (record n { low = Some edge; count = n.count - n.count / 2; cells = new }) ≡ upper_half (value_of n)
value_of-upper n width slice copied rest new edge long is enough is_width is_slice is_copied read made =
    let v = value_of n in
    let m = n.count / 2 in
    let full = width_of n.key_len n.leaf in
    let made_of : Option Pair → List Entry → NodeValue = λ low es. record v { low = low; entries = es } in
    let bytes : new ≡ take (n.count * full - m * full) (drop (m * full) n.cells) ++ rest =
    made ∙ ap (λ w. take (n.count * w - m * w) (drop (m * w) copied) ++ rest) is_width ∙ ap (λ s. take (n.count * full - m * full) (drop (m * full) s) ++ rest) is_copied in
    let list : entries_of n.key_len n.leaf (n.count - m) new ≡ drop (middle_of v) v.entries =
    ap (entries_of n.key_len n.leaf (n.count - m)) bytes ∙ entries_of-back n m rest (omega arith) is long ∙ ap (λ k. drop k v.entries) (middle-count n) in
    let bound : Some (edge_pair n.key_len edge) ≡ slice_get (pairs_in v) (middle_of v) =
    edge_at n width m slice edge (omega arith) is_width is_slice read ∙ ap (slice_get (pairs_in v)) (middle-count n) in
    ap (λ low. made_of low (entries_of n.key_len n.leaf (n.count - m) new)) bound ∙ ap (made_of (slice_get (pairs_in v) (middle_of v))) list

pub value_of-lower : (n : Inside) (right width : ℕ) (slice : List ℕ) (edge : Edge) → length n.cells ≡ 3968 → IsNode (value_of n) → 2 ≤ n.count → width ≡ width_of n.key_len n.leaf → slice ≡ n.cells → edge_pair n.key_len edge ≡ pair_at n.key_len (drop (n.count / 2 * width) slice) → value_of (record n { high = Some edge; right = right; count = n.count / 2 }) ≡ lower_half right (value_of n)
value_of-lower n right width slice edge long is enough is_width is_slice read =
    let v = value_of n in
    let m = n.count / 2 in
    let made_of : Option Pair → List Entry → NodeValue = λ high es. record v { high = high; right = right; entries = es } in
    let list : entries_of n.key_len n.leaf m n.cells ≡ take (middle_of v) v.entries =
    entries_of-front n m (omega arith) is long ∙ ap (λ k. take k v.entries) (middle-count n) in
    let bound : Some (edge_pair n.key_len edge) ≡ slice_get (pairs_in v) (middle_of v) =
    edge_at n width m slice edge (omega arith) is_width is_slice read ∙ ap (slice_get (pairs_in v)) (middle-count n) in
    ap (λ high. made_of high (entries_of n.key_len n.leaf m n.cells)) bound ∙ ap (made_of (slice_get (pairs_in v) (middle_of v))) list

-- what a node with two or more entries has in its middle
pub record HasMiddle (node : NodeValue) (middle : Pair) : Type 0 where
  pub enough : 2 ≤ length node.entries
  pub at : (d : Pair) → get_or (pairs_in node) (middle_of node) d ≡ middle
  pub told : slice_get (pairs_in node) (middle_of node) ≡ Some middle

pub HasMiddle-is : (n : Inside) → 2 ≤ n.count → HasMiddle (value_of n) (pair_at n.key_len (drop (n.count / 2 * width_of n.key_len n.leaf) n.cells))
HasMiddle-is n enough =
    let count = length-entries_of n.key_len n.leaf n.count n.cells in
    record {
      enough = omega arith;
      at = λ d. ap (λ m. get_or (pairs_in (value_of n)) m d) (sym (middle-count n)) ∙ pair_in_cell n (n.count / 2) d (omega arith);
      told = ap (slice_get (pairs_in (value_of n))) (sym (middle-count n)) ∙ slice_get-in_cell n (n.count / 2) (omega arith);
    }

pub IsNode-upper : (n : Inside) → IsNode (value_of n) → 2 ≤ n.count → IsNode (upper_half (value_of n))
IsNode-upper n is enough = let middle = HasMiddle-is n enough in IsNode-upper_half (value_of n) _ is middle.enough middle.at middle.told

pub IsNode-lower : (n : Inside) (right : ℕ) → IsNode (value_of n) → 2 ≤ n.count → IsNode (lower_half right (value_of n))
IsNode-lower n right is enough = let middle = HasMiddle-is n enough in IsNode-lower_half right (value_of n) _ is middle.enough middle.at middle.told

-- two entries or more, by the count
pub enough_count : (n : Inside) (now : NodeValue) → value_of n ≡ now → 2 ≤ length now.entries → 2 ≤ n.count
enough_count n now view enough =
    let count = length-entries_of n.key_len n.leaf n.count n.cells in
    let same = ap (λ (value : NodeValue). length value.entries) view in
    omega arith

-- the middle cell stands in the bytes
pub middle_cell_within : (n : Inside) (width : ℕ) → IsNode (value_of n) → 2 ≤ n.count → width ≡ width_of n.key_len n.leaf → n.count / 2 * width + width ≤ n.count * width × n.count * width ≤ 3968 × n.key_len + 8 ≤ width
middle_cell_within n width is enough is_width =
    let room = cells_within n is in
    let same : n.count * width ≡ n.count * width_of n.key_len n.leaf = ap (λ w. n.count * w) is_width in
    let bounds = width_of-bounds n.key_len n.leaf in
    (step_within (n.count / 2) n.count width (omega arith), omega arith, omega arith)

-- the bytes of a node's cells at the front of others, with any bytes behind them, are the same node
pub value_of-copied : (n : Inside) (width : ℕ) (slice rest new : List ℕ) → length n.cells ≡ 3968 → IsNode (value_of n) → width ≡ width_of n.key_len n.leaf → slice ≡ n.cells → new ≡ take (n.count * width - 0) (drop 0 slice) ++ rest → value_of (record n { cells = new }) ≡ value_of n
value_of-copied n width slice rest new long is is_width is_slice made =
    let v = value_of n in
    let full = width_of n.key_len n.leaf in
    let room = cells_within n is in
    let front : new ≡ take (n.count * full) n.cells ++ rest =
    made ∙ ap (λ k. take k slice ++ rest) (let all : n.count * width - 0 ≡ n.count * width = omega arith in all) ∙ ap (λ s. take (n.count * width) s ++ rest) is_slice ∙ ap (λ w. take (n.count * w) n.cells ++ rest) is_width in
    let bytes : take (n.count * full) new ≡ take (n.count * full) n.cells =
    ap (take (n.count * full)) front ∙ take_at (take (n.count * full) n.cells) rest (n.count * full) (length-take-le (n.count * full) n.cells (omega arith)) in
    let cells : cells_of full n.count new ≡ cells_of full n.count n.cells =
    cells_of-front full n.count n.count n.cells new (omega arith) bytes (omega arith) ∙ sym (cells_of-front full n.count n.count n.cells n.cells (omega arith) refl (omega arith)) in
    ap (λ (list : List (List ℕ)). record v { entries = map (entry_at n.key_len n.leaf) list }) cells
