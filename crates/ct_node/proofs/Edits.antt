-- What the edits of a node's cells do to its entries, and that it stays a node.
use Rattle.std.proofs.Math.Nat.{mul-le-mul_left}
use Rattle.std.proofs.Common.{◌≡◌, ℕ, suc, ◌+◌, ◌-◌, ◌*◌, ◌^◌, ◌<◌, ◌≤◌, Bool, true, false, cond, List, [], ◌∷◌, length, drop, map, filter, refl, sym, ap, ◌∙◌, arith, subst, zero}
use Rattle.std.specs.Prelude.{slice_get}
use Rattle.std.specs.Option.{option_map_or}
use Rattle.std.specs.List.{AllPass, insert, remove, prefix_len}
use Rattle.std.proofs.lemmas.List.{length-map}
use Rattle.std.proofs.lemmas.List.Elements.{All-filter}
use Rattle.ct_definitions.specs.Pairs.{Pair, with_pair}
use Rattle.ct_node.specs.Nodes.{Entry, NodeValue, IsNode, IsAscending, pair_in, pairs_in, width_of, capacity_of, is_within, has_pair, with_entry, has_other_pair}
use Rattle.ct_node.specs.Cells.{cells_of, pair_at, entry_at, entries_of, entry_bytes}
use Rattle.ct_node.specs.Places.{is_before}
use Rattle.ct_node.specs.Stored.{value_of}
use Rattle.ct_node.specs.declared.node.Node.TheInside.{Inside}
use Rattle.ct_node.proofs.CellLemmas.{cells_of-put_in, cells_of-taken_out, put_in, taken_out}
use Rattle.ct_node.proofs.Searches.{pairs_of}
use Rattle.ct_node.proofs.Entries.{entry_in, map-insert, map-remove, pairs-entries_of, length-entries_of, width_of-bounds, room_within, length-entry_bytes, entry_at-bytes}
use Rattle.ct_node.proofs.Orders.{place, with_entry-insert, map-with_entry, map-filter, other_than, All-with_pair, IsAscending-with_pair, IsAscending-filter, filter-is, removed, has_at, has_pair-is, same}

-- what a node asks of a pair that it is to have
pub record CanTake (node : NodeValue) (pair : Pair) : Type 0 where
  pub fits : length node.entries < capacity_of node.key_len node.leaf
  pub key : length pair.key ≡ node.key_len
  pub absent : has_pair pair (pairs_in node) ≡ false
  pub within : is_within node.low node.high pair ≡ true

-- a node with one more entry
abbrev pub with_one_more : NodeValue → Entry → NodeValue
with_one_more node new = record node { entries = with_entry new node.entries }

length-with_pair : (new : Pair) (pairs : List Pair) → length (with_pair new pairs) ≡ suc (length pairs)
length-with_pair new [] = refl
length-with_pair new (pair ∷ pairs) = by_test _ (length-with_pair new pairs)
  where
    by_test : (test : Bool) → length (with_pair new pairs) ≡ suc (length pairs) → length (cond test (new ∷ pair ∷ pairs) (pair ∷ with_pair new pairs)) ≡ suc (suc (length pairs))
    by_test true rest = refl
    by_test false rest = ap suc rest

pub IsNode-with_one_more : (node : NodeValue) (new : Entry) → IsNode node → CanTake node new.pair → IsNode (with_one_more node new)
IsNode-with_one_more node new is can =
    let pairs : pairs_in (with_one_more node new) ≡ with_pair new.pair (pairs_in node) = map-with_entry new node.entries in
    let more = length-with_pair new.pair (pairs_in node) in
    let long = length-map (with_entry new node.entries) pair_in in
    let same_long = ap length pairs in
    let old_long = length-map node.entries pair_in in
    let room = can.fits in
    record {
      some_key = is.some_key;
      short_key = is.short_key;
      room = omega arith;
      order = subst IsAscending (sym pairs) (IsAscending-with_pair new.pair (pairs_in node) can.absent is.order);
      bounds = subst (AllPass (is_within node.low node.high)) (sym pairs) (All-with_pair (λ pair. is_within node.low node.high pair ≡ true) new.pair (pairs_in node) can.within is.bounds);
    }

-- the bytes of cells with one put in
abbrev pub opened : ℕ → ℕ → ℕ → List ℕ → List ℕ → List ℕ
opened at count width cell cells = put_in (at * width) (count * width - at * width) cells cell (drop (count * width + length cell) cells)

-- the entries of cells with one put in at the place of its pair
pub entries_of-inserted : (n : Inside) (pair : Pair) (child at : ℕ) → length n.cells ≡ 3968 → CanTake (value_of n) pair → pair.num < 2 ^ 64 → child < 2 ^ 64 → at ≡ place pair (entries_of n.key_len n.leaf n.count n.cells) → at ≤ n.count → entries_of n.key_len n.leaf (n.count + 1) (opened at n.count (width_of n.key_len n.leaf) (entry_bytes n.leaf (record { pair = pair; child = child })) n.cells) ≡ with_entry (entry_in n.leaf pair child) (entries_of n.key_len n.leaf n.count n.cells)
entries_of-inserted n pair child at long can small fits is within =
    let width = width_of n.key_len n.leaf in
    let cell = entry_bytes n.leaf (record { pair = pair; child = child }) in
    let old = entries_of n.key_len n.leaf n.count n.cells in
    let count = length-entries_of n.key_len n.leaf n.count n.cells in
    let room = room_within n.key_len n.leaf n.count (omega (arith, can.fits)) in
    let cell_long : length cell ≡ width = length-entry_bytes n.leaf (record { pair = pair; child = child }) ∙ ap (λ k. width_of k n.leaf) can.key in
    ap (map (entry_at n.key_len n.leaf)) (cells_of-put_in width n.count at n.cells cell (drop (n.count * width + length cell) n.cells) within (omega (arith, room)) cell_long)
    ∙ map-insert (entry_at n.key_len n.leaf) (cells_of width n.count n.cells) at cell
    ∙ ap (insert old at) (entry_at-bytes n.key_len n.leaf pair child can.key small fits)
    ∙ ap (λ k. insert old k (entry_in n.leaf pair child)) is
    ∙ sym (with_entry-insert (entry_in n.leaf pair child) old can.absent)

-- the place that a search among the cells gives
pub place-from_search : (n : Inside) (pair : Pair) (at width : ℕ) (slice : List ℕ) → at ≡ prefix_len (is_before false pair) (pairs_of n.key_len width n.count slice) → width ≡ width_of n.key_len n.leaf → slice ≡ n.cells → at ≡ place pair (entries_of n.key_len n.leaf n.count n.cells)
place-from_search n pair at width slice is is_width is_slice =
    is
    ∙ ap (λ w. prefix_len (is_before false pair) (pairs_of n.key_len w n.count slice)) is_width
    ∙ ap (λ s. prefix_len (is_before false pair) (pairs_of n.key_len (width_of n.key_len n.leaf) n.count s)) is_slice
    ∙ ap (prefix_len (is_before false pair)) (sym (pairs-entries_of n.key_len n.leaf n.count n.cells))

-- the cells' pairs are in order
pub pairs_ascend : (n : Inside) (width : ℕ) (slice : List ℕ) → IsNode (value_of n) → width ≡ width_of n.key_len n.leaf → slice ≡ n.cells → IsAscending (pairs_of n.key_len width n.count slice)
pairs_ascend n width slice is is_width is_slice =
    let pairs : pairs_of n.key_len width n.count slice ≡ pairs_in (value_of n) =
    ap (λ w. pairs_of n.key_len w n.count slice) is_width ∙ ap (pairs_of n.key_len (width_of n.key_len n.leaf) n.count) is_slice ∙ sym (pairs-entries_of n.key_len n.leaf n.count n.cells) in
    subst IsAscending (sym pairs) is.order

-- a node's cells stand in its bytes
pub cells_within : (n : Inside) → IsNode (value_of n) → n.count * width_of n.key_len n.leaf ≤ 3968
cells_within n is = room_within n.key_len n.leaf n.count (let count = length-entries_of n.key_len n.leaf n.count n.cells in omega (arith, is.room))

-- so there are few of them
pub few_entries : (n : Inside) → IsNode (value_of n) → n.count ≤ 496
few_entries n is =
    let within = cells_within n is in
    let bounds = width_of-bounds n.key_len n.leaf in
    let least : n.count * 8 ≤ n.count * width_of n.key_len n.leaf = mul-le-mul_left n.count (omega arith) in
    omega arith

-- and one more does, where it fits
pub next_within : (n : Inside) → length (value_of n).entries < capacity_of n.key_len n.leaf → n.count * width_of n.key_len n.leaf + width_of n.key_len n.leaf ≤ 3968
next_within n fits =
    let count = length-entries_of n.key_len n.leaf n.count n.cells in
    let room : (n.count + 1) * width_of n.key_len n.leaf ≤ 3968 = room_within n.key_len n.leaf (n.count + 1) (omega arith) in
    omega arith

-- what the node is once an entry was put in
pub value_of-inserted : (n : Inside) (now : NodeValue) (pair : Pair) (child at width : ℕ) (slice lent new : List ℕ) → length n.cells ≡ 3968 → value_of n ≡ now → CanTake now pair → pair.num < 2 ^ 64 → child < 2 ^ 64 → at ≤ n.count → at ≡ prefix_len (is_before false pair) (pairs_of n.key_len width n.count slice) → width ≡ width_of n.key_len n.leaf → slice ≡ n.cells → lent ≡ n.cells → new ≡ opened at n.count width (entry_bytes n.leaf (record { pair = pair; child = child })) lent → value_of (record n { count = n.count + 1; cells = new }) ≡ with_one_more (value_of n) (entry_in n.leaf pair child)
value_of-inserted n now pair child at width slice lent new long view can small fits within is is_width is_slice is_lent made =
    let cell = entry_bytes n.leaf (record { pair = pair; child = child }) in
    let can_inside : CanTake (value_of n) pair = subst (λ value. CanTake value pair) (sym view) can in
    let bytes : new ≡ opened at n.count (width_of n.key_len n.leaf) cell n.cells =
    made ∙ ap (λ w. opened at n.count w cell lent) is_width ∙ ap (opened at n.count (width_of n.key_len n.leaf) cell) is_lent in
    let entries = ap (entries_of n.key_len n.leaf (n.count + 1)) bytes ∙ entries_of-inserted n pair child at long can_inside small fits (place-from_search n pair at width slice is is_width is_slice) within in
    ap (λ (es : List Entry). record (value_of n) { entries = es }) entries

-- a node without a pair
abbrev pub without_pair : NodeValue → Pair → NodeValue
without_pair node pair = record node { entries = filter (has_other_pair pair) node.entries }

length-filter_le : {X : Type 0} (p : X → Bool) (xs : List X) → length (filter p xs) ≤ length xs
length-filter_le p [] = omega arith
length-filter_le p (x ∷ xs) = by_test (p x) (length-filter_le p xs)
  where
    by_test : (test : Bool) → length (filter p xs) ≤ length xs → length (cond test (x ∷ filter p xs) (filter p xs)) ≤ suc (length xs)
    by_test true rest = omega arith
    by_test false rest = omega arith

pub IsNode-without_pair : (node : NodeValue) (pair : Pair) → IsNode node → IsNode (without_pair node pair)
IsNode-without_pair node pair is =
    let pairs : pairs_in (without_pair node pair) ≡ filter (other_than pair) (pairs_in node) = map-filter pair node.entries in
    let fewer = length-filter_le (has_other_pair pair) node.entries in
    let room = is.room in
    record {
      some_key = is.some_key;
      short_key = is.short_key;
      room = omega arith;
      order = subst IsAscending (sym pairs) (IsAscending-filter (other_than pair) (pairs_in node) is.order);
      bounds = subst (AllPass (is_within node.low node.high)) (sym pairs) (All-filter (other_than pair) (λ other. is_within node.low node.high other ≡ true) (pairs_in node) is.bounds);
    }

-- whether the cell of a place has a pair
abbrev pub cell_has : ℕ → ℕ → Pair → List (List ℕ) → Bool
cell_has at key_len pair cells = option_map_or (λ (cell : List ℕ). same (pair_at key_len cell) pair) (slice_get cells at) false

has_at-map : (at key_len : ℕ) (leaf : Bool) (pair : Pair) (cells : List (List ℕ)) → cell_has at key_len pair cells ≡ has_at at pair (map (entry_at key_len leaf) cells)
has_at-map at key_len leaf pair [] = refl
has_at-map zero key_len leaf pair (cell ∷ cells) = refl
has_at-map (suc at) key_len leaf pair (cell ∷ cells) = has_at-map at key_len leaf pair cells

-- what a look at the cell of a place tells
pub cell_at-is : (n : Inside) (pair : Pair) (at width : ℕ) (looked : List ℕ) (found : Bool) → width ≡ width_of n.key_len n.leaf → looked ≡ n.cells → found ≡ cell_has at n.key_len pair (cells_of width n.count looked) → found ≡ has_at at pair (entries_of n.key_len n.leaf n.count n.cells)
cell_at-is n pair at width looked found is_width is_looked told =
    told
    ∙ ap (λ w. cell_has at n.key_len pair (cells_of w n.count looked)) is_width
    ∙ ap (λ s. cell_has at n.key_len pair (cells_of (width_of n.key_len n.leaf) n.count s)) is_looked
    ∙ has_at-map at n.key_len n.leaf pair (cells_of (width_of n.key_len n.leaf) n.count n.cells)

pub has_pair-at : (n : Inside) (pair : Pair) (at : ℕ) → IsNode (value_of n) → at ≡ place pair (entries_of n.key_len n.leaf n.count n.cells) → has_pair pair (pairs_in (value_of n)) ≡ has_at at pair (entries_of n.key_len n.leaf n.count n.cells)
has_pair-at n pair at is place_is =
    let entries = entries_of n.key_len n.leaf n.count n.cells in
    has_pair-is pair entries is.order ∙ ap (λ k. has_at k pair entries) (sym place_is)

-- a pair that is not there leaves the node
pub value_of-kept : (n : Inside) (pair : Pair) (at : ℕ) → IsNode (value_of n) → at ≡ place pair (entries_of n.key_len n.leaf n.count n.cells) → has_at at pair (entries_of n.key_len n.leaf n.count n.cells) ≡ false → value_of n ≡ without_pair (value_of n) pair
value_of-kept n pair at is place_is absent =
    let entries = entries_of n.key_len n.leaf n.count n.cells in
    let kept : removed at pair entries ≡ entries = rw absent refl in
    sym (ap (λ (es : List Entry). record (value_of n) { entries = es }) (filter-is pair entries is.order ∙ ap (λ k. removed k pair entries) (sym place_is) ∙ kept))

-- the bytes of cells with one taken out
abbrev pub closed : ℕ → ℕ → ℕ → List ℕ → List ℕ
closed at count width cells = taken_out (at * width) width (count * width - (at * width + width)) cells (drop (count * width - width) cells)

pub value_of-taken : (n : Inside) (pair : Pair) (at width : ℕ) (lent new : List ℕ) → length n.cells ≡ 3968 → IsNode (value_of n) → at < n.count → at ≡ place pair (entries_of n.key_len n.leaf n.count n.cells) → has_at at pair (entries_of n.key_len n.leaf n.count n.cells) ≡ true → width ≡ width_of n.key_len n.leaf → lent ≡ n.cells → new ≡ closed at n.count width lent → value_of (record n { count = n.count - 1; cells = new }) ≡ without_pair (value_of n) pair
value_of-taken n pair at width lent new long is within place_is found is_width is_lent made =
    let entries = entries_of n.key_len n.leaf n.count n.cells in
    let taken : removed at pair entries ≡ remove entries at = rw found refl in
    let room = cells_within n is in
    let bytes : new ≡ closed at n.count (width_of n.key_len n.leaf) n.cells = made ∙ ap (λ w. closed at n.count w lent) is_width ∙ ap (closed at n.count (width_of n.key_len n.leaf)) is_lent in
    let list : entries_of n.key_len n.leaf (n.count - 1) new ≡ filter (has_other_pair pair) entries =
    ap (entries_of n.key_len n.leaf (n.count - 1)) bytes
    ∙ ap (map (entry_at n.key_len n.leaf)) (cells_of-taken_out (width_of n.key_len n.leaf) n.count at n.cells (drop (n.count * width_of n.key_len n.leaf - width_of n.key_len n.leaf) n.cells) within (omega arith))
    ∙ map-remove (entry_at n.key_len n.leaf) (cells_of (width_of n.key_len n.leaf) n.count n.cells) at
    ∙ sym (filter-is pair entries is.order ∙ ap (λ k. removed k pair entries) (sym place_is) ∙ taken) in
    ap (λ (es : List Entry). record (value_of n) { entries = es }) list
