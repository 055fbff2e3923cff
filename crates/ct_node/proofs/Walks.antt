-- What the cells of a node tell a walk.
use Rattle.std.proofs.Common.{◌≡◌, ℕ, ◌+◌, ◌*◌, ◌<◌, Bool, false, cond, List, [], take, drop, sym, ap, ◌∙◌, arith, Some}
use Rattle.std.specs.Prelude.{option_map, slice_get}
use Rattle.std.specs.List.{prefix_len}
use Rattle.std.specs.Int.{w64, from_le_bytes}
use Rattle.std.proofs.lemmas.List.{drop-drop, get_or-map}
use Rattle.ct_definitions.specs.Pairs.{Pair}
use Rattle.ct_node.specs.Nodes.{Entry, pairs_in, width_of}
use Rattle.ct_node.specs.Cells.{cells_of, entry_at}
use Rattle.ct_node.specs.Places.{is_before}
use Rattle.ct_node.specs.Stored.{value_of}
use Rattle.ct_node.specs.declared.node.Node.TheInside.{Inside}
use Rattle.ct_node.proofs.CellLemmas.{window-take, length-cells_of, get_or-cells_of}
use Rattle.ct_node.proofs.Searches.{pairs_of, slice_get-at}
use Rattle.ct_node.proofs.Entries.{pairs-entries_of, length-entries_of}

-- the pairs before another are told by the cells
pub count_before-is : (n : Inside) (or_at : Bool) (pair : Pair) (at width : ℕ) (slice : List ℕ) → at ≡ prefix_len (is_before or_at pair) (pairs_of n.key_len width n.count slice) → width ≡ width_of n.key_len n.leaf → slice ≡ n.cells → at ≡ prefix_len (is_before or_at pair) (pairs_in (value_of n))
count_before-is n or_at pair at width slice is is_width is_slice =
    is
    ∙ ap (λ w. prefix_len (is_before or_at pair) (pairs_of n.key_len w n.count slice)) is_width
    ∙ ap (λ s. prefix_len (is_before or_at pair) (pairs_of n.key_len (width_of n.key_len n.leaf) n.count s)) is_slice
    ∙ ap (prefix_len (is_before or_at pair)) (sym (pairs-entries_of n.key_len n.leaf n.count n.cells))

-- the entry in the cell of a place
pub entry_in_cell : (n : Inside) (at : ℕ) → at < n.count → slice_get (value_of n).entries at ≡ Some (entry_at n.key_len n.leaf (take (width_of n.key_len n.leaf) (drop (at * width_of n.key_len n.leaf) n.cells)))
entry_in_cell n at within =
    let width = width_of n.key_len n.leaf in
    let cell = take width (drop (at * width) n.cells) in
    let entry = entry_at n.key_len n.leaf cell in
    let long = length-entries_of n.key_len n.leaf n.count n.cells in
    slice_get-at (value_of n).entries at entry (omega arith)
    ∙ ap Some (get_or-map (entry_at n.key_len n.leaf) (cells_of width n.count n.cells) at [] entry (omega (arith, length-cells_of width n.count n.cells)) ∙ ap (entry_at n.key_len n.leaf) (get_or-cells_of width n.count n.cells at [] within))

-- the page below in the cell of a place of an inner node
pub child-from_cell : (n : Inside) (at width page : ℕ) (slice : List ℕ) → n.leaf ≡ false → at < n.count → width ≡ width_of n.key_len n.leaf → slice ≡ n.cells → page ≡ from_le_bytes w64 (take 8 (drop (at * width + n.key_len + 8) slice)) → Some page ≡ option_map (λ (entry : Entry). entry.child) (slice_get (value_of n).entries at)
child-from_cell n at width page slice inner within is_width is_slice read =
    let full = width_of n.key_len n.leaf in
    let cell = drop (at * full) n.cells in
    let wide : full ≡ n.key_len + 16 = ap (width_of n.key_len) inner in
    let place : at * full + n.key_len + 8 ≡ at * full + (n.key_len + 8) = omega arith in
    let digits : take 8 (drop (at * width + n.key_len + 8) slice) ≡ take 8 (drop (n.key_len + 8) (take full cell)) =
    ap (λ w. take 8 (drop (at * w + n.key_len + 8) slice)) is_width
    ∙ ap (λ s. take 8 (drop (at * full + n.key_len + 8) s)) is_slice
    ∙ ap (λ k. take 8 (drop k n.cells)) place
    ∙ ap (take 8) (sym (drop-drop (n.key_len + 8) (at * full) n.cells))
    ∙ sym (window-take (n.key_len + 8) 8 full cell (omega arith)) in
    let child : page ≡ (entry_at n.key_len n.leaf (take full cell)).child =
    read ∙ ap (from_le_bytes w64) digits ∙ sym (ap (λ leaf. cond leaf 0 (from_le_bytes w64 (take 8 (drop (n.key_len + 8) (take full cell))))) inner) in
    ap Some child ∙ sym (ap (option_map (λ (entry : Entry). entry.child)) (entry_in_cell n at within))
