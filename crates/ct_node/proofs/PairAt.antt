-- The pair in the cell of a place.
use Rattle.std.proofs.Common.{refl, ◌≡◌, ℕ, ◌+◌, ◌*◌, ◌<◌, ◌≤◌, List, length, take, drop, Some, ap, sym, ◌∙◌, arith}
use Rattle.std.specs.Prelude.{slice_get}
use Rattle.std.specs.List.{All}
use Rattle.std.specs.Int.{w64, from_be_bytes}
use Rattle.std.proofs.lemmas.List.{drop-drop, length-map, length-take-le, length-drop}
use Rattle.ct_definitions.specs.Pairs.{Pair}
use Rattle.ct_node.specs.Nodes.{NodeValue, IsNode, pair_in, pairs_in, width_of}
use Rattle.ct_node.specs.Cells.{entries_of}
use Rattle.ct_node.specs.Stored.{value_of}
use Rattle.ct_node.specs.declared.node.Node.TheInside.{Inside}
use Rattle.ct_node.proofs.CellLemmas.{step_within}
use Rattle.ct_node.proofs.Entries.{length-entries_of, width_of-bounds}
use Rattle.ct_node.proofs.Edits.{cells_within}
use Rattle.ct_node.proofs.HalfLemmas.{slice_get-in_cell, pair_in_cell}

pub enough_at : (n : Inside) (now : NodeValue) (place : ℕ) → value_of n ≡ now → place < length now.entries → place < n.count
enough_at n now place view within =
    let count = length-entries_of n.key_len n.leaf n.count n.cells in
    let same = ap (λ (value : NodeValue). length value.entries) view in
    omega arith

-- the cell of a place stands in the bytes
pub place_within : (n : Inside) (place width : ℕ) → IsNode (value_of n) → place < n.count → width ≡ width_of n.key_len n.leaf → (place * width + width ≤ 3968) × (n.key_len + 8 ≤ width)
place_within n place width is within is_width =
    let room = cells_within n is in
    let same : n.count * width ≡ n.count * width_of n.key_len n.leaf = ap (λ w. n.count * w) is_width in
    let bounds = width_of-bounds n.key_len n.leaf in
    let step = step_within place n.count width within in
    (omega arith, omega arith)

pub pair_from_cell : (n : Inside) (now : NodeValue) (place width start num : ℕ) (key first second : List ℕ) → value_of n ≡ now → place < n.count → width ≡ width_of n.key_len n.leaf → start ≡ place * width → first ≡ n.cells → second ≡ n.cells → key ≡ take n.key_len (drop start first) → num ≡ from_be_bytes w64 (take 8 (drop (start + n.key_len) second)) → slice_get (pairs_in now) place ≡ Some (record { key = key; num = num })
pair_from_cell n now place width start num key first second view within is_width is_start is_first is_second is_key is_num =
    let full = place * width_of n.key_len n.leaf in
    let at : start ≡ full = is_start ∙ ap (λ w. place * w) is_width in
    let made : List ℕ → ℕ → Pair = λ text digits. record { key = text; num = digits } in
    let text : key ≡ take n.key_len (drop full n.cells) = is_key ∙ ap (λ s. take n.key_len (drop s first)) at ∙ ap (λ bytes. take n.key_len (drop full bytes)) is_first in
    let digits : num ≡ from_be_bytes w64 (take 8 (drop n.key_len (drop full n.cells))) =
    is_num ∙ ap (λ s. from_be_bytes w64 (take 8 (drop (s + n.key_len) second))) at ∙ ap (λ bytes. from_be_bytes w64 (take 8 (drop (full + n.key_len) bytes))) is_second ∙ ap (λ bytes. from_be_bytes w64 (take 8 bytes)) (sym (drop-drop n.key_len full n.cells)) in
    ap (λ value. slice_get (pairs_in value) place) (sym view) ∙ slice_get-in_cell n place within ∙ sym (ap Some (ap (λ k. made k num) text ∙ ap (made (take n.key_len (drop full n.cells))) digits))

-- the keys of a node's pairs are as long as its keys are
pub keys_of : (n : Inside) → IsNode (value_of n) → length n.cells ≡ 3968 → All (λ (pair : Pair). length pair.key ≡ n.key_len) (pairs_in (value_of n))
keys_of n is long i d within =
    let count = length-entries_of n.key_len n.leaf n.count n.cells in
    let list = length-map (entries_of n.key_len n.leaf n.count n.cells) pair_in in
    let inside : i < n.count = omega arith in
    let room = place_within n i (width_of n.key_len n.leaf) is inside refl in
    let start = i * width_of n.key_len n.leaf in
    ap (λ (pair : Pair). length pair.key) (pair_in_cell n i d inside)
    ∙ length-take-le n.key_len (drop start n.cells) (let rest = length-drop start n.cells in omega arith)
