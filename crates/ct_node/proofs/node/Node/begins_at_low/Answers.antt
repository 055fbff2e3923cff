use Rattle.std.proofs.Common.{◌≡◌, ◌<◌, ◌*◌, ◌||◌, ◌∙◌, ℕ, Bool, false, List, Some, ap, sym, drop, arith}
use Rattle.std.specs.Prelude.{slice_get}
use Rattle.std.specs.Option.{option_map_or}
use Rattle.std.specs.Ordering.{is_eq}
use Rattle.ct_definitions.specs.Pairs.{Pair, pair_cmp}
use Rattle.ct_node.specs.Nodes.{pairs_in, width_of}
use Rattle.ct_node.specs.Cells.{pair_at}
use Rattle.ct_node.specs.Stored.{value_of}
use Rattle.ct_node.specs.Roles.{first_of, begins_at_low}
use Rattle.ct_node.specs.declared.node.Node.TheInside.{Inside}
use Rattle.ct_node.proofs.HalfLemmas.{slice_get-in_cell}
use Rattle.ct_node.proofs.node.Node.begins_at_low.Goals as goal

-- the first cell of an inner node tells where it begins
first_cell : (n : Inside) (is : Bool) (first : Pair) (slice : List ℕ) → n.leaf ≡ false → 0 < n.count → slice ≡ n.cells → first ≡ first_of n.key_len (value_of n).low → is ≡ is_eq (pair_cmp (pair_at n.key_len slice) first) → is ≡ begins_at_low (value_of n)
first_cell n is first slice inner some cells bound told =
    let low = first_of n.key_len (value_of n).low in
    let here : 0 * width_of n.key_len n.leaf ≡ 0 = omega arith in
    let cell : slice_get (pairs_in (value_of n)) 0 ≡ Some (pair_at n.key_len n.cells) = slice_get-in_cell n 0 some ∙ ap (λ at. Some (pair_at n.key_len (drop at n.cells))) here in
    told
    ∙ ap (λ s. is_eq (pair_cmp (pair_at n.key_len s) first)) cells
    ∙ ap (λ pair. is_eq (pair_cmp (pair_at n.key_len n.cells) pair)) bound
    ∙ ap (λ o. option_map_or (λ (pair : Pair). is_eq (pair_cmp pair low)) o false) (sym cell)
    ∙ ap (λ b. b || option_map_or (λ (pair : Pair). is_eq (pair_cmp pair low)) (slice_get (pairs_in (value_of n)) 0) false) (sym inner)

pub returns : goal.returns
returns c =
    let n = c.self.inside in
    let is = c.self.invariant in
    first_cell n c.is_at.result _ c.as_slice.result.now c.if-self.false (omega arith) c.as_slice.ensures (c.first_of.ensures n.key_len is.short_key) c.is_at.ensures ∙ ap begins_at_low c.self.view_is
