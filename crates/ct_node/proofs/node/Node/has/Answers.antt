use Rattle.std.proofs.Common.{◌≡◌, ◌*◌, length, ap, ◌∙◌, sym, arith, false}
use Rattle.std.specs.List.{prefix_len}
use Rattle.ct_node.specs.Nodes.{NodeValue, pairs_in, width_of, has_pair}
use Rattle.ct_node.specs.Places.{is_before}
use Rattle.ct_node.proofs.Edits.{cells_within, has_pair-at, cell_at-is}
use Rattle.ct_node.proofs.node.Node.has.Goals as goal

pub is_cell_of-requires-clause-cells : goal.is_cell_of-requires-clause-cells
is_cell_of-requires-clause-cells c =
    let n = c.self.inside in
    let within = cells_within n c.self.invariant in
    let same : n.count * c.width_of-width.result ≡ n.count * width_of n.key_len n.leaf = ap (λ w. n.count * w) c.width_of-width.ensures in
    let long = ap length c.as_slice-cells.ensures in
    omega arith

pub returns : goal.returns
returns c =
    let n = c.self.inside in
    let pair = c.args.pair.now in
    let place_is = c.count_before-place.ensures ∙ ap (λ (value : NodeValue). prefix_len (is_before false pair) (pairs_in value)) (sym c.self.view_is) in
    cell_at-is n pair c.count_before-place.result c.width_of-width.result c.as_slice-cells.result.now c.is_cell_of.result c.width_of-width.ensures c.as_slice-cells.ensures c.is_cell_of.ensures.pair
    ∙ sym (has_pair-at n pair c.count_before-place.result c.self.invariant place_is)
    ∙ ap (λ (value : NodeValue). has_pair pair (pairs_in value)) c.self.view_is
