use Rattle.std.proofs.Common.{◌≡◌, ◌*◌, length, ap, ◌∙◌, arith}
use Rattle.std.specs.List.{prefix_len}
use Rattle.ct_node.specs.Nodes.{NodeValue, pairs_in, width_of}
use Rattle.ct_node.specs.Places.{is_before}
use Rattle.ct_node.proofs.Edits.{pairs_ascend, cells_within}
use Rattle.ct_node.proofs.Walks.{count_before-is}
use Rattle.ct_node.proofs.node.Node.count_before.Goals as goal

pub count_before-requires-clause-cells : goal.count_before-requires-clause-cells
count_before-requires-clause-cells c =
    let n = c.self.inside in
    let within = cells_within n c.self.invariant in
    let same : n.count * c.width_of-width.result ≡ n.count * width_of n.key_len n.leaf = ap (λ w. n.count * w) c.width_of-width.ensures in
    let long = ap length c.as_slice.ensures in
    omega arith

pub count_before-requires-clause-order : goal.count_before-requires-clause-order
count_before-requires-clause-order c =
    pairs_ascend c.self.inside c.width_of-width.result c.as_slice.result.now c.self.invariant c.width_of-width.ensures c.as_slice.ensures

pub returns : goal.returns
returns c =
    count_before-is c.self.inside c.args.or_at c.args.pair.now c.count_before.result c.width_of-width.result c.as_slice.result.now c.count_before.ensures.before c.width_of-width.ensures c.as_slice.ensures
    ∙ ap (λ (value : NodeValue). prefix_len (is_before c.args.or_at c.args.pair.now) (pairs_in value)) c.self.view_is
