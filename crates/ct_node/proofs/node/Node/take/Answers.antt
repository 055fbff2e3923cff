use Rattle.std.proofs.Common.{◌≡◌, ◌*◌, ◌≤◌, length, ap, ◌∙◌, sym, subst, arith}
use Rattle.std.proofs.Math.Nat.{mul-le-mul_right}
use Rattle.ct_node.specs.Nodes.{NodeValue, pairs_in, width_of, IsNode, has_pair}
use Rattle.ct_node.specs.Stored.{value_of}
use Rattle.ct_node.proofs.CellLemmas.{step_within}
use Rattle.ct_node.proofs.Edits.{place-from_search, pairs_ascend, cells_within, cell_at-is, has_pair-at, value_of-kept, value_of-taken, without_pair, IsNode-without_pair}
use Rattle.ct_node.proofs.node.Node.take.Goals as goal

pub count_before-place-requires-clause-cells : goal.count_before-place-requires-clause-cells
count_before-place-requires-clause-cells c =
    let n = c.self.inside in
    let within = cells_within n c.self.invariant in
    let same : n.count * c.width_of-width.result ≡ n.count * width_of n.key_len n.leaf = ap (λ w. n.count * w) c.width_of-width.ensures in
    let long = ap length c.as_slice-cells.ensures in
    omega arith

pub count_before-place-requires-clause-order : goal.count_before-place-requires-clause-order
count_before-place-requires-clause-order c =
    pairs_ascend c.self.inside c.width_of-width.result c.as_slice-cells.result.now c.self.invariant c.width_of-width.ensures c.as_slice-cells.ensures

pub overflow_mul-end : goal.overflow_mul-end
overflow_mul-end c =
    let n = c.self.inside in
    let within = cells_within n c.self.invariant in
    let same : n.count * c.width_of-width.result ≡ n.count * width_of n.key_len n.leaf = ap (λ w. n.count * w) c.width_of-width.ensures in
    omega arith

pub is_cell_of-requires-clause-cells : goal.is_cell_of-requires-clause-cells
is_cell_of-requires-clause-cells c =
    let n = c.self.inside in
    let within = cells_within n c.self.invariant in
    let same : n.count * c.width_of-width.result ≡ n.count * width_of n.key_len n.leaf = ap (λ w. n.count * w) c.width_of-width.ensures in
    let long = ap length c.as_slice.ensures in
    omega arith

pub returns-then-not-is_cell_of-clause-found : goal.returns-then-not-is_cell_of-clause-found
returns-then-not-is_cell_of-clause-found c =
    let n = c.self.inside in
    let pair = c.args.pair.now in
    let place_is = place-from_search n pair c.count_before-place.result c.width_of-width.result c.as_slice-cells.result.now c.count_before-place.ensures.before c.width_of-width.ensures c.as_slice-cells.ensures in
    let told = cell_at-is n pair c.count_before-place.result c.width_of-width.result c.as_slice.result.now c.is_cell_of.result c.width_of-width.ensures c.as_slice.ensures c.is_cell_of.ensures.pair in
    sym c.if-not-is_cell_of.true ∙ told ∙ sym (has_pair-at n pair c.count_before-place.result c.self.invariant place_is) ∙ ap (λ (value : NodeValue). has_pair pair (pairs_in value)) c.self.view_is

pub returns-then-not-is_cell_of-clause-node : goal.returns-then-not-is_cell_of-clause-node
returns-then-not-is_cell_of-clause-node c =
    let n = c.self.inside in
    let pair = c.args.pair.now in
    let place_is = place-from_search n pair c.count_before-place.result c.width_of-width.result c.as_slice-cells.result.now c.count_before-place.ensures.before c.width_of-width.ensures c.as_slice-cells.ensures in
    let told = cell_at-is n pair c.count_before-place.result c.width_of-width.result c.as_slice.result.now c.is_cell_of.result c.width_of-width.ensures c.as_slice.ensures c.is_cell_of.ensures.pair in
    subst (λ (value : NodeValue). value ≡ without_pair value pair) c.self.view_is (value_of-kept n pair c.count_before-place.result c.self.invariant place_is (sym told ∙ c.if-not-is_cell_of.true))

pub overflow_mul-place : goal.overflow_mul-place
overflow_mul-place c =
    let n = c.self.inside in
    let within = cells_within n c.self.invariant in
    let same : n.count * c.width_of-width.result ≡ n.count * width_of n.key_len n.leaf = ap (λ w. n.count * w) c.width_of-width.ensures in
    let before : c.count_before-place.result * c.width_of-width.result ≤ n.count * c.width_of-width.result = mul-le-mul_right c.width_of-width.result c.count_before-place.ensures.within in
    omega arith

pub remove_cell-requires-clause-order : goal.remove_cell-requires-clause-order
remove_cell-requires-clause-order c =
    step_within c.count_before-place.result c.self.inside.count c.width_of-width.result (c.is_cell_of.ensures.within c.if-not-is_cell_of.false)

pub remove_cell-requires-clause-within : goal.remove_cell-requires-clause-within
remove_cell-requires-clause-within c =
    let n = c.self.inside in
    let within = cells_within n c.self.invariant in
    let same : n.count * c.width_of-width.result ≡ n.count * width_of n.key_len n.leaf = ap (λ w. n.count * w) c.width_of-width.ensures in
    let long = ap length c.as_mut_slice.ensures.value in
    omega arith

pub invariant_of-self : goal.invariant_of-self
invariant_of-self c =
    let n = c.self.inside in
    let pair = c.args.pair.now in
    let place_is = place-from_search n pair c.count_before-place.result c.width_of-width.result c.as_slice-cells.result.now c.count_before-place.ensures.before c.width_of-width.ensures c.as_slice-cells.ensures in
    let told = cell_at-is n pair c.count_before-place.result c.width_of-width.result c.as_slice.result.now c.is_cell_of.result c.width_of-width.ensures c.as_slice.ensures c.is_cell_of.ensures.pair in
    let made = value_of-taken n pair c.count_before-place.result c.width_of-width.result c.as_mut_slice.result.now c.remove_cell.new.cells c.self.told c.self.invariant (c.is_cell_of.ensures.within c.if-not-is_cell_of.false) place_is (sym told ∙ c.if-not-is_cell_of.false) c.width_of-width.ensures c.as_mut_slice.ensures.value c.remove_cell.ensures in
    subst IsNode (sym made) (IsNode-without_pair (value_of n) pair c.self.invariant)

pub returns-clause-found : goal.returns-clause-found
returns-clause-found c =
    let n = c.self.inside in
    let pair = c.args.pair.now in
    let place_is = place-from_search n pair c.count_before-place.result c.width_of-width.result c.as_slice-cells.result.now c.count_before-place.ensures.before c.width_of-width.ensures c.as_slice-cells.ensures in
    let told = cell_at-is n pair c.count_before-place.result c.width_of-width.result c.as_slice.result.now c.is_cell_of.result c.width_of-width.ensures c.as_slice.ensures c.is_cell_of.ensures.pair in
    sym c.if-not-is_cell_of.false ∙ told ∙ sym (has_pair-at n pair c.count_before-place.result c.self.invariant place_is) ∙ ap (λ (value : NodeValue). has_pair pair (pairs_in value)) c.self.view_is

pub returns-clause-node : goal.returns-clause-node
returns-clause-node c =
    let n = c.self.inside in
    let pair = c.args.pair.now in
    let place_is = place-from_search n pair c.count_before-place.result c.width_of-width.result c.as_slice-cells.result.now c.count_before-place.ensures.before c.width_of-width.ensures c.as_slice-cells.ensures in
    let told = cell_at-is n pair c.count_before-place.result c.width_of-width.result c.as_slice.result.now c.is_cell_of.result c.width_of-width.ensures c.as_slice.ensures c.is_cell_of.ensures.pair in
    value_of-taken n pair c.count_before-place.result c.width_of-width.result c.as_mut_slice.result.now c.remove_cell.new.cells c.self.told c.self.invariant (c.is_cell_of.ensures.within c.if-not-is_cell_of.false) place_is (sym told ∙ c.if-not-is_cell_of.false) c.width_of-width.ensures c.as_mut_slice.ensures.value c.remove_cell.ensures
    ∙ ap (λ (value : NodeValue). without_pair value pair) c.self.view_is
