use Rattle.std.proofs.Common.{◌++◌, ◌-◌, ◌*◌, ◌/◌, length, take, drop, ap, ◌∙◌, sym, subst, arith}
use Rattle.std.proofs.lemmas.List.{take-append-drop}
use Rattle.ct_node.specs.Nodes.{NodeValue, IsNode}
use Rattle.ct_node.specs.Halves.{middle_of, upper_half}
use Rattle.ct_node.proofs.HalfLemmas.{value_of-upper, IsNode-upper, enough_count, middle_cell_within}
use Rattle.ct_node.proofs.node.Node.upper_half.Goals as goal

pub overflow_mul-start : goal.overflow_mul-start
overflow_mul-start c =
    let n = c.self.inside in
    let within = middle_cell_within n c.width_of-width.result c.self.invariant (enough_count n c.args.self.now c.self.view_is c.requires) c.width_of-width.ensures in
    omega (arith, within.0, within.1)

pub overflow_mul-end : goal.overflow_mul-end
overflow_mul-end c =
    let n = c.self.inside in
    let within = middle_cell_within n c.width_of-width.result c.self.invariant (enough_count n c.args.self.now c.self.view_is c.requires) c.width_of-width.ensures in
    omega (arith, within.1)

pub read-requires-clause-within : goal.read-requires-clause-within
read-requires-clause-within c =
    let n = c.self.inside in
    let within = middle_cell_within n c.width_of-width.result c.self.invariant (enough_count n c.args.self.now c.self.view_is c.requires) c.width_of-width.ensures in
    let long = ap length c.as_slice.ensures in
    omega (arith, within.0, within.1, within.2)

pub copy_cells-requires-clause-order : goal.copy_cells-requires-clause-order
copy_cells-requires-clause-order c =
    let n = c.self.inside in
    let within = middle_cell_within n c.width_of-width.result c.self.invariant (enough_count n c.args.self.now c.self.view_is c.requires) c.width_of-width.ensures in
    omega (arith, within.0)

pub copy_cells-requires-clause-within : goal.copy_cells-requires-clause-within
copy_cells-requires-clause-within c =
    let n = c.self.inside in
    let within = middle_cell_within n c.width_of-width.result c.self.invariant (enough_count n c.args.self.now c.self.view_is c.requires) c.width_of-width.ensures in
    let long = ap length c.as_slice-2.ensures in
    omega (arith, within.1)

pub copy_cells-requires-clause-room : goal.copy_cells-requires-clause-room
copy_cells-requires-clause-room c =
    let n = c.self.inside in
    let within = middle_cell_within n c.width_of-width.result c.self.invariant (enough_count n c.args.self.now c.self.view_is c.requires) c.width_of-width.ensures in
    let long = ap length c.as_mut_slice.ensures.value in
    let whole = c.into.told in
    omega (arith, within.1)

pub invariant_of-into : goal.invariant_of-into
invariant_of-into c =
    let n = c.self.inside in
    let enough = enough_count n c.args.self.now c.self.view_is c.requires in
    subst IsNode (sym (value_of-upper n c.width_of-width.result c.as_slice.result.now c.as_slice-2.result.now (drop (n.count * c.width_of-width.result - n.count / 2 * c.width_of-width.result) c.as_mut_slice.result.now) c.copy_cells.new.into c.read.result c.self.told c.self.invariant enough c.width_of-width.ensures c.as_slice.ensures c.as_slice-2.ensures c.read.ensures c.copy_cells.ensures)) (IsNode-upper n c.self.invariant enough)

pub returns-clause-node : goal.returns-clause-node
returns-clause-node c =
    let n = c.self.inside in
    let enough = enough_count n c.args.self.now c.self.view_is c.requires in
    value_of-upper n c.width_of-width.result c.as_slice.result.now c.as_slice-2.result.now (drop (n.count * c.width_of-width.result - n.count / 2 * c.width_of-width.result) c.as_mut_slice.result.now) c.copy_cells.new.into c.read.result c.self.told c.self.invariant enough c.width_of-width.ensures c.as_slice.ensures c.as_slice-2.ensures c.read.ensures c.copy_cells.ensures ∙ ap upper_half c.self.view_is

pub returns-clause-joined : goal.returns-clause-joined
returns-clause-joined c =
    let node = c.args.self.now in
    ap (λ (value : NodeValue). take (middle_of node) node.entries ++ value.entries) (returns-clause-node c) ∙ take-append-drop (middle_of node) node.entries
