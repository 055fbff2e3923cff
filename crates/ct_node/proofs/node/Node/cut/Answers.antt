use Rattle.std.proofs.Common.{◌++◌, length, drop, ap, ◌∙◌, sym, subst, arith}
use Rattle.std.proofs.lemmas.List.{take-append-drop}
use Rattle.ct_node.specs.Nodes.{NodeValue, IsNode}
use Rattle.ct_node.specs.Halves.{middle_of, lower_half}
use Rattle.ct_node.proofs.HalfLemmas.{value_of-lower, IsNode-lower, enough_count, middle_cell_within}
use Rattle.ct_node.proofs.node.Node.cut.Goals as goal

pub overflow_mul-middle : goal.overflow_mul-middle
overflow_mul-middle c =
    let n = c.self.inside in
    let within = middle_cell_within n c.width_of-width.result c.self.invariant (enough_count n c.args.self.now c.self.view_is c.requires) c.width_of-width.ensures in
    omega (arith, within.0, within.1)

pub read-requires-clause-within : goal.read-requires-clause-within
read-requires-clause-within c =
    let n = c.self.inside in
    let within = middle_cell_within n c.width_of-width.result c.self.invariant (enough_count n c.args.self.now c.self.view_is c.requires) c.width_of-width.ensures in
    let long = ap length c.as_slice.ensures in
    omega (arith, within.0, within.1, within.2)

pub invariant_of-self : goal.invariant_of-self
invariant_of-self c =
    let n = c.self.inside in
    let enough = enough_count n c.args.self.now c.self.view_is c.requires in
    subst IsNode (sym (value_of-lower n c.args.right c.width_of-width.result c.as_slice.result.now c.read.result c.self.told c.self.invariant enough c.width_of-width.ensures c.as_slice.ensures c.read.ensures)) (IsNode-lower n c.args.right c.self.invariant enough)

pub returns-clause-node : goal.returns-clause-node
returns-clause-node c =
    let n = c.self.inside in
    let enough = enough_count n c.args.self.now c.self.view_is c.requires in
    value_of-lower n c.args.right c.width_of-width.result c.as_slice.result.now c.read.result c.self.told c.self.invariant enough c.width_of-width.ensures c.as_slice.ensures c.read.ensures ∙ ap (lower_half c.args.right) c.self.view_is

pub returns-clause-joined : goal.returns-clause-joined
returns-clause-joined c =
    let node = c.args.self.now in
    ap (λ (value : NodeValue). value.entries ++ drop (middle_of node) node.entries) (returns-clause-node c) ∙ take-append-drop (middle_of node) node.entries
