use Rattle.std.proofs.Common.{◌*◌, ◌-◌, length, drop, ap, ◌∙◌, sym, subst, arith}
use Rattle.ct_node.specs.Nodes.{IsNode}
use Rattle.ct_node.proofs.Edits.{cells_within}
use Rattle.ct_node.proofs.HalfLemmas.{value_of-copied}
use Rattle.ct_node.proofs.node.Node.copy_into.Goals as goal

pub overflow_mul-end : goal.overflow_mul-end
overflow_mul-end c =
    let n = c.self.inside in
    let same = ap (λ w. n.count * w) c.width_of.ensures in
    omega (arith, same, cells_within n c.self.invariant)

pub copy_cells-requires-clause-within : goal.copy_cells-requires-clause-within
copy_cells-requires-clause-within c =
    let n = c.self.inside in
    let same = ap (λ w. n.count * w) c.width_of.ensures in
    let long = ap length c.as_slice.ensures in
    omega (arith, same, long, cells_within n c.self.invariant)

pub copy_cells-requires-clause-room : goal.copy_cells-requires-clause-room
copy_cells-requires-clause-room c =
    let n = c.self.inside in
    let same = ap (λ w. n.count * w) c.width_of.ensures in
    let long = ap length c.as_mut_slice.ensures.value in
    let whole = c.into.told in
    omega (arith, same, long, whole, cells_within n c.self.invariant)

pub invariant_of-into : goal.invariant_of-into
invariant_of-into c =
    let n = c.self.inside in
    subst IsNode (sym (value_of-copied n c.width_of.result c.as_slice.result.now (drop (n.count * c.width_of.result - 0) c.as_mut_slice.result.now) c.copy_cells.new.into c.self.told c.self.invariant c.width_of.ensures c.as_slice.ensures c.copy_cells.ensures)) c.self.invariant

pub returns : goal.returns
returns c =
    let n = c.self.inside in
    value_of-copied n c.width_of.result c.as_slice.result.now (drop (n.count * c.width_of.result - 0) c.as_mut_slice.result.now) c.copy_cells.new.into c.self.told c.self.invariant c.width_of.ensures c.as_slice.ensures c.copy_cells.ensures ∙ c.self.view_is
