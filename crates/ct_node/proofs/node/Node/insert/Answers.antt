use Rattle.std.proofs.Common.{◌≡◌, ◌*◌, ◌<◌, ◌≤◌, length, ap, ◌∙◌, sym, subst, arith}
use Rattle.std.proofs.Math.Nat.{mul-le-mul_right}
use Rattle.ct_node.specs.Nodes.{NodeValue, pairs_in, width_of, capacity_of, IsNode}
use Rattle.ct_node.specs.Stored.{value_of}
use Rattle.ct_node.proofs.Entries.{entry_in}
use Rattle.ct_node.proofs.Orders.{map-with_entry}
use Rattle.ct_node.proofs.Edits.{CanTake, with_one_more, IsNode-with_one_more, pairs_ascend, cells_within, next_within, value_of-inserted}
use Rattle.ct_node.proofs.node.Node.insert.Goals as goal

pub count_before-place-requires-clause-cells : goal.count_before-place-requires-clause-cells
count_before-place-requires-clause-cells c =
    let n = c.self.inside in
    let within = cells_within n c.self.invariant in
    let same : n.count * c.width_of-width.result ≡ n.count * width_of n.key_len n.leaf = ap (λ w. n.count * w) c.width_of-width.ensures in
    let long = ap length c.as_slice-cells.ensures in
    omega arith

pub count_before-place-requires-clause-order : goal.count_before-place-requires-clause-order
count_before-place-requires-clause-order c =
    pairs_ascend c.self.inside c.width_of-width.result c.as_slice-cells.result.now c.self.invariant c.width_of-width.ensures c.as_slice-cells.ensures

pub overflow_mul-end : goal.overflow_mul-end
overflow_mul-end c =
    let n = c.self.inside in
    let within = cells_within n c.self.invariant in
    let same : n.count * c.width_of-width.result ≡ n.count * width_of n.key_len n.leaf = ap (λ w. n.count * w) c.width_of-width.ensures in
    omega arith

pub overflow_mul-place : goal.overflow_mul-place
overflow_mul-place c =
    let n = c.self.inside in
    let within = cells_within n c.self.invariant in
    let same : n.count * c.width_of-width.result ≡ n.count * width_of n.key_len n.leaf = ap (λ w. n.count * w) c.width_of-width.ensures in
    let before : c.count_before-place.result * c.width_of-width.result ≤ n.count * c.width_of-width.result = mul-le-mul_right c.width_of-width.result c.count_before-place.ensures.within in
    omega arith

pub insert_entry-requires-clause-room : goal.insert_entry-requires-clause-room
insert_entry-requires-clause-room c =
    let n = c.self.inside in
    let fits : length (value_of n).entries < capacity_of n.key_len n.leaf = subst (λ (value : NodeValue). length value.entries < capacity_of value.key_len value.leaf) (sym c.self.view_is) c.requires.fits in
    let within = next_within n fits in
    let same : n.count * c.width_of-width.result ≡ n.count * width_of n.key_len n.leaf = ap (λ w. n.count * w) c.width_of-width.ensures in
    let key : width_of (length c.args.pair.now.key) n.leaf ≡ width_of n.key_len n.leaf = ap (λ k. width_of k n.leaf) (c.requires.key ∙ sym (ap (λ (value : NodeValue). value.key_len) c.self.view_is)) in
    let long = ap length c.as_mut_slice.ensures.value in
    omega arith

pub invariant_of-self : goal.invariant_of-self
invariant_of-self c =
    let n = c.self.inside in
    let pair = c.args.pair.now in
    let can : CanTake c.args.self.now pair = record { fits = c.requires.fits; key = c.requires.key; absent = c.requires.absent; within = c.requires.within } in
    let can_inside : CanTake (value_of n) pair = subst (λ value. CanTake value pair) (sym c.self.view_is) can in
    let made = value_of-inserted n c.args.self.now pair c.args.child c.count_before-place.result c.width_of-width.result c.as_slice-cells.result.now c.as_mut_slice.result.now c.insert_entry.new.cells c.self.told c.self.view_is can c.insert_entry.ensures.number c.ranges.child.fits c.count_before-place.ensures.within c.count_before-place.ensures.before c.width_of-width.ensures c.as_slice-cells.ensures c.as_mut_slice.ensures.value c.insert_entry.ensures.cells in
    subst IsNode (sym made) (IsNode-with_one_more (value_of n) (entry_in n.leaf pair c.args.child) c.self.invariant can_inside)

pub returns-clause-node : goal.returns-clause-node
returns-clause-node c =
    let n = c.self.inside in
    let pair = c.args.pair.now in
    let can : CanTake c.args.self.now pair = record { fits = c.requires.fits; key = c.requires.key; absent = c.requires.absent; within = c.requires.within } in
    value_of-inserted n c.args.self.now pair c.args.child c.count_before-place.result c.width_of-width.result c.as_slice-cells.result.now c.as_mut_slice.result.now c.insert_entry.new.cells c.self.told c.self.view_is can c.insert_entry.ensures.number c.ranges.child.fits c.count_before-place.ensures.within c.count_before-place.ensures.before c.width_of-width.ensures c.as_slice-cells.ensures c.as_mut_slice.ensures.value c.insert_entry.ensures.cells
    ∙ ap (λ (value : NodeValue). with_one_more value (entry_in value.leaf pair c.args.child)) c.self.view_is

pub returns-clause-pairs : goal.returns-clause-pairs
returns-clause-pairs c =
    let pair = c.args.pair.now in
    ap pairs_in (returns-clause-node c) ∙ map-with_entry (entry_in c.args.self.now.leaf pair c.args.child) c.args.self.now.entries
