use Rattle.std.proofs.Common.{◌≡◌, ◌+◌, ◌*◌, false, length, ap, ◌∙◌, sym, subst, arith}
use Rattle.std.specs.Prelude.{option_map, slice_get, Some, None}
use Rattle.ct_node.specs.Nodes.{Entry, NodeValue, width_of}
use Rattle.ct_node.specs.Stored.{value_of}
use Rattle.ct_node.proofs.CellLemmas.{step_within}
use Rattle.ct_node.proofs.Searches.{slice_get-past}
use Rattle.ct_node.proofs.Entries.{length-entries_of}
use Rattle.ct_node.proofs.Edits.{cells_within}
use Rattle.ct_node.proofs.Walks.{child-from_cell}
use Rattle.ct_node.proofs.node.Node.child.Goals as goal

pub returns-then-place-self : goal.returns-then-place-self
returns-then-place-self c =
    let n = c.self.inside in
    let long = length-entries_of n.key_len n.leaf n.count n.cells in
    subst (λ (value : NodeValue). None ≡ option_map (λ (entry : Entry). entry.child) (slice_get value.entries c.args.place)) c.self.view_is
    (sym (ap (option_map (λ (entry : Entry). entry.child)) (slice_get-past (value_of n).entries c.args.place (omega arith))))

pub overflow_mul-behind : goal.overflow_mul-behind
overflow_mul-behind c =
    let n = c.self.inside in
    let within = cells_within n c.self.invariant in
    let same : n.count * c.width_of-width.result ≡ n.count * width_of n.key_len n.leaf = ap (λ w. n.count * w) c.width_of-width.ensures in
    omega (arith, step_within c.args.place n.count c.width_of-width.result c.if-place-self.false)

pub overflow_add-behind : goal.overflow_add-behind
overflow_add-behind c =
    let n = c.self.inside in
    let within = cells_within n c.self.invariant in
    let short = c.self.invariant.short_key in
    let same : n.count * c.width_of-width.result ≡ n.count * width_of n.key_len n.leaf = ap (λ w. n.count * w) c.width_of-width.ensures in
    omega (arith, step_within c.args.place n.count c.width_of-width.result c.if-place-self.false)

pub overflow_add-behind-2 : goal.overflow_add-behind-2
overflow_add-behind-2 c =
    let n = c.self.inside in
    let within = cells_within n c.self.invariant in
    let short = c.self.invariant.short_key in
    let same : n.count * c.width_of-width.result ≡ n.count * width_of n.key_len n.leaf = ap (λ w. n.count * w) c.width_of-width.ensures in
    omega (arith, step_within c.args.place n.count c.width_of-width.result c.if-place-self.false)

pub page_at-requires : goal.page_at-requires
page_at-requires c =
    let n = c.self.inside in
    let within = cells_within n c.self.invariant in
    let inner : n.leaf ≡ false = ap (λ (value : NodeValue). value.leaf) c.self.view_is ∙ c.requires in
    let wide : c.width_of-width.result ≡ n.key_len + 16 = c.width_of-width.ensures ∙ ap (width_of n.key_len) inner in
    let same : n.count * c.width_of-width.result ≡ n.count * width_of n.key_len n.leaf = ap (λ w. n.count * w) c.width_of-width.ensures in
    let long = ap length c.as_slice.ensures in
    omega (arith, step_within c.args.place n.count c.width_of-width.result c.if-place-self.false)

pub returns : goal.returns
returns c =
    let n = c.self.inside in
    let inner : n.leaf ≡ false = ap (λ (value : NodeValue). value.leaf) c.self.view_is ∙ c.requires in
    subst (λ (value : NodeValue). Some c.page_at.result ≡ option_map (λ (entry : Entry). entry.child) (slice_get value.entries c.args.place)) c.self.view_is
    (child-from_cell n c.args.place c.width_of-width.result c.page_at.result c.as_slice.result.now inner c.if-place-self.false c.width_of-width.ensures c.as_slice.ensures c.page_at.ensures)
