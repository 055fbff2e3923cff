use Rattle.std.proofs.Common.{ap, sym, ◌∙◌, length, ltb}
use Rattle.ct_node.specs.Nodes.{NodeValue, capacity_of}
use Rattle.ct_node.proofs.Entries.{length-entries_of}
use Rattle.ct_node.proofs.node.Node.fits.Goals as goal

pub returns : goal.returns
returns c =
    let node = c.self.inside in
    ap (ltb node.count) c.capacity_of.ensures
    ∙ ap (λ count. ltb count (capacity_of node.key_len node.leaf)) (sym (length-entries_of node.key_len node.leaf node.count node.cells))
    ∙ ap (λ (value : NodeValue). ltb (length value.entries) (capacity_of value.key_len value.leaf)) c.self.view_is
