use Rattle.std.specs.List.{All}
use Rattle.ct_definitions.specs.Pairs.{Pair}
use Rattle.std.proofs.Common.{◌≡◌, arith, subst, ap, sym, ◌∙◌, length}
use Rattle.ct_node.specs.Nodes.{NodeValue, pairs_in}
use Rattle.ct_node.proofs.PairAt.{keys_of}
use Rattle.ct_node.proofs.Entries.{length-entries_of}
use Rattle.ct_node.proofs.node.Node.count.Goals as goal

pub returns-clause-count : goal.returns-clause-count
returns-clause-count c =
    let node = c.self.inside in
    sym (length-entries_of node.key_len node.leaf node.count node.cells) ∙ ap (λ (value : NodeValue). length value.entries) c.self.view_is

pub returns-clause-keys : goal.returns-clause-keys
returns-clause-keys c =
    let node = c.self.inside in
    subst (λ (value : NodeValue). All (λ (pair : Pair). length pair.key ≡ value.key_len) (pairs_in value)) c.self.view_is (keys_of node c.self.invariant (omega arith))
