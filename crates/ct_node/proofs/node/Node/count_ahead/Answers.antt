use Rattle.std.proofs.Common.{sym, ◌∙◌}
use Rattle.std.proofs.lemmas.List.{length-map}
use Rattle.ct_node.specs.Nodes.{pair_in, pairs_in}
use Rattle.ct_node.proofs.Orders.{prefix_len-none, prefix_len-all}
use Rattle.ct_node.proofs.node.Node.count_ahead.Goals as goal

pub returns-in-First : goal.returns-in-First
returns-in-First c = rw c.in-First.is (sym (prefix_len-none (pairs_in c.args.self.now)))

pub returns-in-Last : goal.returns-in-Last
returns-in-Last c =
    rw c.in-Last.is (c.count.ensures.count ∙ sym (length-map c.args.self.now.entries pair_in) ∙ sym (prefix_len-all (pairs_in c.args.self.now)))
