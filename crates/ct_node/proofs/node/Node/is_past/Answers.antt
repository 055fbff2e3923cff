use Rattle.std.proofs.Common.{not, ap, ◌∙◌, is_gt}
use Rattle.ct_node.specs.Stored.{edge_pair}
use Rattle.ct_node.proofs.Orders.{is_gt-turned}
use Rattle.ct_node.proofs.node.Node.is_past.Goals as goal

pub returns-in-At : goal.returns-in-At
returns-in-At c =
    rw (← c.self.view_is, c.in-Some.is, c.in-At.is)
    (ap not (c.is_gt.ensures ∙ ap is_gt c.cmp_pair.ensures ∙ is_gt-turned (edge_pair c.self.inside.key_len c.in-Some.high) c.in-At.pair))
