use Rattle.std.proofs.Common.{ap, ◌∙◌, is_gt}
use Rattle.ct_node.specs.Stored.{edge_pair}
use Rattle.ct_node.proofs.Orders.{is_gt-turned}
use Rattle.ct_node.proofs.node.Node.is_below.Goals as goal

pub returns : goal.returns
returns c =
    rw (← c.self.view_is, c.in-Some.is)
    (c.is_gt.ensures ∙ ap is_gt c.cmp_pair.ensures ∙ is_gt-turned (edge_pair c.self.inside.key_len c.in-Some.high) c.args.pair.now)
