use Rattle.ct_node.proofs.Readings.{IsNode-node_in, page_text-node_in}
use Rattle.ct_node.proofs.laws.node_pages_are_exact.Goals as goal

pub returns-clause-nodes : goal.returns-clause-nodes
returns-clause-nodes c = IsNode-node_in

pub returns-clause-spelled : goal.returns-clause-spelled
returns-clause-spelled c = page_text-node_in
