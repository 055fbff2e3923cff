use Rattle.ct_node.proofs.Repositions.{node_in-repositioned, page_text-repositioned}
use Rattle.ct_node.proofs.laws.positions_keep_nodes.Goals as goal

pub returns-clause-node : goal.returns-clause-node
returns-clause-node c = node_in-repositioned

pub returns-clause-text : goal.returns-clause-text
returns-clause-text c = page_text-repositioned
