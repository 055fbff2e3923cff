use Rattle.ct_node.proofs.MemLemmas.{damaged_world}
use Rattle.ct_node.proofs.mem_nodes.MemNodes.damage.Goals as goal

pub returns-then-page-len-clause-world : goal.returns-then-page-len-clause-world
returns-then-page-len-clause-world c =
    let r = c.args.self.now in
    damaged_world r.pages.items r.latches.holds r.fresh.items c.args.page c.copy_into.new.into c.args.node.now c.copy_into.ensures
