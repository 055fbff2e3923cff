use Rattle.std.proofs.Common.{ap, ◌∙◌}
use Rattle.ct_node.specs.Worlds.{edited}
use Rattle.ct_node.proofs.MemLemmas.{edited_world}
use Rattle.ct_node.proofs.mem_nodes.MemNodesNodes.edit.Goals as goal

pub returns-clause-world : goal.returns-clause-world
returns-clause-world c =
    let r = c.refusal.new.self in
    edited_world r.pages.items r.latches.holds r.fresh.items c.link_page.new.fresh.items c.args.op c.args.page c.right-right.result c.copy_into.new.into c.args.node.now c.copy_into.ensures c.right-right.ensures c.link_page.ensures
    ∙ ap (edited c.args.op c.args.page c.args.node.now) c.in_default.ensures.world
