use Rattle.std.proofs.Common.{ap, ◌∙◌, sym}
use Rattle.ct_node.specs.Worlds.{rooted}
use Rattle.ct_node.proofs.MemLemmas.{rooted_world}
use Rattle.ct_node.proofs.mem_nodes.MemNodesNodes.set_root.Goals as goal

pub returns-in-Some-row-clause-world : goal.returns-in-Some-row-clause-world
returns-in-Some-row-clause-world c =
    let r = c.refusal.new.self in
    rooted_world r.pages.items r.latches.holds r.fresh.items c.link_page.new.fresh.items c.args.op c.args.page c.args.at c.in-Some-row.row (sym c.in-Some-row.ensures) c.link_page.ensures
    ∙ ap (rooted c.args.op c.args.at c.args.page) c.in_default.ensures.world
