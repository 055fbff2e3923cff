use Rattle.std.proofs.Common.{Bool, not, rules, of_calls}
use Rattle.std.proofs.lemmas.Fn.{filter_same}
use Rattle.ct_node.specs.declared.root.Owner.{Owner}
use Rattle.ct_node.specs.Worlds.{is_owner}
use Rattle.ct_node.proofs.mem_nodes.link_page.Goals as goal

pub returns : goal.returns
returns c =
    let others : Owner → Bool = λ owner. not (is_owner c.args.op c.args.page owner) in
    filter_same _ others _ (λ x b f called. search (rules, of_calls)) _ _ c.retain.ensures.filtered
