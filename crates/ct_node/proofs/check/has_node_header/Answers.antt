use Rattle.std.proofs.Common.{◌&&◌, leb, ap, sym, ◌∙◌, get_or}
use Rattle.ct_page.specs.Fields.{u16_at}
use Rattle.ct_node.specs.Nodes.{capacity_of}
use Rattle.ct_node.specs.Pages.{is_leaf_in, has_node_header}
use Rattle.ct_node.proofs.check.has_node_header.Goals as goal

pub returns-then-not-is_node_of_keys : goal.returns-then-not-is_node_of_keys
unfolding has_node_header
returns-then-not-is_node_of_keys c =
    let page = c.args.page.now in
    ap (λ b. b && leb (u16_at 6 page) (capacity_of (get_or page 24 0) (is_leaf_in page))) (sym c.if-not-is_node_of_keys.true ∙ c.is_node_of_keys.ensures)

pub returns : goal.returns
unfolding has_node_header
returns c =
    let page = c.args.page.now in
    ap (λ n. leb n c.capacity_of.result) c.count_in.ensures
    ∙ ap (λ n. leb (u16_at 6 page) n) (c.capacity_of.ensures ∙ ap (λ n. capacity_of n c.is_leaf.result) c.key_len_in.ensures ∙ ap (λ leaf. capacity_of (get_or page 24 0) leaf) c.is_leaf.ensures)
    ∙ ap (λ b. b && leb (u16_at 6 page) (capacity_of (get_or page 24 0) (is_leaf_in page))) (sym c.if-not-is_node_of_keys.false ∙ c.is_node_of_keys.ensures)
