use Rattle.std.proofs.Common.{sym, ◌∙◌, arith}
use Rattle.ct_node.proofs.PageLemmas.{header_parts, body_within, is_node_page-body, is_node_page-without}
use Rattle.ct_node.proofs.check.is_node_page.Goals as goal

pub returns-then-not-has_node_header : goal.returns-then-not-has_node_header
returns-then-not-has_node_header c = is_node_page-without c.args.page.now (sym c.has_node_header.ensures ∙ c.if-not-has_node_header.true)

pub width_of-requires : goal.width_of-requires
width_of-requires c =
    let has = header_parts c.args.page.now (sym c.has_node_header.ensures ∙ c.if-not-has_node_header.false) in
    let short = has.short_key in
    omega (arith, c.key_len_in-key_len.ensures)

pub has_body-requires-clause-key : goal.has_body-requires-clause-key
has_body-requires-clause-key c =
    let has = header_parts c.args.page.now (sym c.has_node_header.ensures ∙ c.if-not-has_node_header.false) in
    let short = has.short_key in
    omega (arith, c.key_len_in-key_len.ensures)

pub has_body-requires-clause-cells : goal.has_body-requires-clause-cells
has_body-requires-clause-cells c =
    body_within c.args.page.now c.key_len_in-key_len.result c.count_in-count.result c.width_of.result c.is_leaf.result (header_parts c.args.page.now (sym c.has_node_header.ensures ∙ c.if-not-has_node_header.false)) c.key_len_in-key_len.ensures c.count_in-count.ensures c.width_of.ensures c.is_leaf.ensures

pub returns : goal.returns
returns c =
    is_node_page-body c.args.page.now c.has_body.result c.key_len_in-key_len.result c.count_in-count.result c.width_of.result c.is_leaf.result (sym c.has_node_header.ensures ∙ c.if-not-has_node_header.false) c.has_body.ensures c.key_len_in-key_len.ensures c.count_in-count.ensures c.width_of.ensures c.is_leaf.ensures
