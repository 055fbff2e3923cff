use Rattle.std.proofs.Common.{◌≡◌, ◌∙◌, ap, sym, arith, subst, drop, ◌++◌, ◌-◌, replicate, Some}
use Rattle.ct_page.specs.Fields.{u64_at}
use Rattle.ct_node.specs.Nodes.{IsNode}
use Rattle.ct_node.specs.Stored.{value_of}
use Rattle.ct_node.specs.Pages.{value_in, bound_at, page_text}
use Rattle.ct_node.specs.declared.node.Node.TheInside.{Inside}
use Rattle.ct_node.proofs.PageLemmas.{known_page, header_parts, page_from_parts, IsNode-value_in, node_in-is}
use Rattle.ct_node.proofs.Readings.{IsRead, value_of-read, page_text-value_in}
use Rattle.ct_node.proofs.node.Node.from_node_page.Goals as goal

pub high_at-requires : goal.high_at-requires
high_at-requires c =
    let short = (header_parts c.args.bytes.now (known_page c.args.bytes.now c.requires).header).short_key in
    omega (arith, c.key_len_in-key_len.ensures)

pub cells_at-requires : goal.cells_at-requires
cells_at-requires c =
    let short = (header_parts c.args.bytes.now (known_page c.args.bytes.now c.requires).header).short_key in
    omega (arith, c.key_len_in-key_len.ensures)

pub read_bound-requires-clause-key : goal.read_bound-requires-clause-key
read_bound-requires-clause-key c =
    let short = (header_parts c.args.bytes.now (known_page c.args.bytes.now c.requires).header).short_key in
    omega (arith, c.key_len_in-key_len.ensures)

pub read_bound-requires-2-clause-key : goal.read_bound-requires-2-clause-key
read_bound-requires-2-clause-key c =
    let short = (header_parts c.args.bytes.now (known_page c.args.bytes.now c.requires).header).short_key in
    omega (arith, c.key_len_in-key_len.ensures)

-- the fields that were read
node : goal.After-cells_from → Inside
node c = record { file = c.u16_at.result; index = c.u16_at-2.result; leaf = c.is_leaf.result; key_len = c.key_len_in-key_len.result; low = c.read_bound.result; high = c.read_bound-2.result; right = c.u64_at.result; count = c.count_in.result; cells = c.cells_from.result }

read : (c : goal.After-cells_from) → IsRead c.args.bytes.now (node c)
unfolding node
read c = record {
  file = c.u16_at.ensures;
  index = c.u16_at-2.ensures;
  leaf = c.is_leaf.ensures;
  key_len = c.key_len_in-key_len.ensures;
  low = c.read_bound.ensures;
  high = c.read_bound-2.ensures ∙ ap (λ at. bound_at c.key_len_in-key_len.result at c.args.bytes.now) c.high_at.ensures;
  right = c.u64_at.ensures;
  count = c.count_in.ensures;
  rest = replicate (c.cells_at.result - 128) 0;
  cells = c.cells_from.ensures ∙ ap (λ at. drop at c.args.bytes.now ++ replicate (c.cells_at.result - 128) 0) c.cells_at.ensures;
}

value : (c : goal.After-cells_from) → value_of (node c) ≡ value_in c.args.bytes.now
value c = value_of-read c.args.bytes.now (node c) c.told-bytes (header_parts c.args.bytes.now (known_page c.args.bytes.now c.requires).header) (read c)

pub invariant_of-result : goal.invariant_of-result
unfolding node
invariant_of-result c = subst IsNode (sym (value c)) (IsNode-value_in c.args.bytes.now (known_page c.args.bytes.now c.requires))

pub returns-clause-node : goal.returns-clause-node
unfolding node
returns-clause-node c = ap Some (value c) ∙ sym (node_in-is c.args.bytes.now (page_from_parts c.args.bytes.now (known_page c.args.bytes.now c.requires)))

pub returns-clause-text : goal.returns-clause-text
unfolding node
returns-clause-text c =
    let page = c.args.bytes.now in
    ap (page_text (u64_at 8 page)) (value c) ∙ page_text-value_in page (record { len = c.told-bytes; bytes = c.fits-bytes }) (known_page page c.requires)
