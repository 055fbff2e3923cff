use Rattle.std.proofs.Common.{ap, sym, ◌∙◌, arith, subst, Some, IsTrue}
use Rattle.ct_page.specs.Headers.{has_fields}
use Rattle.ct_node.specs.Nodes.{NodeValue}
use Rattle.ct_node.specs.Pages.{header_in, page_text}
use Rattle.ct_node.proofs.Writings.{IsWritten, end_inside, page_written, node_in-written}
use Rattle.ct_node.proofs.node.Node.to_page.Goals as goal

pub overflow_mul-len : goal.overflow_mul-len
overflow_mul-len c = let end = end_inside c.self.inside c.width_of.result c.self.invariant c.width_of.ensures in omega arith

pub write_cells-requires-clause-len : goal.write_cells-requires-clause-len
write_cells-requires-clause-len c = let end = end_inside c.self.inside c.width_of.result c.self.invariant c.width_of.ensures in omega arith

pub write_cells-requires-clause-within : goal.write_cells-requires-clause-within
write_cells-requires-clause-within c =
    let end = end_inside c.self.inside c.width_of.result c.self.invariant c.width_of.ensures in
    omega (arith, c.cells_at-cells_at.ensures)

-- what was written
written : (c : goal.After-clear_from) → IsWritten c.args.position c.self.inside c.clear_from.new.page
written c = record {
  width = c.width_of.result;
  at_high = c.high_at.result;
  at_cells = c.cells_at-cells_at.result;
  header = c.header.result;
  old = c.args.into.now;
  first = c.write.new.page;
  second = c.write_bound.new.bytes;
  third = c.write_bound-2.new.bytes;
  fourth = c.write_cells.new.page;
  is = c.self.invariant;
  cells_long = c.self.told;
  old_long = c.told-into;
  is_width = c.width_of.ensures;
  is_high = c.high_at.ensures;
  is_cells = c.cells_at-cells_at.ensures;
  is_header = c.header.ensures.header ∙ ap (header_in c.args.position) (sym c.self.view_is);
  fields = subst (λ (v : NodeValue). IsTrue (has_fields (header_in c.args.position v))) (sym c.self.view_is) c.header.ensures.fields;
  low = c.write_bound.ensures.fits;
  high = c.write_bound-2.ensures.fits;
  one = c.write.ensures;
  two = c.write_bound.ensures.bytes;
  three = c.write_bound-2.ensures.bytes;
  four = c.write_cells.ensures.page;
  five = c.clear_from.ensures;
}

pub returns-clause-text : goal.returns-clause-text
returns-clause-text c =
    page_written c.args.position c.self.inside c.clear_from.new.page c.write_cells.ensures.bytes (written c) ∙ ap (page_text c.args.position) c.self.view_is

pub returns-clause-node : goal.returns-clause-node
returns-clause-node c = node_in-written c.args.position c.self.inside c.clear_from.new.page (written c) ∙ ap Some c.self.view_is
