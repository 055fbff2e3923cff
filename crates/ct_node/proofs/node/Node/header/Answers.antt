use Rattle.std.proofs.Common.{cond, ap, sym, ◌∙◌, arith}
use Rattle.ct_page.specs.declared.header.Header.{Header}
use Rattle.ct_page.specs.declared.kind.PageKind.TheVariants.{Leaf, Inner}
use Rattle.ct_node.specs.Pages.{header_in}
use Rattle.ct_node.proofs.Entries.{length-entries_of}
use Rattle.ct_node.proofs.Edits.{few_entries}
use Rattle.ct_node.proofs.node.Node.header.Goals as goal

pub overflow_cast-self-inside : goal.overflow_cast-self-inside
overflow_cast-self-inside c = let few = few_entries c.self.inside c.self.invariant in omega arith

pub returns-clause-header : goal.returns-clause-header
returns-clause-header c =
    let n = c.self.inside in
    c.header_of.ensures.header
    ∙ ap (λ count. let header : Header = record { kind = cond n.leaf Leaf Inner; file = n.file; index = n.index; count = count; position = c.args.position; right = n.right; key_len = n.key_len } in header) (sym (length-entries_of n.key_len n.leaf n.count n.cells))
    ∙ ap (header_in c.args.position) c.self.view_is
