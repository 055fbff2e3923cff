use Rattle.std.proofs.Common.{◌≡◌, ◌*◌, ap, sym, ◌∙◌, take, drop, arith}
use Rattle.std.specs.Ordering.{is_eq}
use Rattle.std.proofs.lemmas.Bool.{le-ltb}
use Rattle.ct_definitions.specs.Pairs.{Pair, pair_cmp}
use Rattle.ct_node.specs.Cells.{cells_of, pair_at}
use Rattle.ct_node.proofs.CellLemmas.{length-cells_of}
use Rattle.ct_node.proofs.Searches.{slice_get-cells_of, slice_get-past, pair_at-take}
use Rattle.ct_node.proofs.node.is_cell_of.Goals as goal

pub returns-then-place-count-clause-pair : goal.returns-then-place-count-clause-pair
returns-then-place-count-clause-pair c =
    let cells = c.args.cells.now in
    let pair = c.args.pair.now in
    let at = drop (c.args.place * c.args.width) cells in
    let read : pair_at c.args.key_len (take c.args.width at) ≡ pair_at c.args.key_len at = pair_at-take c.args.key_len c.args.width at c.requires.width in
    rw (slice_get-cells_of c.args.width c.args.count cells c.args.place c.if-place-count.true)
    (c.is_eq.ensures ∙ ap is_eq c.cmp_at.ensures ∙ ap (λ (other : Pair). is_eq (pair_cmp other pair)) (sym read))

pub returns-else-place-count-clause-pair : goal.returns-else-place-count-clause-pair
returns-else-place-count-clause-pair c =
    let long = length-cells_of c.args.width c.args.count c.args.cells.now in
    rw (slice_get-past (cells_of c.args.width c.args.count c.args.cells.now) c.args.place (omega arith)) (le-ltb c.args.place c.args.count c.if-place-count.false)
