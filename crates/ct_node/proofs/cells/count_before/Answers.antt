use Rattle.std.proofs.Common.{◌+◌, ◌-◌, ◌*◌, ◌/◌, drop, arith, ◌∙◌, sym}
use Rattle.ct_node.specs.Cells.{pair_at}
use Rattle.ct_node.proofs.Searches.{pairs_of, length-pairs_of, get_or-pairs_of, before_up_to, none_from}
use Rattle.ct_node.proofs.Orders.{prefix_len-point}
use Rattle.ct_node.specs.Places.{is_before}
use Rattle.ct_node.proofs.cells.count_before.Goals as goal

pub loop-low-init : goal.loop-low-init
loop-low-init c =
    let long = length-pairs_of c.args.key_len c.args.width c.args.count c.args.cells.now in
    (omega arith, omega arith, λ k d low high. absurd (omega arith), λ k d low high. absurd (omega arith))

pub loop-low-preserved-then-is_before_at : goal.loop-low-preserved-then-is_before_at
loop-low-preserved-then-is_before_at c =
    let middle = c.loop-low.low + (c.loop-low.high - c.loop-low.low) / 2 in
    let cells = c.args.cells.now in
    let pairs = pairs_of c.args.key_len c.args.width c.args.count cells in
    let long = length-pairs_of c.args.key_len c.args.width c.args.count cells in
    (omega arith, c.loop-low.invariant.1, before_up_to c.args.or_at c.args.pair.now pairs middle (pair_at c.args.key_len (drop (middle * c.args.width) cells)) c.requires.order (omega arith) (λ d. get_or-pairs_of c.args.key_len c.args.width c.args.count cells middle d c.requires.width (omega arith)) (sym c.if-is_before_at.true ∙ c.is_before_at.ensures), c.loop-low.invariant.3)

pub loop-low-preserved : goal.loop-low-preserved
loop-low-preserved c =
    let middle = c.loop-low.low + (c.loop-low.high - c.loop-low.low) / 2 in
    let cells = c.args.cells.now in
    let pairs = pairs_of c.args.key_len c.args.width c.args.count cells in
    (omega arith, omega arith, c.loop-low.invariant.2, none_from c.args.or_at c.args.pair.now pairs middle (pair_at c.args.key_len (drop (middle * c.args.width) cells)) c.requires.order (λ d. get_or-pairs_of c.args.key_len c.args.width c.args.count cells middle d c.requires.width (omega arith)) (sym c.if-is_before_at.false ∙ c.is_before_at.ensures))

pub returns-clause-before : goal.returns-clause-before
returns-clause-before c =
    let pairs = pairs_of c.args.key_len c.args.width c.args.count c.args.cells.now in
    let long = length-pairs_of c.args.key_len c.args.width c.args.count c.args.cells.now in
    prefix_len-point (is_before c.args.or_at c.args.pair.now) pairs c.loop-low.low (omega arith) c.loop-low.invariant.2
    (λ k d low high. c.loop-low.invariant.3 k d (omega arith) high)
