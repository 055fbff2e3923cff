use Rattle.std.proofs.Common.{◌≡◌, ◌≤◌, ◌-◌, true, false, length, map}
use Rattle.std.specs.List.{AllWithin}
use Rattle.ct_node.specs.Cells.{cells_of, pair_at}
use Rattle.ct_node.specs.Places.{is_before}
use Rattle.ct_node.proofs.cells.count_before.Given as goal

abbrev pub invariant-loop-low : goal.invariant-loop-low
invariant-loop-low l =
    let pairs = map (pair_at l.key_len) (cells_of l.width l.count l.cells) in
    (l.low ≤ l.high) × (l.high ≤ l.count) × AllWithin (λ pair. is_before l.or_at l.pair pair ≡ true) pairs 0 l.low × AllWithin (λ pair. is_before l.or_at l.pair pair ≡ false) pairs l.high (length pairs)

abbrev pub decreases-loop-low : goal.decreases-loop-low
decreases-loop-low l = l.high - l.low
