use Rattle.std.proofs.Common.{◌≡◌, ℕ, suc, ◌<◌, true, drop, get_or}
use Rattle.ct_definitions.specs.Pairs.{Pair}
use Rattle.ct_node.proofs.Orders.{below}
use Rattle.ct_node.proofs.Searches.{pairs_of}
use Rattle.ct_node.proofs.check.rises.Given as goal

abbrev pub invariant-loop-place : goal.invariant-loop-place
invariant-loop-place l =
    let pairs = pairs_of l.key_len l.width l.count (drop l.at l.page) in
    (k : ℕ) (d : Pair) → suc k < l.place → below (get_or pairs k d) (get_or pairs (suc k) d) ≡ true
