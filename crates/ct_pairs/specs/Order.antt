-- The order of pairs is a total order, as ordered sets need it.
use Rattle.std.specs.Ordering.{eq_by_cmp}
use Rattle.std.specs.Cmp.{IsTotalOrder, IsEquivalence, on_total, then_total, nat_cmp_total, eq_by_cmp_equiv}
use Rattle.std.specs.Cmp.Lexicographic.{lists_total}
use Rattle.ct_definitions.specs.Pairs.{pair_cmp}

-- by key, and then by number
pub pair_cmp_total : IsTotalOrder pair_cmp
pair_cmp_total = then_total (on_total (λ pair. pair.key) (lists_total nat_cmp_total)) (on_total (λ pair. pair.num) nat_cmp_total)

-- pairs that compare as equal are the same
pub same_pair_equiv : IsEquivalence (eq_by_cmp pair_cmp)
same_pair_equiv = eq_by_cmp_equiv pair_cmp_total
