use Rattle.std.proofs.Common.{sym, subst}
use Rattle.std.specs.List.Sorted.{IsStrictlySortedBy}
use Rattle.std.proofs.lemmas.List.Kept.{IsStrictlySortedBy-filter}
use Rattle.ct_definitions.specs.Pairs.{pair_cmp}
use Rattle.ct_tran.proofs.overlay.Overlay.take.Goals as goal

pub invariant_of-self : goal.invariant_of-self
invariant_of-self c = rw c.take.ensures (IsStrictlySortedBy-filter pair_cmp _ c.self.inside.puts c.self.invariant)
