use Rattle.ct_latch.proofs.Holds.{Placed-from, filter-held, filter-free}
use Rattle.ct_latch.proofs.latches.Latches.release.Goals as goal

pub returns-then-is_at-clause-holds : goal.returns-then-is_at-clause-holds
returns-then-is_at-clause-holds c =
    let xs = c.self.inside.holds.items in
    rw (c.remove-given_back.ensures.items, ← c.self.view_is)
    (filter-held _ _ _ xs c.self.invariant (Placed-from _ _ _ xs _ _ _ _ c.as_slice.ensures.value c.place_of-place.ensures.place c.as_slice-2.ensures.value c.is_at.ensures c.if-is_at.true))

pub returns-else-is_at-clause-holds : goal.returns-else-is_at-clause-holds
returns-else-is_at-clause-holds c =
    let xs = c.self.inside.holds.items in
    rw (← c.self.view_is)
    (filter-free _ _ _ xs c.self.invariant (Placed-from _ _ _ xs _ _ _ _ c.as_slice.ensures.value c.place_of-place.ensures.place c.as_slice-2.ensures.value c.is_at.ensures c.if-is_at.false))
