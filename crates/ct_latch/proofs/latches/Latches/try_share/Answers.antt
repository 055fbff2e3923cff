use Rattle.std.proofs.Common.{false, sym, subst, ◌∙◌}
use Rattle.ct_latch.specs.declared.hold.Hold.{Hold}
use Rattle.ct_latch.specs.Latches.{IsInOrder}
use Rattle.ct_latch.proofs.Holds.{Placed-from, with_hold-free, with_share-held, with_share-free, IsInOrder-with_hold}
use Rattle.ct_latch.proofs.latches.Latches.try_share.Goals as goal

pub invariant_of-self : goal.invariant_of-self
invariant_of-self c =
    let xs = c.self.inside.holds.items in
    let new : Hold = record { node = c.args.node; op = c.args.op; own = false } in
    let put_in = with_hold-free c.place_of-place.result new xs (Placed-from _ _ _ xs _ _ _ _ c.as_slice-2.ensures.value c.place_of-place.ensures.place c.as_slice-3.ensures.value c.is_at.ensures c.if-not-is_at.true) in
    subst IsInOrder (sym (c.insert_reserved.ensures.items ∙ put_in)) (IsInOrder-with_hold new xs c.self.invariant)

pub returns-then-not-is_at-clause-ok : goal.returns-then-not-is_at-clause-ok
returns-then-not-is_at-clause-ok c =
    let xs = c.self.inside.holds.items in
    rw (c.insert_reserved.ensures.items, ← c.self.view_is)
    (with_share-free _ _ _ xs c.self.invariant (Placed-from _ _ _ xs _ _ _ _ c.as_slice-2.ensures.value c.place_of-place.ensures.place c.as_slice-3.ensures.value c.is_at.ensures c.if-not-is_at.true))

pub returns-else-not-is_at-clause-ok : goal.returns-else-not-is_at-clause-ok
returns-else-not-is_at-clause-ok c =
    let xs = c.self.inside.holds.items in
    rw (← c.self.view_is)
    (with_share-held _ _ _ xs c.self.invariant (Placed-from _ _ _ xs _ _ _ _ c.as_slice-2.ensures.value c.place_of-place.ensures.place c.as_slice-3.ensures.value c.is_at.ensures c.if-not-is_at.false))
