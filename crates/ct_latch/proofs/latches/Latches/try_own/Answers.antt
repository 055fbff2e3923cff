use Rattle.std.proofs.Common.{true, sym, subst, ◌∙◌}
use Rattle.ct_latch.specs.declared.hold.Hold.{Hold}
use Rattle.ct_latch.specs.Latches.{IsInOrder}
use Rattle.ct_latch.proofs.Holds.{Placed-from, with_hold-held, with_hold-free, IsInOrder-with_hold}
use Rattle.ct_latch.proofs.latches.Latches.try_own.Goals as goal

pub invariant_of-self-else-is_at : goal.invariant_of-self-else-is_at
invariant_of-self-else-is_at c =
    let xs = c.self.inside.holds.items in
    let new : Hold = record { node = c.args.node; op = c.args.op; own = true } in
    let put_in = with_hold-free c.place_of-place.result new xs (Placed-from _ _ _ xs _ _ _ _ c.as_slice-2.ensures.value c.place_of-place.ensures.place c.as_slice-3.ensures.value c.is_at.ensures c.if-is_at.false) in
    subst IsInOrder (sym (c.insert_reserved.ensures.items ∙ put_in)) (IsInOrder-with_hold new xs c.self.invariant)

pub returns-then-is_at-clause-ok : goal.returns-then-is_at-clause-ok
returns-then-is_at-clause-ok c =
    let xs = c.self.inside.holds.items in
    let new : Hold = record { node = c.args.node; op = c.args.op; own = true } in
    rw (← c.self.view_is)
    (with_hold-held c.place_of-place.result new xs (Placed-from _ _ _ xs _ _ _ _ c.as_slice-2.ensures.value c.place_of-place.ensures.place c.as_slice-3.ensures.value c.is_at.ensures c.if-is_at.true))

pub returns-else-is_at-clause-ok : goal.returns-else-is_at-clause-ok
returns-else-is_at-clause-ok c =
    let xs = c.self.inside.holds.items in
    let new : Hold = record { node = c.args.node; op = c.args.op; own = true } in
    rw (c.insert_reserved.ensures.items, ← c.self.view_is)
    (with_hold-free c.place_of-place.result new xs (Placed-from _ _ _ xs _ _ _ _ c.as_slice-2.ensures.value c.place_of-place.ensures.place c.as_slice-3.ensures.value c.is_at.ensures c.if-is_at.false))
