use Rattle.std.proofs.Common.{◌≡◌, ◌==◌, Bool, not, filter, rules, of_calls, subst, sym}
use Rattle.std.proofs.lemmas.Fn.{filter_same}
use Rattle.ct_latch.specs.declared.hold.Hold.{Hold}
use Rattle.ct_latch.specs.Latches.{IsInOrder}
use Rattle.ct_latch.proofs.Holds.{IsInOrder-filter}
use Rattle.ct_latch.proofs.latches.Latches.release_all.Goals as goal

pub invariant_of-self : goal.invariant_of-self
invariant_of-self c =
    let others : Hold → Bool = λ hold. not (hold.op == c.args.op) in
    let kept : c.retain.new.self.items ≡ filter others c.self.inside.holds.items = filter_same _ others _ (λ x b f called. search (rules, of_calls)) _ _ c.retain.ensures.filtered in
    subst IsInOrder (sym kept) (IsInOrder-filter others c.self.inside.holds.items c.self.invariant)

pub returns-clause-holds : goal.returns-clause-holds
returns-clause-holds c =
    let others : Hold → Bool = λ hold. not (hold.op == c.args.op) in
    let kept : c.retain.new.self.items ≡ filter others c.self.inside.holds.items = filter_same _ others _ (λ x b f called. search (rules, of_calls)) _ _ c.retain.ensures.filtered in
    rw (← c.self.view_is) kept
