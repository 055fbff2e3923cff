use Rattle.std.proofs.Common.{refl, arith}
use Rattle.ct_tran.specs.declared.own.Save.{Save}
use Rattle.ct_tran.proofs.Saves.{counted_save}
use Rattle.ct_tran.proofs.own.Own.save.Goals as goal

pub invariant_of-self-2 : goal.invariant_of-self-2
invariant_of-self-2 c =
    let new : Save = record { count = c.len.result; len = c.self.inside.len } in
    rw c.in_ok-push.ensures.items (counted_save c.self.inside.changes.items c.self.inside.len c.self.inside.saves.items new c.self.invariant (grind arith) refl)
