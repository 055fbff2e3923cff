use Rattle.std.proofs.Common.{refl, sym, ◌≡◌, ◌<◌, ◌-◌, suc, arith, Option, Some, slice_get, List, length, take, subst}
use Rattle.std.proofs.lemmas.Option.{slice_get_read}
use Rattle.ct_tran.specs.declared.own.Save.{Save}
use Rattle.ct_tran.specs.Counting.{IsCounted}
use Rattle.ct_tran.proofs.Saves.{counted_cut, restored_is}
use Rattle.ct_tran.proofs.own.Own.restore.Goals as goal

pub invariant_of-self : goal.invariant_of-self
invariant_of-self c =
    let changes = c.self.inside.changes.items in
    let saves = c.self.inside.saves.items in
    let kept = c.index-save.result.now in
    let within : c.args.number - 1 < length saves = grind arith in
    let at : slice_get saves (c.args.number - 1) ≡ Some kept = slice_get_read saves (length saves) (c.args.number - 1) kept refl within c.index-save.ensures in
    let on : suc (c.args.number - 1) ≡ c.args.number = grind arith in
    let cut = counted_cut changes c.self.inside.len (c.args.number - 1) saves kept c.self.invariant at in
    rw (c.truncate.ensures.items, c.truncate-2.ensures.items) (subst (λ n. IsCounted (take kept.count changes) kept.len (take n saves)) on cut)

pub returns-clause-restored : goal.returns-clause-restored
returns-clause-restored c = λ kept.
    let changes = c.self.inside.changes.items in
    let saves = c.self.inside.saves.items in
    let kept = c.index-save.result.now in
    let within : c.args.number - 1 < length saves = grind arith in
    let at : slice_get saves (c.args.number - 1) ≡ Some kept = slice_get_read saves (length saves) (c.args.number - 1) kept refl within c.index-save.ensures in
    rw (c.truncate.ensures.items, c.truncate-2.ensures.items, ← c.self.view_is) (restored_is changes saves c.args.number kept c.self.invariant.saved (grind arith) at)
