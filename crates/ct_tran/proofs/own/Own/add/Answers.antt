use Rattle.std.proofs.Common.{refl, sym, subst, ◌≡◌, ◌≤◌, ◌+◌, ◌∷◌, [], ◌++◌, arith, sum_by, List, length}
use Rattle.std.proofs.lemmas.Bool.Decides.{nat_tests}
use Rattle.ct_definitions.specs.declared.change.Change.{Change}
use Rattle.ct_tran.specs.Owned.{encoded_len, has_room}
use Rattle.ct_tran.specs.Counting.{IsCounted}
use Rattle.ct_tran.proofs.Saves.{counted_more, added_is, room_is}
use Rattle.ct_tran.proofs.own.Own.add.Goals as goal

pub invariant_of-self-2 : goal.invariant_of-self-2
invariant_of-self-2 c =
    let changes = c.self.inside.changes.items in
    let more = c.args.change ∷ [] in
    let pushed : c.push.new.self.items ≡ changes ++ more = grind arith in
    let room = room_is c.self.inside.changes.items c.self.inside.len c.self.inside.saves.items more c.self.invariant (grind arith) in
    let len : sum_by encoded_len more ≡ c.encoded_len-len.result = grind arith in
    rw (pushed, ← len) (counted_more changes more c.self.inside.len c.self.inside.saves.items c.self.invariant room.0 room.1)

pub returns-clause-ok : goal.returns-clause-ok
returns-clause-ok c =
    let changes = c.self.inside.changes.items in
    let pushed : c.push.new.self.items ≡ changes ++ c.args.change ∷ [] = grind arith in
    rw (pushed, ← c.self.view_is) (added_is changes (c.args.change ∷ []) c.self.inside.saves.items c.self.invariant.saved)
