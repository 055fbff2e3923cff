use Rattle.std.proofs.Common.{refl, sym, subst, ◌≡◌, ◌≤◌, ◌+◌, ◌∷◌, [], ◌++◌, arith, sum_by, List, length}
use Rattle.std.proofs.lemmas.Bool.Decides.{nat_tests}
use Rattle.ct_definitions.specs.declared.change.Change.{Change}
use Rattle.ct_tran.specs.Owned.{encoded_len, has_room}
use Rattle.ct_tran.specs.Counting.{IsCounted}
use Rattle.ct_tran.proofs.Saves.{counted_more, added_is, room_is, two_more}
use Rattle.ct_tran.proofs.own.Own.add_both.Goals as goal

pub invariant_of-self-2 : goal.invariant_of-self-2
invariant_of-self-2 c =
    let changes = c.self.inside.changes.items in
    let more = c.args.first ∷ c.args.second ∷ [] in
    let once : c.push.new.self.items ≡ changes ++ c.args.first ∷ [] = grind arith in
    let twice : c.push-2.new.self.items ≡ c.push.new.self.items ++ c.args.second ∷ [] = grind arith in
    let pushed = two_more changes c.push.new.self.items c.push-2.new.self.items c.args.first c.args.second once twice in
    let room = room_is c.self.inside.changes.items c.self.inside.len c.self.inside.saves.items more c.self.invariant (grind arith) in
    let len : sum_by encoded_len more ≡ c.encoded_len.result + c.encoded_len-2.result = grind arith in
    rw (pushed, ← len) (counted_more changes more c.self.inside.len c.self.inside.saves.items c.self.invariant room.0 room.1)

pub returns-clause-ok : goal.returns-clause-ok
returns-clause-ok c =
    let changes = c.self.inside.changes.items in
    let once : c.push.new.self.items ≡ changes ++ c.args.first ∷ [] = grind arith in
    let twice : c.push-2.new.self.items ≡ c.push.new.self.items ++ c.args.second ∷ [] = grind arith in
    let pushed = two_more changes c.push.new.self.items c.push-2.new.self.items c.args.first c.args.second once twice in
    rw (pushed, ← c.self.view_is) (added_is changes (c.args.first ∷ c.args.second ∷ []) c.self.inside.saves.items c.self.invariant.saved)
