use Rattle.std.proofs.Common.{◌∙◌, subst}
use Rattle.ct_pairs.proofs.PairLists.{short}
use Rattle.ct_pairs.proofs.Joined.{IsSound, put-among, IsSound-inserted}
use Rattle.ct_pairs.proofs.ordered.Ordered.put.Goals.{in-Ok, in-Err+in-Heap-1, in-Err+in-Inline-1}
use Rattle.ct_pairs.proofs.ordered.Ordered.put.Goals as goal

pub invariant_of-self-2 : goal.invariant_of-self-2
invariant_of-self-2 c =
    let own = short c.args.pair.num c.num-num.result c.num-num.ensures c.num-num.type_inv in
    let moved = c.in_ok-move_up_to.ensures in
    IsSound-inserted c.insert.result c.args.pair c.move_up_to.new.set.keys c.move_up_to.new.tail.items c.args.self.now _ (moved.same ∙ c.self.view_is) c.requires moved.above own c.insert.ensures.keys c.insert.ensures.err (subst IsSound c.self.view_is c.self.invariant)

pub returns-clause-ok : goal.returns-clause-ok
returns-clause-ok c =
    let moved = c.in_ok-move_up_to.ensures in
    elim c.match-insert.branch [
      | in-Ok w ↦ rw w.result-is (put-among c.args.pair c.move_up_to.new.set.keys c.move_up_to.new.tail.items c.args.self.now _ (moved.same ∙ c.self.view_is) c.requires moved.above w.in-Ok.ensures.keys)
      | in-Err+in-Heap-1 w ↦ rw w.result-is tt
      | in-Err+in-Inline-1 w ↦ rw w.result-is tt
    ]
