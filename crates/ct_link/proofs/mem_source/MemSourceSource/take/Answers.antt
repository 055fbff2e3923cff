use Rattle.std.proofs.Common.{arith, length}
use Rattle.ct_link.proofs.Parts.{IsHandedOut, IsHandedOut-from_front, drop-at_end}
use Rattle.ct_link.proofs.mem_source.MemSourceSource.take.Goals as goal

pub returns-clause-taken : goal.returns-clause-taken
returns-clause-taken c =
    let out : IsHandedOut c.self.inside.input c.copy_front-n.new.into c.self.inside.at c.copy_front-n.result =
    IsHandedOut-from_front _ _ _ _ (rw c.as_slice.ensures at c.copy_front-n.ensures.front) in
    rw (← c.self.view_is) out.taken

pub returns-clause-left : goal.returns-clause-left
returns-clause-left c =
    let out : IsHandedOut c.self.inside.input c.copy_front-n.new.into c.self.inside.at c.copy_front-n.result =
    IsHandedOut-from_front _ _ _ _ (rw c.as_slice.ensures at c.copy_front-n.ensures.front) in (
      rw (← c.self.view_is) out.left,
      λ none room. drop-at_end c.self.inside.input c.self.inside.at _ (length c.args.into.now) c.self.inside.most
          c.self.invariant.0 c.self.invariant.1 (rw c.as_slice.ensures at c.copy_front-n.ensures.count) none (omega arith),
    )
