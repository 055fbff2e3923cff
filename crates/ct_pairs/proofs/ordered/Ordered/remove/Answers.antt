use Rattle.std.proofs.Common.{◌∙◌, subst}
use Rattle.ct_pairs.proofs.Joined.{IsSound, removed, IsSound-without}
use Rattle.ct_pairs.proofs.ordered.Ordered.remove.Goals as goal

pub invariant_of-self : goal.invariant_of-self
invariant_of-self c =
    let sound = subst IsSound c.self.view_is c.self.invariant in
    IsSound-without c.args.pair.now c.args.self.now _
    (removed c.args.pair.now c.move_up_to.new.set.keys c.move_up_to.new.tail.items c.args.self.now _ (c.in-Ok.ensures.same ∙ c.self.view_is) sound.0 c.in-Ok.ensures.above c.remove-found.ensures.keys)
    sound

pub returns-in-Ok : goal.returns-in-Ok
returns-in-Ok c =
    let sound = subst IsSound c.self.view_is c.self.invariant in
    removed c.args.pair.now c.move_up_to.new.set.keys c.move_up_to.new.tail.items c.args.self.now _ (c.in-Ok.ensures.same ∙ c.self.view_is) sound.0 c.in-Ok.ensures.above c.remove-found.ensures.keys
