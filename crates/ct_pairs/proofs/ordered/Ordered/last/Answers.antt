use Rattle.std.proofs.Common.{subst, ap, ◌∙◌, get_or, ◌-◌}
use Rattle.ct_pairs.proofs.PairLists.{IsInOrder}
use Rattle.ct_pairs.proofs.Joined.{last-above_all, last-among}
use Rattle.ct_pairs.proofs.ordered.Ordered.last.Goals as goal

pub returns-in-Some-clause-some : goal.returns-in-Some-clause-some
returns-in-Some-clause-some c =
    let tail = (c.self.inside).tail in
    let item = c.in-Some.ensures.item.3 in
    last-above_all (c.self.inside).set.keys tail.items c.args.self.now c.in-Some.last.now c.self.view_is (subst IsInOrder c.self.view_is c.self.invariant.0) item.0
    (item.1 c.in-Some.last.now ∙ ap (λ n. get_or tail.items (n - 1) c.in-Some.last.now) tail.ok.0)

pub returns-in-Some-clause-among : goal.returns-in-Some-clause-among
returns-in-Some-clause-among c =
    let tail = (c.self.inside).tail in
    let item = c.in-Some.ensures.item.3 in
    last-among (c.self.inside).set.keys tail.items c.args.self.now c.in-Some.last.now c.self.view_is item.0
    (item.1 c.in-Some.last.now ∙ ap (λ n. get_or tail.items (n - 1) c.in-Some.last.now) tail.ok.0)
