use Rattle.ct_pairs.proofs.PairLists.{short}
use Rattle.ct_pairs.proofs.Joined.{pushed, IsSound-pushed}
use Rattle.ct_pairs.proofs.ordered.Ordered.push.Goals as goal

pub invariant_of-self : goal.invariant_of-self
invariant_of-self c =
    let own = short c.args.pair.num c.num-num.result c.num-num.ensures c.num-num.type_inv in
    IsSound-pushed c.push.result c.args.pair (c.self.inside).set.keys (c.self.inside).tail.items c.args.self.now _ c.self.view_is c.requires.new c.requires.below own c.push.ensures.ok c.push.ensures.err c.self.invariant

pub returns-clause-ok : goal.returns-clause-ok
returns-clause-ok c =
    pushed c.push.result c.args.pair (c.self.inside).set.keys (c.self.inside).tail.items c.args.self.now _ c.self.view_is c.requires.below c.push.ensures.ok
