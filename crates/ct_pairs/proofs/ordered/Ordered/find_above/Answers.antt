use Rattle.ct_pairs.specs.Finds.{is_key_above}
use Rattle.ct_pairs.proofs.Joined.{least-in_front, least-behind}
use Rattle.ct_pairs.proofs.ordered.Ordered.find_above.Goals as goal

pub returns-in-Some-clause-found : goal.returns-in-Some-clause-found
returns-in-Some-clause-found c =
    least-in_front (is_key_above c.args.key.now) (c.self.inside).set.keys (c.self.inside).tail.items c.args.self.now _ c.self.view_is c.in-Some.ensures

pub returns-in-None-clause-found : goal.returns-in-None-clause-found
returns-in-None-clause-found c =
    least-behind (is_key_above c.args.key.now) (c.self.inside).set.keys (c.self.inside).tail.items c.args.self.now _ c.self.view_is c.in-None.ensures c.tail_above.ensures
