use Rattle.ct_pairs.proofs.Joined.{moved}
use Rattle.ct_pairs.proofs.ordered.move_first.Goals as goal

pub returns-in-Ok-clause-same : goal.returns-in-Ok-clause-same
returns-in-Ok-clause-same c = moved c.args.set.now.keys c.args.tail.now.items _ _ c.in-Some.first c.requires.ordered c.in-Some.ensures.items c.in-Ok.ensures.keys
