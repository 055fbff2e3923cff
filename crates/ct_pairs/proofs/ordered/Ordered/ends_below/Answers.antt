use Rattle.std.proofs.Common.{◌∙◌}
use Rattle.ct_pairs.proofs.Joined.{above_last}
use Rattle.ct_pairs.proofs.ordered.Ordered.ends_below.Goals as goal

pub returns-in-Some : goal.returns-in-Some
returns-in-Some c = c.lt.ensures ∙ above_last c.args.pair.now c.in-Some.last.now c.args.self.now c.in-Some.ensures.some c.in-Some.ensures.among
