use Rattle.std.proofs.Common.{◌∙◌}
use Rattle.ct_pairs.proofs.Places.{is_found, not_found}
use Rattle.ct_pairs.proofs.ordered.Ordered.contains.Goals as goal

pub returns-in-Some : goal.returns-in-Some
returns-in-Some c = c.eq.ensures ∙ is_found c.args.pair.now c.in-Some.found.now c.args.self.now c.in-Some.ensures.ordered c.in-Some.ensures.found

pub returns-in-None : goal.returns-in-None
returns-in-None c = not_found c.args.pair.now c.args.self.now c.in-None.ensures.ordered c.in-None.ensures.found
