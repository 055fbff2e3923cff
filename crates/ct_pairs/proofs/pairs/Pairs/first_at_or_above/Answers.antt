use Rattle.std.proofs.Common.{◌∙◌}
use Rattle.ct_pairs.proofs.Finding.{at_or_above-found}
use Rattle.ct_pairs.proofs.pairs.Pairs.first_at_or_above.Goals as goal

pub returns-in-Ok-clause-found : goal.returns-in-Ok-clause-found
returns-in-Ok-clause-found c =
    c.first_from.ensures.found
    ∙ at_or_above-found _ c.args.key.now c.args.self.now c.in-Ok.ensures.ok
