use Rattle.std.proofs.Common.{◌∙◌, ap}
use Rattle.ct_pairs.specs.Finds.{least, is_key_above}
use Rattle.ct_pairs.proofs.Finding.{above-found}
use Rattle.ct_pairs.proofs.pairs.Pairs.first_above.Goals as goal

pub returns-in-Ok-clause-found : goal.returns-in-Ok-clause-found
returns-in-Ok-clause-found c =
    c.first_from.ensures.found
    ∙ above-found _ c.args.key.now (c.self.inside).ordered c.in-Ok.ensures.ok c.first_from.ensures.short
    ∙ ap (least (is_key_above c.args.key.now)) c.self.view_is
