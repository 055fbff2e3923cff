use Rattle.ct_pairs.proofs.Finding.{greatest-before}
use Rattle.std.proofs.Common.{◌∙◌}
use Rattle.ct_pairs.proofs.pairs.Pairs.last_before.Goals as goal

pub returns : goal.returns
returns c = c.last_up_to.ensures ∙ greatest-before c.args.pair.now c.args.self.now
