use Rattle.std.proofs.Common.{◌∙◌}
use Rattle.ct_pairs.specs.Finds.{is_key_above}
use Rattle.ct_pairs.proofs.Finding.{IsUpward-above, greatest-outside, greatest-of_all, outside-above}
use Rattle.ct_pairs.proofs.pairs.Pairs.last_at_or_below.Goals as goal

pub returns-in-Some : goal.returns-in-Some
returns-in-Some c =
    c.last_before.ensures
    ∙ greatest-outside (is_key_above c.args.key.now) (IsUpward-above c.args.key.now) c.args.self.now _ c.in-Some.ensures.ordered c.in-Some.ensures.found
    ∙ outside-above c.args.key.now c.args.self.now

pub returns-in-None : goal.returns-in-None
returns-in-None c =
    c.last_up_to.ensures
    ∙ greatest-of_all (is_key_above c.args.key.now) c.args.self.now c.in-None.ensures.found
    ∙ outside-above c.args.key.now c.args.self.now
