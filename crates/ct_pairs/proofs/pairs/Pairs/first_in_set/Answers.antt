use Rattle.std.proofs.Common.{nat_eq, ap, sym, ◌∙◌}
use Rattle.std.specs.List.{starts_with}
use Rattle.ct_pairs.specs.Finds.{is_at_or_above, is_in_set}
use Rattle.ct_pairs.proofs.Finding.{Begins-is_in_set, kept-none, kept-some, kept-other}
use Rattle.ct_pairs.proofs.pairs.Pairs.first_in_set.Goals as goal

pub returns-in_default : goal.returns-in_default
returns-in_default c =
    kept-none (is_at_or_above c.args.set.now) (is_in_set c.args.set.now) c.args.self.now (Begins-is_in_set c.args.set.now) c.in_default.ensures.ordered c.in_default.ensures.found

pub returns-then-starts_with : goal.returns-then-starts_with
returns-then-starts_with c =
    kept-some (is_at_or_above c.args.set.now) (is_in_set c.args.set.now) c.args.self.now c.in-Some.found.now (Begins-is_in_set c.args.set.now) c.in-Some.ensures.ordered c.in-Some.ensures.found
    (ap (λ own. starts_with nat_eq own c.args.set.now) (sym c.key.ensures) ∙ sym c.starts_with.ensures.value ∙ c.if-starts_with.true)

pub returns-else-starts_with : goal.returns-else-starts_with
returns-else-starts_with c =
    kept-other (is_at_or_above c.args.set.now) (is_in_set c.args.set.now) c.args.self.now c.in-Some.found.now (Begins-is_in_set c.args.set.now) c.in-Some.ensures.ordered c.in-Some.ensures.found
    (ap (λ own. starts_with nat_eq own c.args.set.now) (sym c.key.ensures) ∙ sym c.starts_with.ensures.value ∙ c.if-starts_with.false)
