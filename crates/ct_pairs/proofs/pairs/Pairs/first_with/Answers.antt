use Rattle.std.proofs.Common.{bytes_eq, ap, sym, ◌∙◌}
use Rattle.ct_pairs.specs.Finds.{is_at_or_above, has_key}
use Rattle.ct_pairs.proofs.Finding.{Begins-has_key, kept-none, kept-some, kept-other}
use Rattle.ct_pairs.proofs.pairs.Pairs.first_with.Goals as goal

pub returns-in_default : goal.returns-in_default
returns-in_default c =
    kept-none (is_at_or_above c.args.key.now) (has_key c.args.key.now) c.args.self.now (Begins-has_key c.args.key.now) c.in_default.ensures.ordered c.in_default.ensures.found

pub returns-then-eq : goal.returns-then-eq
returns-then-eq c =
    kept-some (is_at_or_above c.args.key.now) (has_key c.args.key.now) c.args.self.now c.in-Some.found.now (Begins-has_key c.args.key.now) c.in-Some.ensures.ordered c.in-Some.ensures.found
    (ap (λ own. bytes_eq own c.args.key.now) (sym c.key.ensures) ∙ sym c.eq.ensures ∙ c.if-eq.true)

pub returns-else-eq : goal.returns-else-eq
returns-else-eq c =
    kept-other (is_at_or_above c.args.key.now) (has_key c.args.key.now) c.args.self.now c.in-Some.found.now (Begins-has_key c.args.key.now) c.in-Some.ensures.ordered c.in-Some.ensures.found
    (ap (λ own. bytes_eq own c.args.key.now) (sym c.key.ensures) ∙ sym c.eq.ensures ∙ c.if-eq.false)
