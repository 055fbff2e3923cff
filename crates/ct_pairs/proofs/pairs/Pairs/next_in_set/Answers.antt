use Rattle.std.proofs.Common.{nat_eq, ap, sym, ◌∙◌}
use Rattle.std.specs.List.{starts_with}
use Rattle.std.specs.Ordering.{nat_cmp, is_lt}
use Rattle.std.specs.Cmp.Lexicographic.{slice_cmp}
use Rattle.ct_pairs.proofs.Finding.{least-next_in_set, at_or_above-not_below, next-none, next-some, next-other}
use Rattle.ct_pairs.proofs.pairs.Pairs.next_in_set.Goals as goal

pub returns-then-is_lt : goal.returns-then-is_lt
returns-then-is_lt c =
    let below = ap (λ own. is_lt (slice_cmp nat_cmp own c.args.set.now)) (sym c.key.ensures) ∙ ap is_lt (sym c.cmp.ensures) ∙ sym c.is_lt.ensures ∙ c.if-is_lt.true in
    c.first_in_set.ensures ∙ sym (least-next_in_set c.args.pair.now c.args.set.now c.args.self.now below)

pub returns-in_default : goal.returns-in_default
returns-in_default c =
    let other = ap (λ own. is_lt (slice_cmp nat_cmp own c.args.set.now)) (sym c.key.ensures) ∙ ap is_lt (sym c.cmp.ensures) ∙ sym c.is_lt.ensures ∙ c.if-is_lt.false in
    let from = at_or_above-not_below c.args.pair.now c.args.set.now other in
    next-none c.args.pair.now c.args.set.now c.args.self.now from c.in_default.ensures.ordered c.in_default.ensures.found

pub returns-then-starts_with : goal.returns-then-starts_with
returns-then-starts_with c =
    let other = ap (λ own. is_lt (slice_cmp nat_cmp own c.args.set.now)) (sym c.key.ensures) ∙ ap is_lt (sym c.cmp.ensures) ∙ sym c.is_lt.ensures ∙ c.if-is_lt.false in
    let from = at_or_above-not_below c.args.pair.now c.args.set.now other in
    let begins = ap (λ own. starts_with nat_eq own c.args.set.now) (sym c.key-2.ensures) ∙ sym c.starts_with.ensures.value ∙ c.if-starts_with.true in
    next-some c.args.pair.now c.in-Some.found.now c.args.set.now c.args.self.now from c.in-Some.ensures.ordered c.in-Some.ensures.found begins

pub returns-else-starts_with : goal.returns-else-starts_with
returns-else-starts_with c =
    let other = ap (λ own. is_lt (slice_cmp nat_cmp own c.args.set.now)) (sym c.key.ensures) ∙ ap is_lt (sym c.cmp.ensures) ∙ sym c.is_lt.ensures ∙ c.if-is_lt.false in
    let from = at_or_above-not_below c.args.pair.now c.args.set.now other in
    let begins = ap (λ own. starts_with nat_eq own c.args.set.now) (sym c.key-2.ensures) ∙ sym c.starts_with.ensures.value ∙ c.if-starts_with.false in
    next-other c.args.pair.now c.in-Some.found.now c.args.set.now c.args.self.now from c.in-Some.ensures.ordered c.in-Some.ensures.found begins
