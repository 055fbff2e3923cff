use Rattle.std.proofs.Common.{rules, refl}
use Rattle.std.proofs.lemmas.Fn.{filter_same}
use Rattle.ct_definitions.specs.Pairs.{Pair}
use Rattle.ct_pairs.proofs.Joined.{kept_others, IsSound-without}
use Rattle.ct_pairs.proofs.ordered.Ordered.keep_others.Goals as goal

pub invariant_of-self : goal.invariant_of-self
invariant_of-self c =
    let pair : Pair = record { key = c.args.key.now; num = c.args.num } in
    let kept = kept_others pair (c.self.inside).set.keys (c.self.inside).tail.items _ _ _ refl (filter_same _ _ _ (λ x b f' k. search rules) _ _ c.retain.ensures.filtered) (filter_same _ _ _ (λ x b f' k. search rules) _ _ c.retain-2.ensures.filtered) in
    IsSound-without pair _ _ kept c.self.invariant

pub returns : goal.returns
returns c =
    let pair : Pair = record { key = c.args.key.now; num = c.args.num } in
    kept_others pair (c.self.inside).set.keys (c.self.inside).tail.items c.args.self.now _ _ c.self.view_is (filter_same _ _ _ (λ x b f' k. search rules) _ _ c.retain.ensures.filtered) (filter_same _ _ _ (λ x b f' k. search rules) _ _ c.retain-2.ensures.filtered)
