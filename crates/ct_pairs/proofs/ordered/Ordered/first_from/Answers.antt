use Rattle.std.specs.Range.Bound.{bound_map}
use Rattle.std.specs.BTreeMap.Range.{is_from_start}
use Rattle.std.proofs.Common.{refl, Some, None}
use Rattle.ct_definitions.specs.Pairs.{pair_cmp}
use Rattle.ct_pairs.proofs.Finding.{first_from-found}
use Rattle.ct_pairs.proofs.Joined.{IsInOrder-back, least-in_front, least-behind}
use Rattle.ct_pairs.proofs.ordered.Ordered.first_from.Goals as goal

pub tail_from-requires : goal.tail_from-requires
tail_from-requires c = IsInOrder-back (c.self.inside).set.keys (c.self.inside).tail.items c.self.invariant.0

pub returns-in-Some-clause-found : goal.returns-in-Some-clause-found
returns-in-Some-clause-found c =
    let start = bound_map (λ pair. pair.now) c.args.start in
    let keys = (c.self.inside).set.keys in
    least-in_front (is_from_start pair_cmp start) keys (c.self.inside).tail.items c.args.self.now _ c.self.view_is
    (first_from-found start c.range.result keys keys (Some c.in-Some.first) _ (c.range.ensures.between tt) refl c.in-Some.ensures.steps)

pub returns-in-None-clause-found : goal.returns-in-None-clause-found
returns-in-None-clause-found c =
    let start = bound_map (λ pair. pair.now) c.args.start in
    let keys = (c.self.inside).set.keys in
    least-behind (is_from_start pair_cmp start) keys (c.self.inside).tail.items c.args.self.now _ c.self.view_is
    (first_from-found start c.range.result keys keys None _ (c.range.ensures.between tt) refl c.in-None.ensures.steps)
    c.tail_from.ensures
