use Rattle.std.specs.Range.Bound.{bound_map}
use Rattle.std.specs.BTreeMap.Range.{is_past_end}
use Rattle.std.proofs.Common.{refl, not}
use Rattle.ct_definitions.specs.Pairs.{pair_cmp}
use Rattle.ct_pairs.proofs.Finding.{last_up_to-found}
use Rattle.ct_pairs.proofs.Joined.{IsInOrder-back, greatest-in_front, greatest-behind}
use Rattle.ct_pairs.proofs.ordered.Ordered.last_up_to.Goals as goal

pub tail_up_to-requires : goal.tail_up_to-requires
tail_up_to-requires c = IsInOrder-back (c.self.inside).set.keys (c.self.inside).tail.items c.self.invariant.0

pub returns-in-Some : goal.returns-in-Some
returns-in-Some c =
    let end = bound_map (λ pair. pair.now) c.args.end in
    greatest-behind (λ pair. not (is_past_end pair_cmp end pair)) (c.self.inside).set.keys (c.self.inside).tail.items c.args.self.now _ c.self.view_is c.in-Some.ensures

pub returns-in-None : goal.returns-in-None
returns-in-None c =
    let end = bound_map (λ pair. pair.now) c.args.end in
    let keys = (c.self.inside).set.keys in
    greatest-in_front (λ pair. not (is_past_end pair_cmp end pair)) keys (c.self.inside).tail.items c.args.self.now _ c.self.view_is c.in-None.ensures
    (last_up_to-found end c.range.result keys keys c.next_back.result _ (c.range.ensures.between tt) refl c.next_back.ensures.steps)
