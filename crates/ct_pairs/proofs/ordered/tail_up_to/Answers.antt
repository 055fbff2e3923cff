use Rattle.std.proofs.Common.{not, rules, arith}
use Rattle.std.specs.Range.Bound.{bound_map}
use Rattle.std.specs.BTreeMap.Range.{is_past_end}
use Rattle.std.proofs.lemmas.List.Sorted.{IsPartitionPoint-from_clause}
use Rattle.ct_definitions.specs.Pairs.{pair_cmp}
use Rattle.ct_pairs.proofs.Places.{IsUpward-past_end, IsPartitionedBy-upward, last-at, last-at_start}
use Rattle.ct_pairs.proofs.ordered.tail_up_to.Goals as goal

pub returns-then-past-eq0 : goal.returns-then-past-eq0
returns-then-past-eq0 c =
    let end = bound_map (λ pair. pair.now) c.args.end in
    let past = is_past_end pair_cmp end in
    let items = c.args.tail.now.items in
    let ends = IsPartitionPoint-from_clause (λ x. not (past x)) items c.partition_point-past.result c.partition_point-past.ensures.partitioned (IsPartitionedBy-upward past (IsUpward-past_end end) items c.requires) (λ a r f k. search rules) in
    last-at_start past items c.partition_point-past.result ends (omega arith)

pub returns : goal.returns
returns c =
    let end = bound_map (λ pair. pair.now) c.args.end in
    let past = is_past_end pair_cmp end in
    let items = c.args.tail.now.items in
    let ends = IsPartitionPoint-from_clause (λ x. not (past x)) items c.partition_point-past.result c.partition_point-past.ensures.partitioned (IsPartitionedBy-upward past (IsUpward-past_end end) items c.requires) (λ a r f k. search rules) in
    let len = c.args.tail.now.ok.0 in
    let bound = c.partition_point-past.ensures.bound in
    let some = c.if-past-eq0.false in
    last-at past items c.partition_point-past.result c.get.result ends (omega arith) (omega arith) c.get.ensures.item
