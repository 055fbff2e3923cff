use Rattle.std.proofs.Common.{not, rules}
use Rattle.std.specs.Range.Bound.{bound_map}
use Rattle.std.specs.BTreeMap.Range.{is_from_start}
use Rattle.std.proofs.lemmas.List.Sorted.{IsPartitionPoint-from_clause}
use Rattle.ct_definitions.specs.Pairs.{pair_cmp}
use Rattle.ct_pairs.proofs.Places.{IsUpward-from_start, IsPartitionedBy-upward, first-at}
use Rattle.ct_pairs.proofs.ordered.tail_from.Goals as goal

pub returns : goal.returns
returns c =
    let start = bound_map (λ pair. pair.now) c.args.start in
    let from = is_from_start pair_cmp start in
    let items = c.args.tail.now.items in
    let ends = IsPartitionPoint-from_clause (λ x. not (from x)) items c.partition_point-at.result c.partition_point-at.ensures.partitioned (IsPartitionedBy-upward from (IsUpward-from_start start) items c.requires) (λ a r f k. search rules) in
    first-at from items c.partition_point-at.result c.get.result ends c.get.ensures.item
