use Rattle.std.proofs.Common.{sym, rules, of_calls}
use Rattle.std.proofs.lemmas.List.Sorted.{IsPartitionPoint-from_clause}
use Rattle.ct_latch.specs.Latches.{comes_before}
use Rattle.ct_latch.proofs.Holds.{place_is, IsPartitionedBy-before}
use Rattle.ct_latch.proofs.latches.place_of.Goals as goal

pub returns-clause-place : goal.returns-clause-place
returns-clause-place c =
    let before = comes_before c.args.node c.args.op in
    place_is c.args.node c.args.op c.args.holds.now c.partition_point.result c.partition_point.ensures.bound
    (IsPartitionPoint-from_clause before c.args.holds.now c.partition_point.result c.partition_point.ensures.partitioned (IsPartitionedBy-before c.args.node c.args.op c.args.holds.now c.requires) (λ a r f k. search (rules, of_calls)))
