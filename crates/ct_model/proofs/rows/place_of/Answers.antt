use Rattle.std.proofs.Common.{rules, nat_lt}
use Rattle.std.proofs.lemmas.List.Sorted.{IsPartitionPoint-from_clause, IsPartitionedBy-ltb}
use Rattle.ct_definitions.specs.declared.store.Row.{Row}
use Rattle.ct_model.proofs.Places.{prefix_from_point, nums_rise}
use Rattle.ct_model.proofs.rows.place_of.Goals as goal

pub returns-clause-value : goal.returns-clause-value
returns-clause-value c =
    prefix_from_point (λ (row : Row). nat_lt row.num c.args.num) c.args.rows.now c.partition_point.result c.partition_point.ensures.bound
    (IsPartitionPoint-from_clause (λ (row : Row). nat_lt row.num c.args.num) c.args.rows.now c.partition_point.result c.partition_point.ensures.partitioned
    (IsPartitionedBy-ltb (λ (row : Row). row.num) c.args.rows.now c.args.num (nums_rise 0 c.args.rows.now c.requires)) (λ a r f k. search rules))
