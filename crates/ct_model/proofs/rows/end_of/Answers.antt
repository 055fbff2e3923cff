use Rattle.std.proofs.Common.{◌≡◌, length, rules, nat_le, arith}
use Rattle.std.proofs.lemmas.Bool.Decides.{nat_tests}
use Rattle.std.proofs.lemmas.List.Sorted.{IsPartitionPoint-from_clause, IsPartitionedBy-leb}
use Rattle.ct_definitions.specs.declared.store.Row.{Row}
use Rattle.ct_definitions.specs.Room.{block_of}
use Rattle.ct_model.proofs.Places.{prefix_from_point, blocks_rise, ends, starts_first}
use Rattle.ct_model.proofs.rows.end_of.Goals as goal

pub returns-clause-value : goal.returns-clause-value
returns-clause-value c =
    prefix_from_point (λ (row : Row). nat_le (block_of row.num) c.args.block) c.args.rows.now c.partition_point.result c.partition_point.ensures.bound
    (IsPartitionPoint-from_clause (λ (row : Row). nat_le (block_of row.num) c.args.block) c.args.rows.now c.partition_point.result c.partition_point.ensures.partitioned
    (IsPartitionedBy-leb (λ (row : Row). block_of row.num) c.args.rows.now c.args.block (blocks_rise c.args.rows.now c.requires)) (λ a r f k. search rules))

pub returns-clause-start : goal.returns-clause-start
returns-clause-start c = rw (returns-clause-value c) (starts_first c.args.block c.args.rows.now)

pub returns-then-are_up_to-clause-start : goal.returns-then-are_up_to-clause-start
returns-then-are_up_to-clause-start c =
    let all : ends c.args.block c.args.rows.now ≡ length c.args.rows.now = grind (arith, nat_tests) in
    omega (arith, starts_first c.args.block c.args.rows.now)
