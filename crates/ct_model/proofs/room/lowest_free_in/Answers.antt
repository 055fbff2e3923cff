use Rattle.std.proofs.Common.{◌≡◌, ◌-◌, ◌^◌, ap, ◌∙◌, min}
use Rattle.ct_definitions.specs.Room.{block_use}
use Rattle.ct_model.proofs.Blocks.{block_use_part, all_part, rising_part, found_is_free, lowest_not_free, none_not_free}
use Rattle.ct_model.proofs.FreeNumbers.{full_not_free}
use Rattle.ct_model.proofs.room.lowest_free_in.Goals as goal

pub returns-then-used_by-len-clause-none : goal.returns-then-used_by-len-clause-none
returns-then-used_by-len-clause-none c =
    let used : c.used_by.result ≡ min (block_use c.args.block c.args.rows.now) (2 ^ 64 - 1) = rw c.rows_in-own.ensures at c.used_by.ensures ∙ ap (λ n. min n (2 ^ 64 - 1)) (block_use_part c.args.block c.args.rows.now) in
    λ num above. full_not_free c.args.block c.args.len c.used_by.result c.args.rows.now used c.requires.len c.if-used_by-len.true num

pub lowest_unused-requires-clause-rows : goal.lowest_unused-requires-clause-rows
lowest_unused-requires-clause-rows c = rw c.rows_in-own.ensures (all_part c.args.block c.args.rows.now)

pub lowest_unused-requires-clause-rising : goal.lowest_unused-requires-clause-rising
lowest_unused-requires-clause-rising c = rw c.rows_in-own.ensures (rising_part 0 c.args.block c.args.rows.now c.requires.rising)

pub returns-clause-found : goal.returns-clause-found
returns-clause-found c =
    let used : c.used_by.result ≡ min (block_use c.args.block c.args.rows.now) (2 ^ 64 - 1) = rw c.rows_in-own.ensures at c.used_by.ensures ∙ ap (λ n. min n (2 ^ 64 - 1)) (block_use_part c.args.block c.args.rows.now) in
    found_is_free c.lowest_unused.result c.args.block c.args.len c.used_by.result c.args.rows.now used c.requires.len c.if-used_by-len.false (rw c.rows_in-own.ensures at c.lowest_unused.ensures.found)

pub returns-clause-lowest : goal.returns-clause-lowest
returns-clause-lowest c = lowest_not_free c.lowest_unused.result c.args.block c.args.len c.args.rows.now (rw c.rows_in-own.ensures at c.lowest_unused.ensures.lowest)

pub returns-clause-none : goal.returns-clause-none
returns-clause-none c = none_not_free c.lowest_unused.result c.args.block c.args.len c.args.rows.now (rw c.rows_in-own.ensures at c.lowest_unused.ensures.none)
