use Rattle.std.proofs.Common.{drop}
use Rattle.ct_model.proofs.Blocks.{gap_found, gap_lowest}
use Rattle.ct_model.proofs.room.lowest_unused.Goals as goal

pub returns-then-row-start-clause-found : goal.returns-then-row-start-clause-found
returns-then-row-start-clause-found c =
    gap_found c.args.block c.loop-row.place c.loop-row.row-index c.args.rows.now c.row-item.result c.loop-row.invariant.1 c.loop-row-test.true c.row-item.is c.if-row-start.true

pub returns-then-row-start-clause-lowest : goal.returns-then-row-start-clause-lowest
returns-then-row-start-clause-lowest c = gap_lowest c.args.block c.loop-row.place c.args.rows.now (drop c.loop-row.row-index c.args.rows.now) c.loop-row.invariant.1
