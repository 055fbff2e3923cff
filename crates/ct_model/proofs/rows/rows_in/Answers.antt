use Rattle.ct_model.proofs.Places.{block_part}
use Rattle.ct_model.proofs.rows.rows_in.Goals as goal

pub returns : goal.returns
returns c = rw (c.start_of-start.ensures.value, c.end_of-end.ensures.value) (block_part 0 c.args.block c.args.rows.now c.requires)
