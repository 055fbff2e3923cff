use Rattle.ct_laws.proofs.Room.{block_use-with_row, block_use-without_row, block_use-with_image}
use Rattle.ct_laws.proofs.room_laws.use_after_changes.Goals as goal

pub returns-clause-add : goal.returns-clause-add
returns-clause-add c = block_use-with_row

pub returns-clause-delete : goal.returns-clause-delete
returns-clause-delete c = block_use-without_row

pub returns-clause-rewrite : goal.returns-clause-rewrite
returns-clause-rewrite c = block_use-with_image
