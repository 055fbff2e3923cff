use Rattle.ct_laws.proofs.Rows.{row_at-with_row_same, row_at-with_row_other}
use Rattle.ct_laws.proofs.frame_laws.records_after_add.Goals as goal

pub returns-clause-own : goal.returns-clause-own
returns-clause-own c = row_at-with_row_same

pub returns-clause-others : goal.returns-clause-others
returns-clause-others c = row_at-with_row_other
