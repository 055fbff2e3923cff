use Rattle.ct_laws.proofs.Rows.{row_at-without_row_same, row_at-without_row_other}
use Rattle.ct_laws.proofs.frame_laws.records_after_delete.Goals as goal

pub returns-clause-own : goal.returns-clause-own
returns-clause-own c = row_at-without_row_same

pub returns-clause-others : goal.returns-clause-others
returns-clause-others c = row_at-without_row_other
