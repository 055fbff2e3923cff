use Rattle.ct_laws.proofs.States.{slice_get-in_file_same, slice_get-in_file_other, length-in_file}
use Rattle.ct_laws.proofs.frame_laws.files_after_change.Goals as goal

pub returns-clause-own : goal.returns-clause-own
returns-clause-own c = slice_get-in_file_same

pub returns-clause-others : goal.returns-clause-others
returns-clause-others c = slice_get-in_file_other

pub returns-clause-count : goal.returns-clause-count
returns-clause-count c = length-in_file
