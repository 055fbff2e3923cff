use Rattle.ct_dir.proofs.Repositions.{directory_kept, definition_kept, map_kept}
use Rattle.ct_dir.proofs.laws.positions_keep_pages.Goals as goal

pub returns-clause-directory : goal.returns-clause-directory
returns-clause-directory c = directory_kept

pub returns-clause-definition : goal.returns-clause-definition
returns-clause-definition c = definition_kept

pub returns-clause-map : goal.returns-clause-map
returns-clause-map c = map_kept
