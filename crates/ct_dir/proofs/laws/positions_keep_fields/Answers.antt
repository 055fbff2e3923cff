use Rattle.std.proofs.Common.{arith}
use Rattle.ct_dir.specs.DefinitionPage.{map_place, root_place, leaf_place}
use Rattle.ct_dir.proofs.Repositions.{short_in_front, long_behind, file_kept, entry_kept}
use Rattle.ct_dir.proofs.laws.positions_keep_fields.Goals as goal

pub returns-clause-pages : goal.returns-clause-pages
returns-clause-pages c = λ position page is. long_behind 128 position page is (omega arith)

pub returns-clause-files : goal.returns-clause-files
returns-clause-files c = λ position page is. short_in_front 6 position page is (omega arith)

pub returns-clause-file : goal.returns-clause-file
returns-clause-file c = file_kept

pub returns-clause-map : goal.returns-clause-map
returns-clause-map c = λ position len page is. long_behind (map_place len) position page is (omega arith)

pub returns-clause-root : goal.returns-clause-root
returns-clause-root c = λ position len index page is. long_behind (root_place len index) position page is (omega arith)

pub returns-clause-leaf : goal.returns-clause-leaf
returns-clause-leaf c = λ position len index page is. long_behind (leaf_place len index) position page is (omega arith)

pub returns-clause-entries : goal.returns-clause-entries
returns-clause-entries c = λ position page is. short_in_front 6 position page is (omega arith)

pub returns-clause-entry : goal.returns-clause-entry
returns-clause-entry c = entry_kept
