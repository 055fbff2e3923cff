use Rattle.ct_dir.proofs.Files.{file_page-with_page_count, page_count-with_file, file_page-with_file_other}
use Rattle.ct_dir.proofs.laws.directory_fields_are_apart.Goals as goal

pub returns-clause-files : goal.returns-clause-files
returns-clause-files c = file_page-with_page_count

pub returns-clause-pages : goal.returns-clause-pages
returns-clause-pages c = page_count-with_file

pub returns-clause-other_files : goal.returns-clause-other_files
returns-clause-other_files c = file_page-with_file_other
