use Rattle.std.proofs.Common.{◌≡◌, ℕ, ◌+◌, ap, ◌∙◌, arith}
use Rattle.ct_page.specs.Fields.{with_u16, with_u64}
use Rattle.ct_dir.specs.Directory.{file_count, file_place, file_page, with_file}
use Rattle.ct_dir.proofs.Files.{file_count-with_file, file_page-with_file}
use Rattle.ct_dir.proofs.directory.add_file.Goals as goal

pub returns-clause-page : goal.returns-clause-page
returns-clause-page c =
    let page = c.args.page.now in
    let count = c.file_count-file.ensures in
    c.set_u16.ensures ∙ ap (with_u16 6 (c.file_count-file.result + 1)) c.set_u64.ensures ∙ ap (λ n. with_u16 6 (n + 1) (with_u64 (file_place n) c.args.definition page)) count

pub returns-clause-count : goal.returns-clause-count
returns-clause-count c =
    let is = returns-clause-page c in
    ap file_count is ∙ file_count-with_file c.args.definition c.args.page.now c.told-page c.requires

pub returns-clause-file : goal.returns-clause-file
returns-clause-file c =
    let is = returns-clause-page c in
    ap (λ p. file_page p (file_count c.args.page.now)) is ∙ file_page-with_file c.args.definition c.args.page.now c.told-page c.requires (omega arith)
