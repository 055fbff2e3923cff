use Rattle.std.proofs.Common.{ap, ◌∙◌, arith}
use Rattle.ct_page.proofs.Numbers.{u64_at-with_u64}
use Rattle.ct_dir.specs.Directory.{page_count}
use Rattle.ct_dir.proofs.directory.set_page_count.Goals as goal

pub returns-clause-count : goal.returns-clause-count
returns-clause-count c =
    ap page_count c.set_u64.ensures ∙ u64_at-with_u64 128 c.args.count c.args.page.now (omega arith) (omega arith)
