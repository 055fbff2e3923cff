use Rattle.ct_frames.proofs.PageLaws.{page_at-append}
use Rattle.ct_frames.proofs.laws.pages_go_on.Goals as goal

pub returns-clause-parts : goal.returns-clause-parts
returns-clause-parts c = page_at-append
