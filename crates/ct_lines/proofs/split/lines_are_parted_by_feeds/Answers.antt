use Rattle.ct_lines.proofs.LineLemmas.{lines_of-line, lines_of-last}
use Rattle.ct_lines.proofs.split.lines_are_parted_by_feeds.Goals as goal

pub returns-clause-line : goal.returns-clause-line
returns-clause-line c = lines_of-line

pub returns-clause-last : goal.returns-clause-last
returns-clause-last c = lines_of-last
