use Rattle.ct_group.proofs.GroupLaws.{group-exact, commit_spelled, length-image_group, group_writable, one_spelling, one_group}
use Rattle.ct_group.proofs.laws.groups_are_exact.Goals as goal

pub returns : goal.returns
returns c = record { group = group-exact; commit = commit_spelled; image = length-image_group; writable = group_writable; one_spelling = one_spelling; one_group = one_group }
