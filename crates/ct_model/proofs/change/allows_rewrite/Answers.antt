use Rattle.ct_model.proofs.StoredFiles.{found_within}
use Rattle.ct_model.proofs.change.allows_rewrite.Goals as goal

pub may_stand-requires : goal.may_stand-requires
may_stand-requires c = found_within c.args.state.now c.args.file c.in-Some.found.now c.in-Some.ensures.found
