use Rattle.ct_tran.proofs.Merging.{merged_is}
use Rattle.ct_tran.proofs.overlay_laws.searches_are_merged.Goals as goal

pub returns : goal.returns
returns c = merged_is
