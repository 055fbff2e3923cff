use Rattle.ct_tran.proofs.Overlaying.{taken_is, put_is}
use Rattle.ct_tran.proofs.overlay_laws.overlays_follow_changes.Goals as goal

pub returns-clause-taken : goal.returns-clause-taken
returns-clause-taken c = taken_is

pub returns-clause-put : goal.returns-clause-put
returns-clause-put c = put_is
