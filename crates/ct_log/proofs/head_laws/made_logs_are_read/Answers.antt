use Rattle.ct_log.proofs.Fronts.{id_short}
use Rattle.ct_log.proofs.MadeHeads.{made_gate, made_opened, made_closed, front_tells}
use Rattle.ct_log.proofs.head_laws.made_logs_are_read.Goals as goal

pub returns-clause-opened : goal.returns-clause-opened
returns-clause-opened c = made_opened

pub returns-clause-closed : goal.returns-clause-closed
returns-clause-closed c = made_closed

pub returns-clause-front_tells : goal.returns-clause-front_tells
returns-clause-front_tells c = front_tells

pub returns-clause-gate : goal.returns-clause-gate
returns-clause-gate c = λ gate id base behind is_id. made_gate gate id base behind (id_short id is_id)
