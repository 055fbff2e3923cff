use Rattle.std.proofs.Common.{◌∙◌}
use Rattle.ct_disk.proofs.Moments.{Torn-by_write}
use Rattle.ct_log.proofs.Fronts.{gate_opened, gate_torn, id_short}
use Rattle.ct_log.proofs.make.open_gate.Goals as goal

pub returns-clause-opened : goal.returns-clause-opened
returns-clause-opened g c = λ tells id base behind is_id was.
    gate_opened id base behind (g.L.Disk.content c.args.device.now) (g.L.Disk.content c.sync.new.self) (id_short id is_id) was (c.sync.ensures.content tells ∙ c.in_ok-write_at.ensures.content tells)

pub returns-in_err-write_at-clause-left : goal.returns-in_err-write_at-clause-left
returns-in_err-write_at-clause-left g c = λ tells id base behind is_id was b now.
    let one = (c.write_at.ensures.crash tells).now b now in
    gate_torn id base behind one.0 b (id_short id is_id) (was one.0 one.1) (Torn-by_write c.write_at.result 36 1 one.0 b one.2)

pub returns-in_err-sync-clause-left : goal.returns-in_err-sync-clause-left
returns-in_err-sync-clause-left g c = λ tells id base behind is_id was b now.
    let two = (c.sync.ensures.crash tells).now b now in
    let one = (c.write_at.ensures.crash tells).now two.0 two.1 in
    let left = gate_torn id base behind one.0 two.0 (id_short id is_id) (was one.0 one.1) (Torn-by_write c.write_at.result 36 1 one.0 two.0 one.2) in
    (left.0, two.2 ∙ left.1)

pub returns-clause-left : goal.returns-clause-left
returns-clause-left g c = λ tells id base behind is_id was b now.
    let two = (c.sync.ensures.crash tells).now b now in
    let one = (c.write_at.ensures.crash tells).now two.0 two.1 in
    let left = gate_torn id base behind one.0 two.0 (id_short id is_id) (was one.0 one.1) (Torn-by_write c.write_at.result 36 1 one.0 two.0 one.2) in
    (left.0, two.2 ∙ left.1)
