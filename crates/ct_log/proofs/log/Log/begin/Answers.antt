use Rattle.std.proofs.Common.{sym, ◌∙◌}
use Rattle.ct_log.specs.Front.{front}
use Rattle.ct_log.proofs.Flushes.{begun}
use Rattle.ct_log.proofs.Fronts.{id_short, length-front}
use Rattle.ct_log.proofs.log.Log.begin.Goals as goal

pub returns-clause-log : goal.returns-clause-log
returns-clause-log g c = λ tells id base is_id is only.
    begun g.L.Disk.content g.L.Disk.may_leave (record { device = c.args.device; flow = c.at_rest.result }) (front id base)
    (length-front id base (id_short id is_id) ∙ sym c.at_rest.ensures.end) c.at_rest.ensures.stage is only
