use Rattle.ct_log.specs.Log.{durable_text}
use Rattle.ct_log.specs.declared.stage.Stage.TheVariants.{Idle}
use Rattle.ct_log.proofs.Flushes.{read_stands, left_stands, left_at}
use Rattle.ct_log.proofs.ChunkLaws.{stands_by_chunks, has_by_text}
use Rattle.ct_log.proofs.laws.log_holds_chunks.Goals as goal

pub returns-clause-read : goal.returns-clause-read
returns-clause-read g c = λ tells is_log front chunks short is.
    let log = c.args.log.now in
    let text = durable_text g.L.Disk.content log in
    stands_by_chunks front chunks log.flow.taken text (g.L.Disk.content log.device) short log.flow.taken_short is
    (read_stands log.flow.stage text log.flow.taken (g.L.Disk.content log.device) is_log.read)

pub returns-clause-left : goal.returns-clause-left
returns-clause-left g c = λ tells is_log front chunks b short is now.
    let log = c.args.log.now in
    let text = durable_text g.L.Disk.content log in
    stands_by_chunks front chunks log.flow.taken text b short log.flow.taken_short is
    (left_stands log.flow.stage text log.flow.taken b (is_log.left b now))

pub returns-clause-at_rest : goal.returns-clause-at_rest
returns-clause-at_rest g c = λ tells is_log idle front chunks b short is now.
    let log = c.args.log.now in
    has_by_text front chunks (durable_text g.L.Disk.content log) b short is (left_at g.L.Disk.content g.L.Disk.may_leave log Idle is_log idle b now)
