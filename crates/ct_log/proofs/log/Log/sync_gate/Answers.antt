use Rattle.ct_log.specs.Log.{durable_text}
use Rattle.ct_log.specs.declared.stage.Stage.TheVariants.{Opened}
use Rattle.ct_disk.specs.Disk.{unchanged}
use Rattle.ct_log.proofs.Flushes.{gate_synced, left_at, left_by_sync, stands_through}
use Rattle.ct_log.proofs.log.Log.sync_gate.Goals as goal

pub returns-in_err-sync-clause-any_moment : goal.returns-in_err-sync-clause-any_moment
returns-in_err-sync-clause-any_moment g c = λ tells is.
    let old = c.args.self.now in
    let left = left_at g.L.Disk.content g.L.Disk.may_leave old Opened is c.requires.stage in
    stands_through g.L.Disk.may_leave g.L.Disk.left_since old.device c.sync.new.self Opened (durable_text g.L.Disk.content old) old.flow.taken left
    unchanged (c.sync.ensures.crash tells) (λ b here. g.met.L.Disk.only_now old.device b tells here)
    (left_by_sync g.L.Disk.may_leave g.L.Disk.left_since old.device c.sync.new.self Opened (durable_text g.L.Disk.content old) old.flow.taken left)

pub returns-clause-log : goal.returns-clause-log
returns-clause-log g c = λ tells is.
    (gate_synced g.L.Disk.content g.L.Disk.may_leave c.args.self.now (record { device = c.sync.new.self; flow = c.end_chunk.new.self })
    is c.end_chunk.ensures (c.sync.ensures.content tells) (c.in_ok-sync.ensures.stable tells)).0

pub returns-clause-text : goal.returns-clause-text
returns-clause-text g c = λ tells is.
    (gate_synced g.L.Disk.content g.L.Disk.may_leave c.args.self.now (record { device = c.sync.new.self; flow = c.end_chunk.new.self })
    is c.end_chunk.ensures (c.sync.ensures.content tells) (c.in_ok-sync.ensures.stable tells)).1

pub returns-clause-any_moment : goal.returns-clause-any_moment
returns-clause-any_moment g c = λ tells is.
    let old = c.args.self.now in
    let left = left_at g.L.Disk.content g.L.Disk.may_leave old Opened is c.requires.stage in
    stands_through g.L.Disk.may_leave g.L.Disk.left_since old.device c.sync.new.self Opened (durable_text g.L.Disk.content old) old.flow.taken left
    unchanged (c.sync.ensures.crash tells) (λ b here. g.met.L.Disk.only_now old.device b tells here)
    (left_by_sync g.L.Disk.may_leave g.L.Disk.left_since old.device c.sync.new.self Opened (durable_text g.L.Disk.content old) old.flow.taken left)
