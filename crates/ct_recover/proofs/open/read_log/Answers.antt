use Rattle.std.proofs.Common.{Err, refl, sym, ap, ◌∙◌, arith, subst}
use Rattle.ct_log.specs.Reading.{IsRead}
use Rattle.ct_yard.specs.Telling.{telling}
use Rattle.ct_recover.specs.declared.fault.OpenFault.{OpenFault}
use Rattle.ct_recover.proofs.Fills.{gate_told}
use Rattle.ct_recover.proofs.Openings.{Begins, undone, stopped, opened, log_made}
use Rattle.ct_recover.proofs.open.read_log.Goals as goal

pub returns-then-not-head : goal.returns-then-not-head
returns-then-not-head g c = λ told.
    undone (telling g.L.Disk.tells g.L.Disk.faults g.L.Disk.content g.L.Disk.may_leave g.L.Disk.left_since) c.args.log.device c.into_device.result c.args.head.now told c.if-not-head.true c.into_device.ensures

pub returns-in-Err : goal.returns-in-Err
returns-in-Err g c = λ told.
    let start = c.from_start-replay.ensures in
    let begins : Begins c.args.head.now c.from_start-replay.result = record { state = start.state; number = start.number; ordinal = start.ordinal; place = start.place } in
    stopped (telling g.L.Disk.tells g.L.Disk.faults g.L.Disk.content g.L.Disk.may_leave g.L.Disk.left_since) c.args.log.device c.replay_log.new.log.device c.into_device-in-Err.result c.args.head.now
    c.from_start-replay.result c.replay_log.new.replay c.in-Err.fault begins c.requires.start told c.if-not-head.false c.in-Err.ensures.replayed
    (λ same. c.in-Err.ensures.not_empty (ap (λ (f : OpenFault). Err f) same)) (λ same. c.in-Err.ensures.undone (ap (λ (f : OpenFault). Err f) same))
    c.in-Err.ensures.read c.in-Err.ensures.later (λ same. c.in-Err.ensures.cause (ap (λ (f : OpenFault). Err f) same)) c.into_device-in-Err.ensures

pub returns-in-Ok : goal.returns-in-Ok
returns-in-Ok g c = λ told.
    let start = c.from_start-replay.ensures in
    let begins : Begins c.args.head.now c.from_start-replay.result = record { state = start.state; number = start.number; ordinal = start.ordinal; place = start.place } in
    record {
      is_opened = opened (telling g.L.Disk.tells g.L.Disk.faults g.L.Disk.content g.L.Disk.may_leave g.L.Disk.left_since) c.args.log.device c.args.head.now c.from_start-replay.result c.replay_log.new.replay _
          begins c.requires.start told c.if-not-head.false c.in-Ok.ensures.replayed refl refl c.set_end.ensures.next c.set_end.ensures.end;
      at_rest = c.set_end.ensures.rest;
      numbers = c.in-Ok.ensures.within.number;
      place = omega (arith, c.set_end.ensures.end, c.in-Ok.ensures.within.place);
      is_log = log_made (telling g.L.Disk.tells g.L.Disk.faults g.L.Disk.content g.L.Disk.may_leave g.L.Disk.left_since) c.args.log.device c.replay_log.new.log c.set_end.new.self c.replay_log.new.replay.place c.replay_log.ensures.read c.set_end.ensures.end c.set_end.ensures.log;
      is_open = λ here. sym (gate_told (g.L.Disk.content c.args.log.device) c.args.head.now (told here)) ∙ c.if-not-head.false;
      read = λ here. subst (λ (d : g.row.L.Denot). IsRead g.L.Disk.content g.L.Disk.may_leave g.L.Disk.left_since c.args.log.device d) (sym c.set_end.ensures.device) (c.in-Ok.ensures.read here);
      later = omega (arith, c.in-Ok.ensures.later, ap g.L.Disk.faults c.set_end.ensures.device);
    }
