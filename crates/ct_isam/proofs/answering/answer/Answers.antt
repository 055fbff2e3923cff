use Rattle.std.proofs.Common.{◌≡◌, sym, subst}
use Rattle.ct_line.specs.declared.call.Call.{Call}
use Rattle.ct_line.specs.declared.call.Call.TheVariants as calls
use Rattle.ct_yard.specs.Telling.{telling}
use Rattle.ct_isam.specs.Serving.{Serves}
use Rattle.ct_isam.specs.Told.{reply_of}
use Rattle.ct_isam.proofs.Served.{walk_serves, search_serves}
use Rattle.ct_isam.proofs.answering.answer.Goals as goal

pub returns-in-Create-clause-serves : goal.returns-in-Create-clause-serves
returns-in-Create-clause-serves g c =
    let seats = c.args.session.now in
    subst (λ (call : Call). Serves (telling g.L.Disk.tells g.L.Disk.faults g.L.Disk.content g.L.Disk.may_leave g.L.Disk.left_since) call c.args.yard.now seats (reply_of seats c.create.result) c.create.new.yard seats)
    (sym c.in-Create.is) (c.create.ensures.serves seats)

pub returns-in-Add-clause-serves : goal.returns-in-Add-clause-serves
returns-in-Add-clause-serves g c =
    let same : c.args.call ≡ calls.Add c.as_slice.result.now c.in-Add.image = cc in
    subst (λ (call : Call). Serves (telling g.L.Disk.tells g.L.Disk.faults g.L.Disk.content g.L.Disk.may_leave g.L.Disk.left_since) call c.args.yard.now c.args.session.now (reply_of c.add.new.session c.add.result) c.add.new.yard c.add.new.session)
    (sym same) c.add.ensures.serves

pub returns-in-Walk-clause-serves : goal.returns-in-Walk-clause-serves
returns-in-Walk-clause-serves g c =
    let name = c.as_slice-in-Walk.result.now in
    let index = c.as_slice-in-Walk-2.result.now in
    let same : c.args.call ≡ calls.Walk c.in-Walk.kind name index = cc in
    let reply = reply_of c.walk.new.session c.walk.result in
    subst (λ (call : Call). Serves (telling g.L.Disk.tells g.L.Disk.faults g.L.Disk.content g.L.Disk.may_leave g.L.Disk.left_since) call c.args.yard.now c.args.session.now reply c.args.yard.now c.walk.new.session)
    (sym same) (walk_serves (telling g.L.Disk.tells g.L.Disk.faults g.L.Disk.content g.L.Disk.may_leave g.L.Disk.left_since) c.args.yard.now c.in-Walk.kind name index c.args.session.now reply c.walk.new.session c.walk.ensures)

pub returns-in-Search-clause-serves : goal.returns-in-Search-clause-serves
returns-in-Search-clause-serves g c =
    let name = c.as_slice-in-Search.result.now in
    let index = c.as_slice-in-Search-2.result.now in
    let target = c.as_slice-in-Search-3.result.now in
    let same : c.args.call ≡ calls.Search c.in-Search.search name index target = cc in
    let reply = reply_of c.search_for.new.session c.search_for.result in
    subst (λ (call : Call). Serves (telling g.L.Disk.tells g.L.Disk.faults g.L.Disk.content g.L.Disk.may_leave g.L.Disk.left_since) call c.args.yard.now c.args.session.now reply c.args.yard.now c.search_for.new.session)
    (sym same) (search_serves (telling g.L.Disk.tells g.L.Disk.faults g.L.Disk.content g.L.Disk.may_leave g.L.Disk.left_since) c.args.yard.now c.in-Search.search name index target c.args.session.now reply c.search_for.new.session c.search_for.ensures)
