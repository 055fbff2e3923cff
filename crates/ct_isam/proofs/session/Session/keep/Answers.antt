use Rattle.std.proofs.Common.{sym}
use Rattle.ct_isam.proofs.Seats.{kept_in, pushed}
use Rattle.ct_isam.proofs.session.Session.keep.Goals as goal

pub returns-in-Some-clause-ok : goal.returns-in-Some-clause-ok
returns-in-Some-clause-ok c =
    kept_in c.args.file c.args.set c.args.row c.self.inside.seats.items c.args.self.now c.in-Some.place c.index_mut.result.now c.keep_in.new.seat
    (sym c.in-Some.ensures) (cc) (cc) c.keep_in.ensures

pub returns-in_ok-push-in-None-clause-ok : goal.returns-in_ok-push-in-None-clause-ok
returns-in_ok-push-in-None-clause-ok c =
    pushed c.args.file c.args.set c.args.row c.self.inside.seats.items c.args.self.now c.push.new.self.items (sym c.in-None.ensures) (cc) c.in_ok-push-in-None.ensures.items
