use Rattle.std.proofs.Common.{None, sym}
use Rattle.ct_isam.proofs.Seats.{exchanged, exchanged_back, pushed}
use Rattle.ct_isam.proofs.session.Session.exchange.Goals as goal

pub returns-in-Some-clause-new : goal.returns-in-Some-clause-new
returns-in-Some-clause-new c =
    exchanged c.args.file c.args.row c.self.inside.seats.items c.args.self.now c.in-Some.place c.index_mut-seat.result.now c.replace-before.new.dest
    (sym c.in-Some.ensures) (cc) (cc) c.replace-before.ensures.after

pub returns-in-Some-clause-undone : goal.returns-in-Some-clause-undone
returns-in-Some-clause-undone c =
    exchanged_back c.args.file c.args.row c.self.inside.seats.items c.args.self.now c.in-Some.place c.index_mut-seat.result.now c.replace-before.new.dest c.replace-before.result
    (sym c.in-Some.ensures) (cc) (cc) c.replace-before.ensures.after c.replace-before.ensures.value

pub returns-in_ok-push-in-None-clause-new : goal.returns-in_ok-push-in-None-clause-new
returns-in_ok-push-in-None-clause-new c =
    pushed c.args.file None c.args.row c.self.inside.seats.items c.args.self.now c.push.new.self.items (sym c.in-None.ensures) (cc) c.in_ok-push-in-None.ensures.items
