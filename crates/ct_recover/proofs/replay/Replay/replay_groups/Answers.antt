use Rattle.std.proofs.Common.{sym, subst, drop, arith}
use Rattle.ct_recover.proofs.Replays.{IsReadUpTo, read_more, onward, groups_stopped}
use Rattle.ct_recover.proofs.replay.Replay.replay_groups.Goals as goal

pub returns-in-Err-clause-replayed : goal.returns-in-Err-clause-replayed
returns-in-Err-clause-replayed c =
    groups_stopped c.args.groups.now c.loop-at.at c.args.self.now c.loop-at.self c.replay_group.new.self c.in-Err.fault c.loop-at-test.true c.loop-at.invariant c.in-Err.ensures.replayed

pub loop-at-smaller : goal.loop-at-smaller
loop-at-smaller c =
    let r = c.in-Ok.ensures.replayed in
    omega (arith, r.1, onward (drop c.loop-at.at c.args.groups.now) r.0 c.loop-at.self c.replay_group.new.self r.2, c.loop-at-test.true)

pub loop-at-preserved : goal.loop-at-preserved
loop-at-preserved c =
    let r = c.in-Ok.ensures.replayed in
    subst (λ n. IsReadUpTo c.args.groups.now n c.args.self.now c.replay_group.new.self) (sym r.1)
    (read_more c.args.groups.now c.loop-at.at r.0 c.args.self.now c.loop-at.self c.replay_group.new.self c.loop-at.invariant r.2 c.in-Ok.ensures.within c.in-Ok.ensures.place)
