use Rattle.std.proofs.Common.{sym, ap, subst}
use Rattle.ct_node.specs.Worlds.{with_lost, Drops}
use Rattle.ct_tree_laws.proofs.Turns.{stays, keys_same}
use Rattle.ct_tree.specs.Moves.{looked_at}
use Rattle.ct_tree.specs.Roles.{HasRole}
use Rattle.ct_tree.specs.Answers.{TakesKeys, TellsTaken}
use Rattle.ct_tree.proofs.Done.{takes_other, caused_done, caused_on, taken_other, taken_on}
use Rattle.ct_tree.proofs.LostRules.{role_found}
use Rattle.ct_tree.proofs.Turning.{seen_first, stands_still, may_bear_on, untaken_other}
use Rattle.ct_tree.proofs.take.take_step.Goals as goal

pub returns-then-not-is_done-clause-turned : goal.returns-then-not-is_done-clause-turned
returns-then-not-is_done-clause-turned g c = λ lost sound coming.
    let w = with_lost lost (g.N.Nodes.world c.args.nodes.now) in
    let now = with_lost lost (g.N.Nodes.world c.visit-seen.new.nodes) in
    let same = ap (with_lost lost) c.visit-seen.ensures.world in
    (c.visit-seen.ensures.sound lost sound (subst (λ page. HasRole page c.args.ways.now.at (g.N.Nodes.world c.args.nodes.now)) (sym c.looked_at.ensures) (role_found lost (looked_at c.args.stage.now) c.args.ways.now.at (g.N.Nodes.world c.args.nodes.now) coming.role)), stays c.args.walk.now c.args.stage.now w now same coming.stands, takes_other c.args.walk.now c.visit-seen.result w now (cc) (keys_same w now same))

pub returns-clause-turned : goal.returns-clause-turned
returns-clause-turned g c = λ lost sound coming.
    let seen = c.visit-seen.ensures.sound lost sound (subst (λ page. HasRole page c.args.ways.now.at (g.N.Nodes.world c.args.nodes.now)) (sym c.looked_at.ensures) (role_found lost (looked_at c.args.stage.now) c.args.ways.now.at (g.N.Nodes.world c.args.nodes.now) coming.role)) in
    seen_first lost (g.N.Nodes.sound c.take_seen.new.nodes lost) c.args.walk.now c.take_seen.new.stage (TakesKeys c.args.walk.now c.take_seen.result) (g.N.Nodes.world c.args.nodes.now) (g.N.Nodes.world c.visit-seen.new.nodes) (g.N.Nodes.world c.take_seen.new.nodes) c.visit-seen.ensures.world
    (c.take_seen.ensures.turned lost seen (stands_still lost c.args.walk.now c.args.stage.now (g.N.Nodes.world c.args.nodes.now) (g.N.Nodes.world c.visit-seen.new.nodes) c.visit-seen.ensures.world coming.stands))

pub returns-clause-cause : goal.returns-clause-cause
returns-clause-cause g c =
    let first = caused_done c.visit-seen.result (g.N.Nodes.faults c.args.nodes.now) (g.N.Nodes.faults c.visit-seen.new.nodes) (g.N.Nodes.halted c.args.nodes.now) (g.N.Nodes.halted c.visit-seen.new.nodes) (cc) c.visit-seen.ensures.cause in
    caused_on c.take_seen.result (g.N.Nodes.faults c.args.nodes.now) (g.N.Nodes.faults c.visit-seen.new.nodes) (g.N.Nodes.faults c.take_seen.new.nodes) (g.N.Nodes.halted c.args.nodes.now) (g.N.Nodes.halted c.visit-seen.new.nodes) (g.N.Nodes.halted c.take_seen.new.nodes) first.0 first.1 c.take_seen.ensures.cause

pub take_seen-requires-clause-mark : goal.take_seen-requires-clause-mark
take_seen-requires-clause-mark g c = may_bear_on (g.N.Nodes.allows c.args.nodes.now c.args.walk.now.op) (g.N.Nodes.allows c.visit-seen.new.nodes c.args.walk.now.op) c.args.mark c.args.walk.now.target (Drops c.args.walk.now.at) (λ step one. g.met.N.Nodes.goes_allows c.args.nodes.now c.visit-seen.new.nodes c.args.walk.now.op step one c.visit-seen.ensures.goes) c.requires.mark

pub returns-then-not-is_done-clause-bears : goal.returns-then-not-is_done-clause-bears
returns-then-not-is_done-clause-bears g c = taken_other c.visit-seen.result c.args.mark c.args.taken.now (λ mark. g.N.Nodes.goes c.args.nodes.now mark c.visit-seen.new.nodes) (cc) c.visit-seen.ensures.goes

pub returns-clause-bears : goal.returns-clause-bears
returns-clause-bears g c = taken_on c.take_seen.result c.args.mark c.take_seen.new.taken (λ mark. g.N.Nodes.goes c.visit-seen.new.nodes mark c.take_seen.new.nodes) (λ mark. g.N.Nodes.goes c.args.nodes.now mark c.take_seen.new.nodes) (λ mark one. g.met.N.Nodes.then_goes c.args.nodes.now c.visit-seen.new.nodes c.take_seen.new.nodes mark c.visit-seen.ensures.goes one) c.take_seen.ensures.bears

pub returns-then-not-is_done-clause-found : goal.returns-then-not-is_done-clause-found
returns-then-not-is_done-clause-found g c = λ lost sound coming. untaken_other c.visit-seen.result c.args.taken.now c.args.walk.now (with_lost lost (g.N.Nodes.world c.args.nodes.now)) (cc)

pub returns-clause-found : goal.returns-clause-found
returns-clause-found g c = λ lost sound coming.
    let seen = c.visit-seen.ensures.sound lost sound (subst (λ page. HasRole page c.args.ways.now.at (g.N.Nodes.world c.args.nodes.now)) (sym c.looked_at.ensures) (role_found lost (looked_at c.args.stage.now) c.args.ways.now.at (g.N.Nodes.world c.args.nodes.now) coming.role)) in
    subst (λ v. TellsTaken c.args.walk.now c.take_seen.result c.take_seen.new.taken (with_lost lost v)) c.visit-seen.ensures.world
    (c.take_seen.ensures.found lost seen (stands_still lost c.args.walk.now c.args.stage.now (g.N.Nodes.world c.args.nodes.now) (g.N.Nodes.world c.visit-seen.new.nodes) c.visit-seen.ensures.world coming.stands))
