use Rattle.std.proofs.Common.{sym, ap, subst}
use Rattle.ct_node.specs.declared.root.Mark.{Mark}
use Rattle.ct_node.specs.Worlds.{with_lost, Adds}
use Rattle.ct_tree_laws.proofs.Turns.{stays, keys_same}
use Rattle.ct_tree.specs.Moves.{looked_at}
use Rattle.ct_tree.specs.Roles.{HasRole}
use Rattle.ct_tree.specs.Answers.{PutsKeys, BearsPut}
use Rattle.ct_tree.proofs.Done.{puts_other, caused_done, caused_on, goes_nothing, goes_on, bears_other, bears_on}
use Rattle.ct_tree.proofs.LostRules.{role_found}
use Rattle.ct_tree.proofs.Turning.{seen_first, stands_still, may_bear_on}
use Rattle.ct_tree.proofs.put.put_step.Goals as goal

pub returns-then-not-is_done-clause-turned : goal.returns-then-not-is_done-clause-turned
returns-then-not-is_done-clause-turned g c = λ lost sound coming.
    let w = with_lost lost (g.N.Nodes.world c.args.nodes.now) in
    let now = with_lost lost (g.N.Nodes.world c.visit-seen.new.nodes) in
    let same = ap (with_lost lost) c.visit-seen.ensures.world in
    (c.visit-seen.ensures.sound lost sound (subst (λ page. HasRole page c.args.ways.now.at (g.N.Nodes.world c.args.nodes.now)) (sym c.looked_at.ensures) (role_found lost (looked_at c.args.stage.now) c.args.ways.now.at (g.N.Nodes.world c.args.nodes.now) coming.role)), stays c.args.walk.now c.args.stage.now w now same coming.stands, puts_other c.args.walk.now c.visit-seen.result w now (cc) (keys_same w now same))

pub returns-clause-turned : goal.returns-clause-turned
returns-clause-turned g c = λ lost sound coming.
    let seen = c.visit-seen.ensures.sound lost sound (subst (λ page. HasRole page c.args.ways.now.at (g.N.Nodes.world c.args.nodes.now)) (sym c.looked_at.ensures) (role_found lost (looked_at c.args.stage.now) c.args.ways.now.at (g.N.Nodes.world c.args.nodes.now) coming.role)) in
    seen_first lost (g.N.Nodes.sound c.put_seen.new.nodes lost) c.args.walk.now c.put_seen.new.stage (PutsKeys c.args.walk.now c.put_seen.result) (g.N.Nodes.world c.args.nodes.now) (g.N.Nodes.world c.visit-seen.new.nodes) (g.N.Nodes.world c.put_seen.new.nodes) c.visit-seen.ensures.world
    (c.put_seen.ensures.turned lost seen (stands_still lost c.args.walk.now c.args.stage.now (g.N.Nodes.world c.args.nodes.now) (g.N.Nodes.world c.visit-seen.new.nodes) c.visit-seen.ensures.world coming.stands))

pub returns-clause-cause : goal.returns-clause-cause
returns-clause-cause g c =
    let first = caused_done c.visit-seen.result (g.N.Nodes.faults c.args.nodes.now) (g.N.Nodes.faults c.visit-seen.new.nodes) (g.N.Nodes.halted c.args.nodes.now) (g.N.Nodes.halted c.visit-seen.new.nodes) (cc) c.visit-seen.ensures.cause in
    caused_on c.put_seen.result (g.N.Nodes.faults c.args.nodes.now) (g.N.Nodes.faults c.visit-seen.new.nodes) (g.N.Nodes.faults c.put_seen.new.nodes) (g.N.Nodes.halted c.args.nodes.now) (g.N.Nodes.halted c.visit-seen.new.nodes) (g.N.Nodes.halted c.put_seen.new.nodes) first.0 first.1 c.put_seen.ensures.cause

pub put_seen-requires-clause-mark : goal.put_seen-requires-clause-mark
put_seen-requires-clause-mark g c = may_bear_on (g.N.Nodes.allows c.args.nodes.now c.args.walk.now.op) (g.N.Nodes.allows c.visit-seen.new.nodes c.args.walk.now.op) c.args.mark c.args.walk.now.target (Adds c.args.walk.now.at) (λ step one. g.met.N.Nodes.goes_allows c.args.nodes.now c.visit-seen.new.nodes c.args.walk.now.op step one c.visit-seen.ensures.goes) c.requires.mark

pub returns-then-not-is_done-clause-moves_on : goal.returns-then-not-is_done-clause-moves_on
returns-then-not-is_done-clause-moves_on g c = goes_nothing c.visit-seen.result c.args.mark (λ mark. g.N.Nodes.goes c.args.nodes.now mark c.visit-seen.new.nodes) c.visit-seen.ensures.goes

pub returns-clause-moves_on : goal.returns-clause-moves_on
returns-clause-moves_on g c = goes_on c.put_seen.result c.args.mark (λ mark. g.N.Nodes.goes c.visit-seen.new.nodes mark c.put_seen.new.nodes) (λ mark. g.N.Nodes.goes c.args.nodes.now mark c.put_seen.new.nodes) (λ mark one. g.met.N.Nodes.then_goes c.args.nodes.now c.visit-seen.new.nodes c.put_seen.new.nodes mark c.visit-seen.ensures.goes one) c.put_seen.ensures.moves_on

pub returns-then-not-is_done-clause-bears : goal.returns-then-not-is_done-clause-bears
returns-then-not-is_done-clause-bears g c = λ lost sound coming. bears_other c.args.walk.now c.visit-seen.result c.args.mark (with_lost lost (g.N.Nodes.world c.args.nodes.now)) (λ mark. g.N.Nodes.goes c.args.nodes.now mark c.visit-seen.new.nodes) (cc)

pub returns-clause-bears : goal.returns-clause-bears
returns-clause-bears g c = λ lost sound coming.
    let seen = c.visit-seen.ensures.sound lost sound (subst (λ page. HasRole page c.args.ways.now.at (g.N.Nodes.world c.args.nodes.now)) (sym c.looked_at.ensures) (role_found lost (looked_at c.args.stage.now) c.args.ways.now.at (g.N.Nodes.world c.args.nodes.now) coming.role)) in
    let goes = λ (mark : Mark). g.N.Nodes.goes c.args.nodes.now mark c.put_seen.new.nodes in
    subst (λ v. BearsPut c.args.walk.now c.args.mark c.put_seen.result (with_lost lost v) (λ mark. g.N.Nodes.goes c.args.nodes.now mark c.put_seen.new.nodes)) c.visit-seen.ensures.world
    (bears_on c.args.walk.now c.put_seen.result c.args.mark (with_lost lost (g.N.Nodes.world c.visit-seen.new.nodes)) (λ mark. g.N.Nodes.goes c.visit-seen.new.nodes mark c.put_seen.new.nodes) (λ mark. g.N.Nodes.goes c.args.nodes.now mark c.put_seen.new.nodes) (λ mark one. g.met.N.Nodes.then_goes c.args.nodes.now c.visit-seen.new.nodes c.put_seen.new.nodes mark c.visit-seen.ensures.goes one)
    (c.put_seen.ensures.bears lost seen (stands_still lost c.args.walk.now c.args.stage.now (g.N.Nodes.world c.args.nodes.now) (g.N.Nodes.world c.visit-seen.new.nodes) c.visit-seen.ensures.world coming.stands)))
