use Rattle.std.proofs.Common.{sym, ap, subst}
use Rattle.ct_node.specs.Worlds.{with_lost, no_mark}
use Rattle.ct_tree_laws.specs.Stands.{KeepsKeys}
use Rattle.ct_tree_laws.proofs.Turns.{stays, keys_same}
use Rattle.ct_tree.specs.Moves.{looked_at}
use Rattle.ct_tree.specs.Roles.{HasRole}
use Rattle.ct_tree.specs.Answers.{TellsFound, found_by}
use Rattle.ct_tree.proofs.Done.{caused_done, caused_on}
use Rattle.ct_tree.proofs.LostRules.{role_found}
use Rattle.ct_tree.proofs.Turning.{seen_first, stands_still, unfound_other}
use Rattle.ct_tree.proofs.search.seek_step.Goals as goal

pub returns-then-not-is_done-clause-turned : goal.returns-then-not-is_done-clause-turned
returns-then-not-is_done-clause-turned g c = λ lost sound coming.
    let w = with_lost lost (g.N.Nodes.world c.args.nodes.now) in
    let now = with_lost lost (g.N.Nodes.world c.visit-seen.new.nodes) in
    let same = ap (with_lost lost) c.visit-seen.ensures.world in
    (c.visit-seen.ensures.sound lost sound (subst (λ page. HasRole page c.args.ways.now.at (g.N.Nodes.world c.args.nodes.now)) (sym c.looked_at.ensures) (role_found lost (looked_at c.args.stage.now) c.args.ways.now.at (g.N.Nodes.world c.args.nodes.now) coming.role)), stays c.args.walk.now c.args.stage.now w now same coming.stands, keys_same w now same)

pub returns-clause-turned : goal.returns-clause-turned
returns-clause-turned g c = λ lost sound coming.
    let seen = c.visit-seen.ensures.sound lost sound (subst (λ page. HasRole page c.args.ways.now.at (g.N.Nodes.world c.args.nodes.now)) (sym c.looked_at.ensures) (role_found lost (looked_at c.args.stage.now) c.args.ways.now.at (g.N.Nodes.world c.args.nodes.now) coming.role)) in
    seen_first lost (g.N.Nodes.sound c.seek_seen.new.nodes lost) c.args.walk.now c.seek_seen.new.stage KeepsKeys (g.N.Nodes.world c.args.nodes.now) (g.N.Nodes.world c.visit-seen.new.nodes) (g.N.Nodes.world c.seek_seen.new.nodes) c.visit-seen.ensures.world
    (c.seek_seen.ensures.turned lost seen (stands_still lost c.args.walk.now c.args.stage.now (g.N.Nodes.world c.args.nodes.now) (g.N.Nodes.world c.visit-seen.new.nodes) c.visit-seen.ensures.world coming.stands))

pub returns-clause-cause : goal.returns-clause-cause
returns-clause-cause g c =
    let first = caused_done c.visit-seen.result (g.N.Nodes.faults c.args.nodes.now) (g.N.Nodes.faults c.visit-seen.new.nodes) (g.N.Nodes.halted c.args.nodes.now) (g.N.Nodes.halted c.visit-seen.new.nodes) (cc) c.visit-seen.ensures.cause in
    caused_on c.seek_seen.result (g.N.Nodes.faults c.args.nodes.now) (g.N.Nodes.faults c.visit-seen.new.nodes) (g.N.Nodes.faults c.seek_seen.new.nodes) (g.N.Nodes.halted c.args.nodes.now) (g.N.Nodes.halted c.visit-seen.new.nodes) (g.N.Nodes.halted c.seek_seen.new.nodes) first.0 first.1 c.seek_seen.ensures.cause

pub returns-clause-goes : goal.returns-clause-goes
returns-clause-goes g c = g.met.N.Nodes.then_goes c.args.nodes.now c.visit-seen.new.nodes c.seek_seen.new.nodes no_mark c.visit-seen.ensures.goes c.seek_seen.ensures.goes

pub returns-then-not-is_done-clause-found : goal.returns-then-not-is_done-clause-found
returns-then-not-is_done-clause-found g c = λ lost sound coming. unfound_other c.visit-seen.result c.args.found.now c.args.walk.now (found_by c.args.seek) (with_lost lost (g.N.Nodes.world c.args.nodes.now)) (cc)

pub returns-clause-found : goal.returns-clause-found
returns-clause-found g c = λ lost sound coming.
    let seen = c.visit-seen.ensures.sound lost sound (subst (λ page. HasRole page c.args.ways.now.at (g.N.Nodes.world c.args.nodes.now)) (sym c.looked_at.ensures) (role_found lost (looked_at c.args.stage.now) c.args.ways.now.at (g.N.Nodes.world c.args.nodes.now) coming.role)) in
    subst (λ v. TellsFound c.args.walk.now (found_by c.args.seek) c.seek_seen.result c.seek_seen.new.found (with_lost lost v)) c.visit-seen.ensures.world
    (c.seek_seen.ensures.found lost seen (stands_still lost c.args.walk.now c.args.stage.now (g.N.Nodes.world c.args.nodes.now) (g.N.Nodes.world c.visit-seen.new.nodes) c.visit-seen.ensures.world coming.stands))
