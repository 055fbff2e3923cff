use Rattle.std.proofs.Common.{refl, sym, ap, ◌∙◌, subst, length, Option, Bool, ℕ, ◌<◌}
use Rattle.std.specs.Prelude.{IfSome}
use Rattle.ct_definitions.specs.Pairs.{Pair}
use Rattle.ct_disk.specs.declared.turn.Turn.{Turn}
use Rattle.ct_node.specs.Turns.{OnMore}
use Rattle.ct_node.specs.Worlds.{with_lost, no_mark}
use Rattle.ct_tree.specs.Answers.{IsFound, found_by}
use Rattle.ct_tree.specs.Moves.{spot_of, moves_after, circle_at}
use Rattle.ct_tree.specs.Roles.{is_more, Comes}
use Rattle.ct_tree.specs.Rules.{IsTurned}
use Rattle.ct_tree.specs.declared.moves.Spot.{Spot}
use Rattle.ct_tree.proofs.Coming.{come_after, follows_way, more_comes, ways_stay, more_told, comes_with}
use Rattle.ct_tree.proofs.Counting.{circle_bad, turn_counts}
use Rattle.ct_tree.proofs.Done.{stepped_on}
use Rattle.ct_tree.proofs.Lefts.{may_move, turn_leaves}
use Rattle.ct_tree.proofs.OneTurn.{rule_with, way_turns}
use Rattle.ct_tree.proofs.LostRules.{rule_lost, comes_lost_if}
use Rattle.ct_tree.proofs.Turning.{coming_of, found_with}
use Rattle.ct_tree.proofs.search.Search.turn.Goals as goal

pub returns-in-Some-clause-turned : goal.returns-in-Some-clause-turned
returns-in-Some-clause-turned g c = λ lost sound remembers. absurd (circle_bad c.args.self.now.walk c.args.self.now.stage c.args.self.now.moves c.pages-pages.result c.in-Some.page (with_lost lost (g.N.Nodes.world c.args.nodes.now)) remembers.stands remembers.counted c.pages-pages.ensures (ap (λ (spot : Option Spot). circle_at spot c.args.self.now.moves c.pages-pages.result) (sym c.spot_of-from.ensures) ∙ sym c.circle_at.ensures ∙ c.in-Some.is))

pub returns-in-Some-clause-counted : goal.returns-in-Some-clause-counted
returns-in-Some-clause-counted g c = λ lost sound remembers. absurd (circle_bad c.args.self.now.walk c.args.self.now.stage c.args.self.now.moves c.pages-pages.result c.in-Some.page (with_lost lost (g.N.Nodes.world c.args.nodes.now)) remembers.stands remembers.counted c.pages-pages.ensures (ap (λ (spot : Option Spot). circle_at spot c.args.self.now.moves c.pages-pages.result) (sym c.spot_of-from.ensures) ∙ sym c.circle_at.ensures ∙ c.in-Some.is))

pub returns-in-Some-clause-come : goal.returns-in-Some-clause-come
returns-in-Some-clause-come g c = λ lost sound remembers. absurd (circle_bad c.args.self.now.walk c.args.self.now.stage c.args.self.now.moves c.pages-pages.result c.in-Some.page (with_lost lost (g.N.Nodes.world c.args.nodes.now)) remembers.stands remembers.counted c.pages-pages.ensures (ap (λ (spot : Option Spot). circle_at spot c.args.self.now.moves c.pages-pages.result) (sym c.spot_of-from.ensures) ∙ sym c.circle_at.ensures ∙ c.in-Some.is))

pub returns-in-Some-clause-found : goal.returns-in-Some-clause-found
returns-in-Some-clause-found g c = λ lost sound remembers. absurd (circle_bad c.args.self.now.walk c.args.self.now.stage c.args.self.now.moves c.pages-pages.result c.in-Some.page (with_lost lost (g.N.Nodes.world c.args.nodes.now)) remembers.stands remembers.counted c.pages-pages.ensures (ap (λ (spot : Option Spot). circle_at spot c.args.self.now.moves c.pages-pages.result) (sym c.spot_of-from.ensures) ∙ sym c.circle_at.ensures ∙ c.in-Some.is))

pub returns-clause-turned : goal.returns-clause-turned
returns-clause-turned g c = λ lost sound remembers.
    let first = c.seek_step-turn.ensures.turned lost sound (coming_of c.args.self.now.walk c.args.self.now.stage c.args.self.now.moves c.args.self.now.ways (with_lost lost (g.N.Nodes.world c.args.nodes.now)) remembers) in
    let next = c.give_way.ensures.turned lost first.0 first.1.stands in
    (next.0, stepped_on c.args.self.now.walk c.seek_step-turn.new.stage c.give_way.new.stage (with_lost lost (g.N.Nodes.world c.args.nodes.now)) (with_lost lost (g.N.Nodes.world c.seek_step-turn.new.nodes)) (with_lost lost (g.N.Nodes.world c.give_way.new.nodes)) first.1 next.1, λ at keys chain. next.2 at keys (first.2 at keys chain))

pub returns-clause-goes : goal.returns-clause-goes
returns-clause-goes g c = g.met.N.Nodes.goes_then c.args.nodes.now c.seek_step-turn.new.nodes c.give_way.new.nodes no_mark c.seek_step-turn.ensures.goes c.give_way.ensures.goes

pub returns-clause-found : goal.returns-clause-found
returns-clause-found g c = λ lost sound remembers.
    (subst (λ (turn : Turn (Option Pair)). IsFound c.args.self.now.walk (found_by c.args.self.now.seek) turn (with_lost lost (g.N.Nodes.world c.args.nodes.now))) (sym c.answer_with.ensures) (found_with c.seek_step-turn.result c.seek_step-turn.new.found c.args.self.now.walk (found_by c.args.self.now.seek) (with_lost lost (g.N.Nodes.world c.args.nodes.now)) (c.seek_step-turn.ensures.found lost sound (coming_of c.args.self.now.walk c.args.self.now.stage c.args.self.now.moves c.args.self.now.ways (with_lost lost (g.N.Nodes.world c.args.nodes.now)) remembers))))

pub returns-clause-counted : goal.returns-clause-counted
returns-clause-counted g c = λ lost sound remembers. turn_counts c.seek_step-turn.result c.args.self.now.walk (with_lost lost (g.N.Nodes.world c.args.nodes.now)) (with_lost lost (g.N.Nodes.world c.give_way.new.nodes)) (g.N.Nodes.left c.args.nodes.now) (g.N.Nodes.left c.give_way.new.nodes) c.args.self.now.stage c.give_way.new.stage c.args.self.now.moves c.moves_after-self.result remembers.stands (stepped_on c.args.self.now.walk c.seek_step-turn.new.stage c.give_way.new.stage (with_lost lost (g.N.Nodes.world c.args.nodes.now)) (with_lost lost (g.N.Nodes.world c.seek_step-turn.new.nodes)) (with_lost lost (g.N.Nodes.world c.give_way.new.nodes)) (c.seek_step-turn.ensures.turned lost sound (coming_of c.args.self.now.walk c.args.self.now.stage c.args.self.now.moves c.args.self.now.ways (with_lost lost (g.N.Nodes.world c.args.nodes.now)) remembers)).1 (c.give_way.ensures.turned lost (c.seek_step-turn.ensures.turned lost sound (coming_of c.args.self.now.walk c.args.self.now.stage c.args.self.now.moves c.args.self.now.ways (with_lost lost (g.N.Nodes.world c.args.nodes.now)) remembers)).0 (c.seek_step-turn.ensures.turned lost sound (coming_of c.args.self.now.walk c.args.self.now.stage c.args.self.now.moves c.args.self.now.ways (with_lost lost (g.N.Nodes.world c.args.nodes.now)) remembers)).1.stands).1) (rule_lost lost c.seek_step-turn.result c.args.self.now.walk (g.N.Nodes.world c.args.nodes.now) (g.N.Nodes.world c.give_way.new.nodes) (g.N.Nodes.left c.args.nodes.now) (g.N.Nodes.left c.give_way.new.nodes) c.args.self.now.stage c.give_way.new.stage (way_turns c.seek_step-turn.result c.args.self.now.walk (g.N.Nodes.world c.args.nodes.now) (g.N.Nodes.world c.seek_step-turn.new.nodes) (g.N.Nodes.world c.give_way.new.nodes) (g.N.Nodes.left c.args.nodes.now) (g.N.Nodes.left c.seek_step-turn.new.nodes) (g.N.Nodes.left c.give_way.new.nodes) c.args.self.now.stage c.seek_step-turn.new.stage c.give_way.new.stage c.seek_step-turn.ensures.rule c.give_way.ensures.gives_way)) remembers.counted
    (c.moves_after-self.ensures ∙ ap (λ (spot : Option Spot). moves_after spot c.spot_of.result c.args.self.now.moves) c.spot_of-from.ensures ∙ ap (λ (spot : Option Spot). moves_after (spot_of c.args.self.now.stage) spot c.args.self.now.moves) c.spot_of.ensures)

pub returns-clause-come : goal.returns-clause-come
returns-clause-come g c = λ lost sound remembers.
    let follows = follows_way c.seek_step-turn.result c.args.self.now.walk (g.N.Nodes.world c.args.nodes.now) (g.N.Nodes.world c.seek_step-turn.new.nodes) (g.N.Nodes.world c.give_way.new.nodes) (g.N.Nodes.left c.seek_step-turn.new.nodes) (g.N.Nodes.left c.give_way.new.nodes) c.args.self.now.stage c.seek_step-turn.new.stage c.give_way.new.stage c.args.self.now.ways c.seek_step-turn.new.ways c.seek_step-turn.ensures.follows c.give_way.ensures.gives_way in
    come_after c.answer_with.result c.args.self.now.walk (with_lost lost (g.N.Nodes.world c.args.nodes.now)) (with_lost lost (g.N.Nodes.world c.give_way.new.nodes)) (g.N.Nodes.left c.args.nodes.now) (g.N.Nodes.left c.give_way.new.nodes) c.args.self.now.stage c.give_way.new.stage c.args.self.now.ways c.seek_step-turn.new.ways remembers.stands (stepped_on c.args.self.now.walk c.seek_step-turn.new.stage c.give_way.new.stage (with_lost lost (g.N.Nodes.world c.args.nodes.now)) (with_lost lost (g.N.Nodes.world c.seek_step-turn.new.nodes)) (with_lost lost (g.N.Nodes.world c.give_way.new.nodes)) (c.seek_step-turn.ensures.turned lost sound (coming_of c.args.self.now.walk c.args.self.now.stage c.args.self.now.moves c.args.self.now.ways (with_lost lost (g.N.Nodes.world c.args.nodes.now)) remembers)).1 (c.give_way.ensures.turned lost (c.seek_step-turn.ensures.turned lost sound (coming_of c.args.self.now.walk c.args.self.now.stage c.args.self.now.moves c.args.self.now.ways (with_lost lost (g.N.Nodes.world c.args.nodes.now)) remembers)).0 (c.seek_step-turn.ensures.turned lost sound (coming_of c.args.self.now.walk c.args.self.now.stage c.args.self.now.moves c.args.self.now.ways (with_lost lost (g.N.Nodes.world c.args.nodes.now)) remembers)).1.stands).1)
    (subst (λ (turn : Turn (Option Pair)). IsTurned turn c.args.self.now.walk (with_lost lost (g.N.Nodes.world c.args.nodes.now)) (with_lost lost (g.N.Nodes.world c.give_way.new.nodes)) (g.N.Nodes.left c.args.nodes.now) (g.N.Nodes.left c.give_way.new.nodes) c.args.self.now.stage c.give_way.new.stage) (sym c.answer_with.ensures) (rule_with c.seek_step-turn.result c.seek_step-turn.new.found c.args.self.now.walk (with_lost lost (g.N.Nodes.world c.args.nodes.now)) (with_lost lost (g.N.Nodes.world c.give_way.new.nodes)) (g.N.Nodes.left c.args.nodes.now) (g.N.Nodes.left c.give_way.new.nodes) c.args.self.now.stage c.give_way.new.stage (rule_lost lost c.seek_step-turn.result c.args.self.now.walk (g.N.Nodes.world c.args.nodes.now) (g.N.Nodes.world c.give_way.new.nodes) (g.N.Nodes.left c.args.nodes.now) (g.N.Nodes.left c.give_way.new.nodes) c.args.self.now.stage c.give_way.new.stage (way_turns c.seek_step-turn.result c.args.self.now.walk (g.N.Nodes.world c.args.nodes.now) (g.N.Nodes.world c.seek_step-turn.new.nodes) (g.N.Nodes.world c.give_way.new.nodes) (g.N.Nodes.left c.args.nodes.now) (g.N.Nodes.left c.seek_step-turn.new.nodes) (g.N.Nodes.left c.give_way.new.nodes) c.args.self.now.stage c.seek_step-turn.new.stage c.give_way.new.stage c.seek_step-turn.ensures.rule c.give_way.ensures.gives_way)))) remembers.come
    (subst (λ (turn : Turn (Option Pair)). OnMore turn (Comes c.args.self.now.walk (with_lost lost (g.N.Nodes.world c.args.nodes.now)) c.args.self.now.stage c.give_way.new.stage c.args.self.now.ways c.seek_step-turn.new.ways)) (sym c.answer_with.ensures) (comes_with c.seek_step-turn.result c.seek_step-turn.new.found (Comes c.args.self.now.walk (with_lost lost (g.N.Nodes.world c.args.nodes.now)) c.args.self.now.stage c.give_way.new.stage c.args.self.now.ways c.seek_step-turn.new.ways) (comes_lost_if lost c.seek_step-turn.result c.args.self.now.walk (g.N.Nodes.world c.args.nodes.now) c.args.self.now.stage c.give_way.new.stage c.args.self.now.ways c.seek_step-turn.new.ways (more_comes c.seek_step-turn.result c.args.self.now.walk (g.N.Nodes.world c.args.nodes.now) c.args.self.now.stage c.give_way.new.stage c.args.self.now.ways c.seek_step-turn.new.ways follows))))
    (λ last. ways_stay c.seek_step-turn.result c.args.self.now.walk (g.N.Nodes.world c.args.nodes.now) c.args.self.now.stage c.give_way.new.stage c.args.self.now.ways c.seek_step-turn.new.ways follows (sym (more_told c.seek_step-turn.result c.seek_step-turn.new.found) ∙ ap (λ (turn : Turn (Option Pair)). is_more turn) (sym c.answer_with.ensures) ∙ last))

pub returns-clause-left : goal.returns-clause-left
returns-clause-left g c = turn_leaves c.answer_with.result c.args.self.now.walk (g.N.Nodes.world c.args.nodes.now) (g.N.Nodes.world c.give_way.new.nodes) (g.N.Nodes.left c.args.nodes.now) (g.N.Nodes.left c.give_way.new.nodes) c.args.self.now.stage c.give_way.new.stage c.args.self.now.moves c.moves_after-self.result (subst (λ (turn : Turn (Option Pair)). IsTurned turn c.args.self.now.walk (g.N.Nodes.world c.args.nodes.now) (g.N.Nodes.world c.give_way.new.nodes) (g.N.Nodes.left c.args.nodes.now) (g.N.Nodes.left c.give_way.new.nodes) c.args.self.now.stage c.give_way.new.stage) (sym c.answer_with.ensures) (rule_with c.seek_step-turn.result c.seek_step-turn.new.found c.args.self.now.walk (g.N.Nodes.world c.args.nodes.now) (g.N.Nodes.world c.give_way.new.nodes) (g.N.Nodes.left c.args.nodes.now) (g.N.Nodes.left c.give_way.new.nodes) c.args.self.now.stage c.give_way.new.stage (way_turns c.seek_step-turn.result c.args.self.now.walk (g.N.Nodes.world c.args.nodes.now) (g.N.Nodes.world c.seek_step-turn.new.nodes) (g.N.Nodes.world c.give_way.new.nodes) (g.N.Nodes.left c.args.nodes.now) (g.N.Nodes.left c.seek_step-turn.new.nodes) (g.N.Nodes.left c.give_way.new.nodes) c.args.self.now.stage c.seek_step-turn.new.stage c.give_way.new.stage c.seek_step-turn.ensures.rule c.give_way.ensures.gives_way)))
    (subst (λ (spot : Option Spot). IfSome spot (λ _. c.args.self.now.moves < length (g.N.Nodes.world c.args.nodes.now).pages)) c.spot_of-from.ensures (subst (λ (n : ℕ). IfSome c.spot_of-from.result (λ _. c.args.self.now.moves < n)) c.pages-pages.ensures (may_move c.spot_of-from.result c.args.self.now.moves c.pages-pages.result (λ page is. c.in_default.not-Some page (c.circle_at.ensures ∙ is)))))
    (c.moves_after-self.ensures ∙ ap (λ (spot : Option Spot). moves_after spot c.spot_of.result c.args.self.now.moves) c.spot_of-from.ensures ∙ ap (λ (spot : Option Spot). moves_after (spot_of c.args.self.now.stage) spot c.args.self.now.moves) c.spot_of.ensures)
