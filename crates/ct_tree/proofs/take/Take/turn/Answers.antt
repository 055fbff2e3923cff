use Rattle.std.proofs.Common.{refl, sym, ap, ◌∙◌, subst, length, Option, Bool, ℕ, ◌<◌}
use Rattle.ct_disk.specs.declared.turn.Turn.{Turn}
use Rattle.ct_node.specs.Turns.{OnMore}
use Rattle.ct_node.specs.Worlds.{with_lost}
use Rattle.ct_tree.specs.Answers.{TakeGoesOn, TakenKeys, IsTaken}
use Rattle.ct_tree.specs.Moves.{spot_of, moves_after, circle_at}
use Rattle.ct_tree.specs.Roles.{is_more, Comes}
use Rattle.ct_tree.specs.Rules.{IsTurned}
use Rattle.ct_tree.specs.declared.moves.Spot.{Spot}
use Rattle.ct_tree.proofs.Coming.{come_after, more_comes, ways_stay, more_told, comes_with}
use Rattle.ct_tree.proofs.Counting.{circle_bad, turn_counts}
use Rattle.ct_tree.proofs.OneTurn.{rule_with}
use Rattle.ct_tree.proofs.LostRules.{rule_lost, comes_lost_if}
use Rattle.ct_tree.proofs.Turning.{coming_of, goes_with, take_given, taken_with, told_with}
use Rattle.ct_tree.proofs.take.Take.turn.Goals as goal

pub returns-in-Some-clause-turned : goal.returns-in-Some-clause-turned
returns-in-Some-clause-turned g c = λ lost sound remembers. absurd (circle_bad c.args.self.now.walk c.args.self.now.stage c.args.self.now.moves c.pages-pages.result c.in-Some.page (with_lost lost (g.N.Nodes.world c.args.nodes.now)) remembers.stands remembers.counted c.pages-pages.ensures (ap (λ (spot : Option Spot). circle_at spot c.args.self.now.moves c.pages-pages.result) (sym c.spot_of-from.ensures) ∙ sym c.circle_at.ensures ∙ c.in-Some.is))

pub returns-in-Some-clause-counted : goal.returns-in-Some-clause-counted
returns-in-Some-clause-counted g c = λ lost sound remembers. absurd (circle_bad c.args.self.now.walk c.args.self.now.stage c.args.self.now.moves c.pages-pages.result c.in-Some.page (with_lost lost (g.N.Nodes.world c.args.nodes.now)) remembers.stands remembers.counted c.pages-pages.ensures (ap (λ (spot : Option Spot). circle_at spot c.args.self.now.moves c.pages-pages.result) (sym c.spot_of-from.ensures) ∙ sym c.circle_at.ensures ∙ c.in-Some.is))

pub returns-in-Some-clause-come : goal.returns-in-Some-clause-come
returns-in-Some-clause-come g c = λ lost sound remembers. absurd (circle_bad c.args.self.now.walk c.args.self.now.stage c.args.self.now.moves c.pages-pages.result c.in-Some.page (with_lost lost (g.N.Nodes.world c.args.nodes.now)) remembers.stands remembers.counted c.pages-pages.ensures (ap (λ (spot : Option Spot). circle_at spot c.args.self.now.moves c.pages-pages.result) (sym c.spot_of-from.ensures) ∙ sym c.circle_at.ensures ∙ c.in-Some.is))

pub returns-in-Some-clause-given_back : goal.returns-in-Some-clause-given_back
returns-in-Some-clause-given_back g c = λ lost sound remembers. absurd (circle_bad c.args.self.now.walk c.args.self.now.stage c.args.self.now.moves c.pages-pages.result c.in-Some.page (with_lost lost (g.N.Nodes.world c.args.nodes.now)) remembers.stands remembers.counted c.pages-pages.ensures (ap (λ (spot : Option Spot). circle_at spot c.args.self.now.moves c.pages-pages.result) (sym c.spot_of-from.ensures) ∙ sym c.circle_at.ensures ∙ c.in-Some.is))

pub returns-in-Some-clause-found : goal.returns-in-Some-clause-found
returns-in-Some-clause-found g c = λ lost sound remembers. absurd (circle_bad c.args.self.now.walk c.args.self.now.stage c.args.self.now.moves c.pages-pages.result c.in-Some.page (with_lost lost (g.N.Nodes.world c.args.nodes.now)) remembers.stands remembers.counted c.pages-pages.ensures (ap (λ (spot : Option Spot). circle_at spot c.args.self.now.moves c.pages-pages.result) (sym c.spot_of-from.ensures) ∙ sym c.circle_at.ensures ∙ c.in-Some.is))

pub returns-clause-turned : goal.returns-clause-turned
returns-clause-turned g c = λ lost sound remembers.
    let turned = c.take_step-turn.ensures.turned lost sound (coming_of c.args.self.now.walk c.args.self.now.stage c.args.self.now.moves c.args.self.now.ways (with_lost lost (g.N.Nodes.world c.args.nodes.now)) remembers) in
    (turned.0, turned.1, (subst (λ (turn : Turn Bool). TakenKeys c.args.self.now.walk turn (with_lost lost (g.N.Nodes.world c.args.nodes.now)) (with_lost lost (g.N.Nodes.world c.take_step-turn.new.nodes))) (sym c.answer_with.ensures) (taken_with c.take_step-turn.result c.take_step-turn.new.taken c.args.self.now.walk (with_lost lost (g.N.Nodes.world c.args.nodes.now)) (with_lost lost (g.N.Nodes.world c.take_step-turn.new.nodes)) turned.2)))

pub returns-clause-found : goal.returns-clause-found
returns-clause-found g c = λ lost sound remembers.
    (subst (λ (turn : Turn Bool). IsTaken c.args.self.now.walk turn (with_lost lost (g.N.Nodes.world c.args.nodes.now))) (sym c.answer_with.ensures) (told_with c.take_step-turn.result c.take_step-turn.new.taken c.args.self.now.walk (with_lost lost (g.N.Nodes.world c.args.nodes.now)) (c.take_step-turn.ensures.found lost sound (coming_of c.args.self.now.walk c.args.self.now.stage c.args.self.now.moves c.args.self.now.ways (with_lost lost (g.N.Nodes.world c.args.nodes.now)) remembers))))

pub returns-clause-given_back : goal.returns-clause-given_back
returns-clause-given_back g c = λ lost sound remembers. take_given {T = Bool} c.answer_with.result c.args.self.now.walk c.take_step-turn.new.stage (with_lost lost (g.N.Nodes.world c.args.nodes.now)) (with_lost lost (g.N.Nodes.world c.take_step-turn.new.nodes)) (subst (λ (turn : Turn Bool). TakeGoesOn turn c.take_step-turn.new.stage) (sym c.answer_with.ensures) (goes_with c.take_step-turn.result c.take_step-turn.new.taken c.take_step-turn.new.stage c.take_step-turn.ensures.goes)) (c.take_step-turn.ensures.turned lost sound (coming_of c.args.self.now.walk c.args.self.now.stage c.args.self.now.moves c.args.self.now.ways (with_lost lost (g.N.Nodes.world c.args.nodes.now)) remembers)).1

pub returns-clause-counted : goal.returns-clause-counted
returns-clause-counted g c = λ lost sound remembers. turn_counts c.take_step-turn.result c.args.self.now.walk (with_lost lost (g.N.Nodes.world c.args.nodes.now)) (with_lost lost (g.N.Nodes.world c.take_step-turn.new.nodes)) (g.N.Nodes.left c.args.nodes.now) (g.N.Nodes.left c.take_step-turn.new.nodes) c.args.self.now.stage c.take_step-turn.new.stage c.args.self.now.moves c.moves_after-self.result remembers.stands (c.take_step-turn.ensures.turned lost sound (coming_of c.args.self.now.walk c.args.self.now.stage c.args.self.now.moves c.args.self.now.ways (with_lost lost (g.N.Nodes.world c.args.nodes.now)) remembers)).1 (rule_lost lost c.take_step-turn.result c.args.self.now.walk (g.N.Nodes.world c.args.nodes.now) (g.N.Nodes.world c.take_step-turn.new.nodes) (g.N.Nodes.left c.args.nodes.now) (g.N.Nodes.left c.take_step-turn.new.nodes) c.args.self.now.stage c.take_step-turn.new.stage c.take_step-turn.ensures.rule) remembers.counted
    (c.moves_after-self.ensures ∙ ap (λ (spot : Option Spot). moves_after spot c.spot_of.result c.args.self.now.moves) c.spot_of-from.ensures ∙ ap (λ (spot : Option Spot). moves_after (spot_of c.args.self.now.stage) spot c.args.self.now.moves) c.spot_of.ensures)

pub returns-clause-come : goal.returns-clause-come
returns-clause-come g c = λ lost sound remembers. come_after c.answer_with.result c.args.self.now.walk (with_lost lost (g.N.Nodes.world c.args.nodes.now)) (with_lost lost (g.N.Nodes.world c.take_step-turn.new.nodes)) (g.N.Nodes.left c.args.nodes.now) (g.N.Nodes.left c.take_step-turn.new.nodes) c.args.self.now.stage c.take_step-turn.new.stage c.args.self.now.ways c.take_step-turn.new.ways remembers.stands (c.take_step-turn.ensures.turned lost sound (coming_of c.args.self.now.walk c.args.self.now.stage c.args.self.now.moves c.args.self.now.ways (with_lost lost (g.N.Nodes.world c.args.nodes.now)) remembers)).1
    (subst (λ (turn : Turn Bool). IsTurned turn c.args.self.now.walk (with_lost lost (g.N.Nodes.world c.args.nodes.now)) (with_lost lost (g.N.Nodes.world c.take_step-turn.new.nodes)) (g.N.Nodes.left c.args.nodes.now) (g.N.Nodes.left c.take_step-turn.new.nodes) c.args.self.now.stage c.take_step-turn.new.stage) (sym c.answer_with.ensures) (rule_with c.take_step-turn.result c.take_step-turn.new.taken c.args.self.now.walk (with_lost lost (g.N.Nodes.world c.args.nodes.now)) (with_lost lost (g.N.Nodes.world c.take_step-turn.new.nodes)) (g.N.Nodes.left c.args.nodes.now) (g.N.Nodes.left c.take_step-turn.new.nodes) c.args.self.now.stage c.take_step-turn.new.stage (rule_lost lost c.take_step-turn.result c.args.self.now.walk (g.N.Nodes.world c.args.nodes.now) (g.N.Nodes.world c.take_step-turn.new.nodes) (g.N.Nodes.left c.args.nodes.now) (g.N.Nodes.left c.take_step-turn.new.nodes) c.args.self.now.stage c.take_step-turn.new.stage c.take_step-turn.ensures.rule))) remembers.come
    (subst (λ (turn : Turn Bool). OnMore turn (Comes c.args.self.now.walk (with_lost lost (g.N.Nodes.world c.args.nodes.now)) c.args.self.now.stage c.take_step-turn.new.stage c.args.self.now.ways c.take_step-turn.new.ways)) (sym c.answer_with.ensures) (comes_with c.take_step-turn.result c.take_step-turn.new.taken (Comes c.args.self.now.walk (with_lost lost (g.N.Nodes.world c.args.nodes.now)) c.args.self.now.stage c.take_step-turn.new.stage c.args.self.now.ways c.take_step-turn.new.ways) (comes_lost_if lost c.take_step-turn.result c.args.self.now.walk (g.N.Nodes.world c.args.nodes.now) c.args.self.now.stage c.take_step-turn.new.stage c.args.self.now.ways c.take_step-turn.new.ways (more_comes c.take_step-turn.result c.args.self.now.walk (g.N.Nodes.world c.args.nodes.now) c.args.self.now.stage c.take_step-turn.new.stage c.args.self.now.ways c.take_step-turn.new.ways c.take_step-turn.ensures.follows))))
    (λ last. ways_stay c.take_step-turn.result c.args.self.now.walk (g.N.Nodes.world c.args.nodes.now) c.args.self.now.stage c.take_step-turn.new.stage c.args.self.now.ways c.take_step-turn.new.ways c.take_step-turn.ensures.follows (sym (more_told c.take_step-turn.result c.take_step-turn.new.taken) ∙ ap (λ (turn : Turn Bool). is_more turn) (sym c.answer_with.ensures) ∙ last))
