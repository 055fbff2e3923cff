use Rattle.std.proofs.Common.{refl, sym, ap, ◌∙◌, subst, length, Option, Bool, ℕ, ◌<◌}
use Rattle.std.specs.Prelude.{IfSome}
use Rattle.ct_node.specs.Worlds.{with_lost}
use Rattle.ct_tree.specs.Moves.{spot_of, moves_after, circle_at}
use Rattle.ct_tree.specs.declared.moves.Spot.{Spot}
use Rattle.ct_tree.proofs.Coming.{come_after, more_comes, ways_stay}
use Rattle.ct_tree.proofs.Counting.{circle_bad, turn_counts}
use Rattle.ct_tree.proofs.Lefts.{may_move, turn_leaves}
use Rattle.ct_tree.proofs.LostRules.{rule_lost, comes_lost_if}
use Rattle.ct_tree.proofs.Turning.{coming_of, put_given}
use Rattle.ct_tree.proofs.put.Put.turn.Goals as goal

pub returns-in-Some-clause-turned : goal.returns-in-Some-clause-turned
returns-in-Some-clause-turned g c = λ lost sound remembers. absurd (circle_bad c.args.self.now.walk c.args.self.now.stage c.args.self.now.moves c.pages-pages.result c.in-Some.page (with_lost lost (g.N.Nodes.world c.args.nodes.now)) remembers.stands remembers.counted c.pages-pages.ensures (ap (λ (spot : Option Spot). circle_at spot c.args.self.now.moves c.pages-pages.result) (sym c.spot_of-from.ensures) ∙ sym c.circle_at.ensures ∙ c.in-Some.is))

pub returns-in-Some-clause-counted : goal.returns-in-Some-clause-counted
returns-in-Some-clause-counted g c = λ lost sound remembers. absurd (circle_bad c.args.self.now.walk c.args.self.now.stage c.args.self.now.moves c.pages-pages.result c.in-Some.page (with_lost lost (g.N.Nodes.world c.args.nodes.now)) remembers.stands remembers.counted c.pages-pages.ensures (ap (λ (spot : Option Spot). circle_at spot c.args.self.now.moves c.pages-pages.result) (sym c.spot_of-from.ensures) ∙ sym c.circle_at.ensures ∙ c.in-Some.is))

pub returns-in-Some-clause-come : goal.returns-in-Some-clause-come
returns-in-Some-clause-come g c = λ lost sound remembers. absurd (circle_bad c.args.self.now.walk c.args.self.now.stage c.args.self.now.moves c.pages-pages.result c.in-Some.page (with_lost lost (g.N.Nodes.world c.args.nodes.now)) remembers.stands remembers.counted c.pages-pages.ensures (ap (λ (spot : Option Spot). circle_at spot c.args.self.now.moves c.pages-pages.result) (sym c.spot_of-from.ensures) ∙ sym c.circle_at.ensures ∙ c.in-Some.is))

pub returns-in-Some-clause-given_back : goal.returns-in-Some-clause-given_back
returns-in-Some-clause-given_back g c = λ lost sound remembers. absurd (circle_bad c.args.self.now.walk c.args.self.now.stage c.args.self.now.moves c.pages-pages.result c.in-Some.page (with_lost lost (g.N.Nodes.world c.args.nodes.now)) remembers.stands remembers.counted c.pages-pages.ensures (ap (λ (spot : Option Spot). circle_at spot c.args.self.now.moves c.pages-pages.result) (sym c.spot_of-from.ensures) ∙ sym c.circle_at.ensures ∙ c.in-Some.is))

pub returns-in-Some-clause-bears : goal.returns-in-Some-clause-bears
returns-in-Some-clause-bears g c = λ lost sound remembers. absurd (circle_bad c.args.self.now.walk c.args.self.now.stage c.args.self.now.moves c.pages-pages.result c.in-Some.page (with_lost lost (g.N.Nodes.world c.args.nodes.now)) remembers.stands remembers.counted c.pages-pages.ensures (ap (λ (spot : Option Spot). circle_at spot c.args.self.now.moves c.pages-pages.result) (sym c.spot_of-from.ensures) ∙ sym c.circle_at.ensures ∙ c.in-Some.is))

pub returns-clause-turned : goal.returns-clause-turned
returns-clause-turned g c = λ lost sound remembers. c.put_step-turn.ensures.turned lost sound (coming_of c.args.self.now.walk c.args.self.now.stage c.args.self.now.moves c.args.self.now.ways (with_lost lost (g.N.Nodes.world c.args.nodes.now)) remembers)

pub returns-clause-bears : goal.returns-clause-bears
returns-clause-bears g c = λ lost sound remembers. c.put_step-turn.ensures.bears lost sound (coming_of c.args.self.now.walk c.args.self.now.stage c.args.self.now.moves c.args.self.now.ways (with_lost lost (g.N.Nodes.world c.args.nodes.now)) remembers)

pub returns-clause-given_back : goal.returns-clause-given_back
returns-clause-given_back g c = λ lost sound remembers. put_given c.put_step-turn.result c.args.self.now.walk c.put_step-turn.new.stage (with_lost lost (g.N.Nodes.world c.args.nodes.now)) (with_lost lost (g.N.Nodes.world c.put_step-turn.new.nodes)) c.put_step-turn.ensures.goes (c.put_step-turn.ensures.turned lost sound (coming_of c.args.self.now.walk c.args.self.now.stage c.args.self.now.moves c.args.self.now.ways (with_lost lost (g.N.Nodes.world c.args.nodes.now)) remembers)).1

pub returns-clause-counted : goal.returns-clause-counted
returns-clause-counted g c = λ lost sound remembers. turn_counts c.put_step-turn.result c.args.self.now.walk (with_lost lost (g.N.Nodes.world c.args.nodes.now)) (with_lost lost (g.N.Nodes.world c.put_step-turn.new.nodes)) (g.N.Nodes.left c.args.nodes.now) (g.N.Nodes.left c.put_step-turn.new.nodes) c.args.self.now.stage c.put_step-turn.new.stage c.args.self.now.moves c.moves_after-self.result remembers.stands (c.put_step-turn.ensures.turned lost sound (coming_of c.args.self.now.walk c.args.self.now.stage c.args.self.now.moves c.args.self.now.ways (with_lost lost (g.N.Nodes.world c.args.nodes.now)) remembers)).1 (rule_lost lost c.put_step-turn.result c.args.self.now.walk (g.N.Nodes.world c.args.nodes.now) (g.N.Nodes.world c.put_step-turn.new.nodes) (g.N.Nodes.left c.args.nodes.now) (g.N.Nodes.left c.put_step-turn.new.nodes) c.args.self.now.stage c.put_step-turn.new.stage c.put_step-turn.ensures.rule) remembers.counted
    (c.moves_after-self.ensures ∙ ap (λ (spot : Option Spot). moves_after spot c.spot_of.result c.args.self.now.moves) c.spot_of-from.ensures ∙ ap (λ (spot : Option Spot). moves_after (spot_of c.args.self.now.stage) spot c.args.self.now.moves) c.spot_of.ensures)

pub returns-clause-come : goal.returns-clause-come
returns-clause-come g c = λ lost sound remembers. come_after c.put_step-turn.result c.args.self.now.walk (with_lost lost (g.N.Nodes.world c.args.nodes.now)) (with_lost lost (g.N.Nodes.world c.put_step-turn.new.nodes)) (g.N.Nodes.left c.args.nodes.now) (g.N.Nodes.left c.put_step-turn.new.nodes) c.args.self.now.stage c.put_step-turn.new.stage c.args.self.now.ways c.put_step-turn.new.ways remembers.stands (c.put_step-turn.ensures.turned lost sound (coming_of c.args.self.now.walk c.args.self.now.stage c.args.self.now.moves c.args.self.now.ways (with_lost lost (g.N.Nodes.world c.args.nodes.now)) remembers)).1 (rule_lost lost c.put_step-turn.result c.args.self.now.walk (g.N.Nodes.world c.args.nodes.now) (g.N.Nodes.world c.put_step-turn.new.nodes) (g.N.Nodes.left c.args.nodes.now) (g.N.Nodes.left c.put_step-turn.new.nodes) c.args.self.now.stage c.put_step-turn.new.stage c.put_step-turn.ensures.rule) remembers.come
    (comes_lost_if lost c.put_step-turn.result c.args.self.now.walk (g.N.Nodes.world c.args.nodes.now) c.args.self.now.stage c.put_step-turn.new.stage c.args.self.now.ways c.put_step-turn.new.ways (more_comes c.put_step-turn.result c.args.self.now.walk (g.N.Nodes.world c.args.nodes.now) c.args.self.now.stage c.put_step-turn.new.stage c.args.self.now.ways c.put_step-turn.new.ways c.put_step-turn.ensures.follows))
    (ways_stay c.put_step-turn.result c.args.self.now.walk (g.N.Nodes.world c.args.nodes.now) c.args.self.now.stage c.put_step-turn.new.stage c.args.self.now.ways c.put_step-turn.new.ways c.put_step-turn.ensures.follows)

pub returns-clause-left : goal.returns-clause-left
returns-clause-left g c = turn_leaves c.put_step-turn.result c.args.self.now.walk (g.N.Nodes.world c.args.nodes.now) (g.N.Nodes.world c.put_step-turn.new.nodes) (g.N.Nodes.left c.args.nodes.now) (g.N.Nodes.left c.put_step-turn.new.nodes) c.args.self.now.stage c.put_step-turn.new.stage c.args.self.now.moves c.moves_after-self.result c.put_step-turn.ensures.rule
    (subst (λ (spot : Option Spot). IfSome spot (λ _. c.args.self.now.moves < length (g.N.Nodes.world c.args.nodes.now).pages)) c.spot_of-from.ensures (subst (λ (n : ℕ). IfSome c.spot_of-from.result (λ _. c.args.self.now.moves < n)) c.pages-pages.ensures (may_move c.spot_of-from.result c.args.self.now.moves c.pages-pages.result (λ page is. c.in_default.not-Some page (c.circle_at.ensures ∙ is)))))
    (c.moves_after-self.ensures ∙ ap (λ (spot : Option Spot). moves_after spot c.spot_of.result c.args.self.now.moves) c.spot_of-from.ensures ∙ ap (λ (spot : Option Spot). moves_after (spot_of c.args.self.now.stage) spot c.args.self.now.moves) c.spot_of.ensures)
