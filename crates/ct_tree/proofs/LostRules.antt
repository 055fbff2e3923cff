-- What a turn does is told by the pages alone, whichever of them are lost.
use Rattle.std.proofs.Common.{◌≡◌, ℕ, Bool, true, false, List, Option, Some, None, refl, sym, ap, ◌∙◌, subst, inl, inr, ⊎_elim}
use Rattle.ct_disk.specs.declared.turn.Turn.{Turn}
use Rattle.ct_disk.specs.declared.turn.Turn.TheVariants.{Done, More, Busy, Refused}
use Rattle.ct_node.specs.declared.reach.Reach.{Reach}
use Rattle.ct_node.specs.Turns.{OnMore}
use Rattle.ct_node.specs.Worlds.{World, with_lost}
use Rattle.ct_tree_laws.specs.declared.walk.Walk.{Walk}
use Rattle.ct_tree_laws.specs.declared.walk.Stage.{Stage}
use Rattle.ct_tree_laws.specs.declared.walk.Stage.TheVariants as stage
use Rattle.ct_tree_laws.specs.declared.left.Way.{Way}
use Rattle.ct_tree_laws.specs.declared.left.Way.TheVariants as way
use Rattle.ct_tree_laws.specs.declared.rise.Separator.{Separator}
use Rattle.ct_tree_laws.specs.declared.rise.Rise.{Rise}
use Rattle.ct_tree_laws.specs.declared.rise.Rise.TheVariants as rise
use Rattle.ct_definitions.specs.Pairs.{Pair}
use Rattle.ct_tree.specs.Moves.{looked_at}
use Rattle.ct_tree.specs.Rules.{Posts, GoesLeft, GoesUp, Goes, Waits, IsTurned}
use Rattle.ct_tree.specs.declared.roles.Ways.{Ways}
use Rattle.ct_tree.specs.Roles.{HasRole, Comes, seen_in, way_of, way_from, came_by, way_after, finds_leaf}
use Rattle.ct_tree_laws.specs.Reached.{page_of, over_of}

left_lost : (lost : List ℕ) (walk : Walk) (w : World) (low : Pair) (or_at : Bool) (way : Way) (to : Stage) → GoesLeft walk w low or_at way to → GoesLeft walk (with_lost lost w) low or_at way to
left_lost lost walk w low or_at way.Start to goes = goes
left_lost lost walk w low or_at (way.Down page) to goes = goes
left_lost lost walk w low or_at (way.Leaf page) to goes = goes
left_lost lost walk w low or_at (way.Shared page) to goes = goes

posts_lost : (lost : List ℕ) (page : ℕ) (next : Option Separator) (w now : World) → Posts page next w now → Posts page next (with_lost lost w) (with_lost lost now)
posts_lost lost page None w now posts = posts
posts_lost lost page (Some next) w now posts = posts

up_lost : (lost : List ℕ) (walk : Walk) (w now : World) (s : Separator) (rise : Rise) (to : Stage) → GoesUp walk w now s rise to → GoesUp walk (with_lost lost w) (with_lost lost now) s rise to
up_lost lost walk w now s rise.Root to goes = goes
up_lost lost walk w now s (rise.Down page above) to goes = goes
up_lost lost walk w now s (rise.Above page) to goes = goes
up_lost lost walk w now s (rise.Held page next) to goes = ⊎_elim (λ one. inl (posts_lost lost page next w now one.0, one.1)) (λ other. inr other) goes
up_lost lost walk w now s (rise.Full page) to goes = goes
up_lost lost walk w now s (rise.Fresh page right) to goes = goes
up_lost lost walk w now s (rise.Split page right) to goes = goes
up_lost lost walk w now s (rise.Cut page right) to goes = goes
up_lost lost walk w now s rise.Again to goes = goes
up_lost lost walk w now s rise.Named to goes = goes
up_lost lost walk w now s rise.Grow to goes = goes
up_lost lost walk w now s (rise.Crown root) to goes = goes
up_lost lost walk w now s (rise.Crowned root) to goes = goes

goes_lost : (lost : List ℕ) (walk : Walk) (w now : World) (from to : Stage) → Goes walk w now from to → Goes walk (with_lost lost w) (with_lost lost now) from to
goes_lost lost walk w now stage.Start to goes = goes
goes_lost lost walk w now (stage.Down page) to goes = goes
goes_lost lost walk w now (stage.Leaf page) to goes = goes
goes_lost lost walk w now (stage.Held page) to goes = goes
goes_lost lost walk w now (stage.Full page) to goes = goes
goes_lost lost walk w now (stage.Split page right) to goes = goes
goes_lost lost walk w now (stage.Cut page right) to goes = goes
goes_lost lost walk w now (stage.Share page above) to goes = goes
goes_lost lost walk w now (stage.Shared page above) to goes = goes
goes_lost lost walk w now (stage.SharedLeft page) to goes = goes
goes_lost lost walk w now (stage.Left low or_at way) to goes = (goes.0, left_lost lost walk w low or_at way to goes.1)
goes_lost lost walk w now (stage.Post separator rise) to goes = up_lost lost walk w now separator rise to goes
goes_lost lost walk w now stage.Ended to goes = goes

pub rule_lost : {T : Type 0} (lost : List ℕ) (turn : Turn T) (walk : Walk) (w now : World) (before after : ℕ) (from to : Stage) → IsTurned turn walk w now before after from to → IsTurned turn walk (with_lost lost w) (with_lost lost now) before after from to
rule_lost lost (Done answer) walk w now before after from to rule = rule
rule_lost lost More walk w now before after from to rule =
    ⊎_elim (λ (waits : Waits w now before after from to). inl (record { same = waits.same; world = ap (with_lost lost) waits.world; less = waits.less })) (λ goes. inr (goes_lost lost walk w now from to goes)) rule
rule_lost lost (Busy op) walk w now before after from to rule = rule
rule_lost lost (Refused fault) walk w now before after from to rule = (rule.0, ap (with_lost lost) rule.1)

seen_lost : (lost : List ℕ) (w : World) (page : Option ℕ) → seen_in w page ≡ seen_in (with_lost lost w) page
seen_lost lost w None = refl
seen_lost lost w (Some page) = refl

pub comes_lost : (lost : List ℕ) (walk : Walk) (w : World) (from to : Stage) (before after : Ways) → Comes walk w from to before after → Comes walk (with_lost lost w) from to before after
comes_lost lost walk w from to before after comes = (
  comes.0 ∙ ap (λ seen. way_after walk (page_of from) (over_of from) (finds_leaf from) (page_of to) to before.at before.over (way_from walk from seen)) (seen_lost lost w (looked_at from)),
  comes.1,
)

pub comes_lost_if : {T : Type 0} (lost : List ℕ) (turn : Turn T) (walk : Walk) (w : World) (from to : Stage) (before after : Ways) → OnMore turn (Comes walk w from to before after) → OnMore turn (Comes walk (with_lost lost w) from to before after)
comes_lost_if lost (Done answer) walk w from to before after comes = comes
comes_lost_if lost More walk w from to before after comes = comes_lost lost walk w from to before after comes
comes_lost_if lost (Busy op) walk w from to before after comes = comes
comes_lost_if lost (Refused fault) walk w from to before after comes = comes

-- the page that is looked at is in its role whichever pages are lost
pub role_found : (lost : List ℕ) (page : Option ℕ) (reach : Reach) (w : World) → HasRole page reach (with_lost lost w) → HasRole page reach w
role_found lost None reach w role = role
role_found lost (Some page) reach w role = role
