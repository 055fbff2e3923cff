-- What an operation remembers stands after a call of another one.
use Rattle.std.proofs.Common.{◌≡◌, ℕ, suc, Bool, true, false, sym, ◌∙◌, subst, Option, Some, None}
use Rattle.ct_node.specs.declared.target.Target.{Target}
use Rattle.ct_node.specs.Nodes.{NodeValue}
use Rattle.ct_node.specs.Worlds.{World, DefinitionValue, has_fresh, IsTidy}
use Rattle.ct_tree_laws.specs.declared.walk.Stage.{Stage}
use Rattle.ct_tree_laws.specs.declared.walk.Stage.TheVariants.{Start, Down, Leaf, Held, Full, Split, Cut, Share, Shared, Ended, SharedLeft, Left, Post}
use Rattle.ct_tree_laws.specs.Trees.{Tree, IsAt, IsNear}
use Rattle.ct_tree_laws.specs.Stands.{HasNone, HasOnly, IsNearLeaf, IsFull, IsTidyBut, IsReachedBySearch, IsAtStage, Stands, Keeps, IsOnWay, IsSeparator, IsAbove, IsAboveIf, IsChosen, IsHalf, HasBoth, HasDefinition, HasRoot, IsCrown, IsAtRise}
use Rattle.ct_tree_laws.specs.declared.rise.Separator.{Separator}
use Rattle.ct_tree_laws.specs.declared.rise.Rise.{Rise}
use Rattle.ct_tree_laws.specs.declared.rise.Rise.TheVariants as rise
use Rattle.ct_tree_laws.proofs.Taking.{has_latch_from_own}
use Rattle.ct_tree_laws.proofs.Levels.{beside_kept, one_above_kept, IsEven-kept}
use Rattle.ct_tree_laws.proofs.Kept.{IsInRole-kept}
use Rattle.ct_tree_laws.proofs.Steps.{IsStep}
use Rattle.ct_node.specs.declared.target.Target.TheVariants.{Before}
use Rattle.ct_tree_laws.specs.declared.left.Way.{Way}
use Rattle.ct_tree_laws.specs.declared.left.Way.TheVariants as way

module _ (op : ℕ) (w now : World) (step : IsStep op w now) (other : ℕ) (differ : other ≡ op → ⊥) (t : Tree) (target : Target) where
  tidy : IsTidy other w → IsTidy other now
  tidy is page mine = let was : has_fresh other page w ≡ true = sym (step.fresh other page differ) ∙ mine in step.blank other page differ was ∙ is page was

  tidy_but : (right : ℕ) → IsTidyBut other right w → IsTidyBut other right now
  tidy_but right is page mine apart = let was : has_fresh other page w ≡ true = sym (step.fresh other page differ) ∙ mine in step.blank other page differ was ∙ is page was apart

  near : (page : ℕ) → IsNear w t target page → IsNear now t target page
  near page is = (is.0, is.1, step.at t is.0 is.1 page is.2, is.3)

  near_leaf : (page : ℕ) → IsNearLeaf w t target page → IsNearLeaf now t target page
  near_leaf page is = (is.0, step.at t true is.0 page is.1, is.2)

  full : (page : ℕ) (node : NodeValue) → IsFull w t other target page node → IsFull now t other target page node
  full page node is =
      let kept = step.held other page node differ (has_latch_from_own other page w is.owned) (record { is = is.is; linked = is.linked }) in
      record { is = kept.is; owned = step.own other page differ ∙ is.owned; linked = kept.linked; of = is.of; leaf = is.leaf; enough = is.enough; full = is.full }

  reached : (page : ℕ) (above : Bool) → IsReachedBySearch w t other above target page → IsReachedBySearch now t other above target page
  reached page above is = (is.0, step.at t true is.0 page is.1, step.passed other t above target is.0 differ is.2)

  on_way : (goal : Target) (on : Way) → IsOnWay w t other goal on → IsOnWay now t other goal on
  on_way goal way.Start is = tt
  on_way goal (way.Down page) is = (is.0, is.1, step.at t is.0 is.1 page is.2, is.3)
  on_way goal (way.Leaf page) is = (is.0, step.at t true is.0 page is.1, is.2)
  on_way goal (way.Shared page) is = ((is.0.0, step.at t true is.0.0 page is.0.1, is.0.2), step.latch other page differ ∙ is.1)

  none : HasNone other w → HasNone other now
  none is page = step.latch other page differ ∙ is page

  only : (page : ℕ) → HasOnly other page w → HasOnly other page now
  only page is q latched = is q (sym (step.latch other q differ) ∙ latched)

  separator_kept : (separator : Separator) → IsSeparator w t separator → IsSeparator now t separator
  separator_kept separator is = (is.0, step.at t is.0 (Some separator.low) separator.child is.1, is.2, is.3, beside_kept w now separator.left separator.child step.levels is.4)

  above_kept : (separator : Separator) (below page : ℕ) → IsAbove w t separator below page → IsAbove now t separator below page
  above_kept separator below page is = (is.0, step.at t false is.0 page is.1, is.2, one_above_kept w now page below step.levels is.3)

  above_if : (separator : Separator) (below : ℕ) (above : Option ℕ) → IsAboveIf w t separator below above → IsAboveIf now t separator below above
  above_if separator below None is = is
  above_if separator below (Some page) is = above_kept separator below page is

  chosen : (separator : Separator) (page : ℕ) (node : NodeValue) → IsChosen w t other separator page node → IsChosen now t other separator page node
  chosen separator page node is =
      let kept = step.held other page node differ (has_latch_from_own other page w is.owned) (record { is = is.is; linked = is.linked }) in
      record { is = kept.is; owned = step.own other page differ ∙ is.owned; linked = kept.linked; of = is.of; inner = is.inner; within = is.within; level = one_above_kept w now page separator.child step.levels is.level }

  half : (separator : Separator) (page : ℕ) (next : Option Separator) → IsHalf w t other separator page next → IsHalf now t other separator page next
  half separator page None is = is
  half separator page (Some next) is = (separator_kept next is.0, (is.1.0, chosen separator page is.1.0 is.1.1, is.1.2))

  both : (page right : ℕ) → HasBoth other page right w → HasBoth other page right now
  both page right is q latched = is q (sym (step.latch other q differ) ∙ latched)

  definition : (def : DefinitionValue) → HasDefinition w t other def → HasDefinition now t other def
  definition def has = record {
    page = has.page;
    is = step.defined other has.page def differ (has_latch_from_own other has.page w has.owned) has.is;
    file = has.file;
    owned = step.own other has.page differ ∙ has.owned;
    only = only has.page has.only;
  }

  root : (separator : Separator) → HasRoot w t other separator → HasRoot now t other separator
  root separator has = record { def = has.def; row = has.row; has = definition has.def has.has; named = has.named; old = has.old }

  crown : (separator : Separator) (node : NodeValue) → IsCrown w t separator node → IsCrown now t separator node
  crown separator node is = record { first = is.first; rest = is.rest; of = is.of; inner = is.inner; low = is.low; high = is.high; entries = is.entries; old = is.old; role = IsInRole-kept w now t node step.at is.role; even = (is.even.0, step.levels is.even.0 is.first.child is.even.1, IsEven-kept w now (suc is.even.0) node step.levels is.even.2) }

  rise_kept : (separator : Separator) (rise : Rise) → IsAtRise w t other separator rise → IsAtRise now t other separator rise
  rise_kept separator rise.Root is = (tidy is.0, none is.1)
  rise_kept separator (rise.Down page above) is = (tidy is.0, (is.1.0, is.1.1, step.at t is.1.0 is.1.1 page is.1.2, is.1.3), above_if separator page above is.2, none is.3)
  rise_kept separator (rise.Above page) is = (tidy is.0, above_kept separator separator.child page is.1, none is.2)
  rise_kept separator (rise.Held page next) is = (tidy is.0, above_kept separator separator.child page is.1, step.own other page differ ∙ is.2, only page is.3, half separator page next is.4)
  rise_kept separator (rise.Full page) is = (tidy is.0, (is.1.0, (chosen separator page is.1.0 is.1.1.0, is.1.1.1, is.1.1.2)), only page is.2)
  rise_kept separator (rise.Fresh page right) is = (tidy is.0, (is.1.0, (chosen separator page is.1.0 is.1.1.0, is.1.1.1, is.1.1.2)), step.fresh other right differ ∙ is.2, only page is.3)
  rise_kept separator (rise.Split page right) is = (tidy is.0, (is.1.0, (chosen separator page is.1.0 is.1.1.0, is.1.1.1, is.1.1.2)), step.fresh other right differ ∙ is.2, step.own other right differ ∙ is.3, both page right is.4)
  rise_kept separator (rise.Cut page right) is = (tidy_but right is.0, (is.1.0, (chosen separator page is.1.0 is.1.1.0, is.1.1.1, is.1.1.2), step.blank other right differ is.2 ∙ is.1.2), step.fresh other right differ ∙ is.2, step.own other right differ ∙ is.3, both page right is.4)
  rise_kept separator rise.Again is = (tidy is.0, none is.1)
  rise_kept separator rise.Named is = (tidy is.0, (is.1.0, definition is.1.0 is.1.1))
  rise_kept separator rise.Grow is = (tidy is.0, root separator is.1)
  rise_kept separator (rise.Crown page) is = (tidy is.0, root separator is.1, step.fresh other page differ ∙ is.2)
  rise_kept separator (rise.Crowned page) is = (tidy_but page is.0, root separator is.1, step.fresh other page differ ∙ is.2, (is.3.0, step.blank other page differ is.2 ∙ is.3.1, crown separator is.3.0 is.3.2))

  stage_kept : (stage : Stage) → IsAtStage w t other target stage → IsAtStage now t other target stage
  stage_kept Start is = (tidy is.0, none is.1)
  stage_kept (Down page) is = (tidy is.0, near page is.1, none is.2)
  stage_kept (Leaf page) is = (tidy is.0, near_leaf page is.1, none is.2)
  stage_kept (Held page) is = (tidy is.0, near_leaf page is.1, step.own other page differ ∙ is.2, only page is.3)
  stage_kept (Full page) is = (tidy is.0, (is.1.0, full page is.1.0 is.1.1), only page is.2)
  stage_kept (Split page right) is = (tidy is.0, (is.1.0, full page is.1.0 is.1.1), step.fresh other right differ ∙ is.2, only page is.3)
  stage_kept (Cut page right) is = (tidy_but right is.0, (is.1.0, full page is.1.0 is.1.1, step.blank other right differ is.2 ∙ is.1.2), step.fresh other right differ ∙ is.2, only page is.3)
  stage_kept (Share page above) is = (tidy is.0, reached page above is.1)
  stage_kept (Shared page above) is = (tidy is.0, reached page above is.1, step.latch other page differ ∙ is.2)
  stage_kept (SharedLeft page) is = (tidy is.0, near_leaf page is.1, step.latch other page differ ∙ is.2)
  stage_kept (Left low or_at on) is = (tidy is.0, step.left other t or_at target low differ is.1, on_way (Before low) on is.2)
  stage_kept (Post separator rise) is = (separator_kept separator is.0, rise_kept separator rise is.1)
  stage_kept Ended is = none is

-- a step of an operation keeps what all others remember
pub Keeps-step : (op : ℕ) (w now : World) → (IsStep op w now) → Keeps op w now
Keeps-step op w now step other stage differ stands =
    let is = stands in
    let made = step in
    let after = made.tree other.at is.tree is.leaves is.is in
    record {
      tree = is.tree;
      leaves = after.0;
      is = after.1;
      apart = made.apart;
      key = is.key;
      place = stage_kept op w now made other.op differ is.tree other.target stage is.place;
    }
