-- The page of a search to the left after a turn on its way to the next leaf, and its role.
use Rattle.std.proofs.Common.{◌≡◌, ℕ, Bool, true, refl, sym, ap, subst, ⊎_elim, Some}
use Rattle.ct_definitions.specs.Pairs.{Pair}
use Rattle.ct_node.specs.declared.reach.Reach.{Reach}
use Rattle.ct_node.specs.declared.target.Target.TheVariants.{Before}
use Rattle.ct_node.specs.Worlds.{World}
use Rattle.ct_tree_laws.specs.declared.walk.Walk.{Walk}
use Rattle.ct_tree_laws.specs.declared.walk.Stage.{Stage}
use Rattle.ct_tree_laws.specs.declared.walk.Stage.TheVariants as stage
use Rattle.ct_tree_laws.specs.declared.left.Way.{Way}
use Rattle.ct_tree_laws.specs.declared.left.Way.TheVariants as way
use Rattle.ct_tree_laws.specs.Stands.{Stands, KeepsAt}
use Rattle.ct_tree_laws.specs.Reached.{page_on, over_of, IsReachedAt}
use Rattle.ct_tree_laws.proofs.Reaches.{kept_at, leaf_at}
use Rattle.ct_tree.specs.Moves.{looked_on}
use Rattle.ct_tree.specs.Rules.{IsNext, GoesLeft}
use Rattle.ct_tree.specs.Roles.{HasRole, way_from}
use Rattle.ct_tree.proofs.RolesWays.{Comes, ComesOver, no_over, comes_to, comes_here, root_comes, comes_right, comes_next, role_at}

-- the page of a search to the left is in its role
pub left_role : (walk : Walk) (w : World) (low : Pair) (or_at : Bool) (way : Way) (reach : Reach) → Stands walk (stage.Left low or_at way) w → IsReachedAt (page_on way) reach w → HasRole (looked_on way) reach w
left_role walk w low or_at way.Start reach here was = tt
left_role walk w low or_at (way.Down page) reach here was = role_at w walk.at here.tree here.leaves here.place.2.0 here.place.2.1 reach page here.is here.place.2.2 was
left_role walk w low or_at (way.Leaf page) reach here was = tt
left_role walk w low or_at (way.Shared page) reach here was = role_at w walk.at here.tree here.leaves true here.place.2.0.0 reach page here.is here.place.2.0.1 was

-- and stands as it was reached after a turn
pub left_comes : (walk : Walk) (w now : World) (low : Pair) (or_at : Bool) (way : Way) (to : Stage) (reach over : Reach) → Stands walk (stage.Left low or_at way) w → Stands walk to now → KeepsAt w now → IsReachedAt (page_on way) reach w → GoesLeft walk w low or_at way to → Comes walk w now (stage.Left low or_at way) reach over to
left_comes walk w now low or_at way.Start to reach over here there keeps was (page, root, is) =
    subst (Comes walk w now (stage.Left low or_at way.Start) reach over) (sym is) (root_comes walk w now (stage.Left low or_at way.Start) page here keeps root)
left_comes walk w now low or_at (way.Down page) to reach over here there keeps was goes =
    ⊎_elim (λ (next, leads, is). subst (Comes walk w now (stage.Left low or_at (way.Down page)) reach over) (sym is) (on next leads)) (λ is. subst (Comes walk w now (stage.Left low or_at (way.Down page)) reach over) (sym is) (found is)) goes
  where
    on : (next : ℕ) → IsNext w (Before low) page next → Comes walk w now (stage.Left low or_at (way.Down page)) reach over (stage.Left low or_at (way.Down next))
    on next leads = comes_to walk w now (stage.Left low or_at (way.Down page)) (stage.Left low or_at (way.Down next)) reach over page next refl refl (kept_at w now (Some page) reach keeps was)
        (λ differ. comes_next w now walk.at here.tree here.leaves here.place.2.0 here.place.2.1 page next (way_from walk (stage.Left low or_at (way.Down page))) here.is here.place.2.2 keeps (Before low) (λ node. refl) leads)

    found : to ≡ stage.Left low or_at (way.Leaf page) → Comes walk w now (stage.Left low or_at (way.Down page)) reach over (stage.Left low or_at (way.Leaf page))
    found is =
        let after = subst (λ at. Stands walk at now) is there in
        comes_here walk w now (stage.Left low or_at (way.Down page)) (stage.Left low or_at (way.Leaf page)) reach over page refl refl (leaf_at now after.tree after.place.2.0 page reach after.place.2.1 (kept_at w now (Some page) reach keeps was))
left_comes walk w now low or_at (way.Leaf page) to reach over here there keeps was is =
    subst (Comes walk w now (stage.Left low or_at (way.Leaf page)) reach over) (sym is) (comes_here walk w now (stage.Left low or_at (way.Leaf page)) (stage.Left low or_at (way.Shared page)) reach over page refl refl (kept_at w now (Some page) reach keeps was))
left_comes walk w now low or_at (way.Shared page) to reach over here there keeps was goes =
    ⊎_elim (λ (next, leads, is). subst (Comes walk w now (stage.Left low or_at (way.Shared page)) reach over) (sym is)
    (comes_to walk w now (stage.Left low or_at (way.Shared page)) (stage.Left low or_at (way.Down next)) reach over page next refl refl (kept_at w now (Some page) reach keeps was)
    (λ differ. comes_right w now walk.at here.tree here.leaves true here.place.2.0.0 page next (way_from walk (stage.Left low or_at (way.Shared page))) here.is here.place.2.0.1 keeps (Before low) (λ node. refl) leads)))
    (λ (lower, begins, is). subst (Comes walk w now (stage.Left low or_at (way.Shared page)) reach over) (sym is) tt) goes

-- it remembers no page above
pub left_over : (walk : Walk) (w now : World) (low : Pair) (or_at : Bool) (way : Way) (to : Stage) (reach over : Reach) → GoesLeft walk w low or_at way to → ComesOver now (stage.Left low or_at way) reach over to
left_over walk w now low or_at way.Start to reach over (page, root, is) = no_over now (stage.Left low or_at way.Start) to reach over (ap over_of is)
left_over walk w now low or_at (way.Down page) to reach over goes = no_over now (stage.Left low or_at (way.Down page)) to reach over (⊎_elim (λ (next, leads, is). ap over_of is) (λ is. ap over_of is) goes)
left_over walk w now low or_at (way.Leaf page) to reach over is = no_over now (stage.Left low or_at (way.Leaf page)) to reach over (ap over_of is)
left_over walk w now low or_at (way.Shared page) to reach over goes = no_over now (stage.Left low or_at (way.Shared page)) to reach over (⊎_elim (λ (next, leads, is). ap over_of is) (λ (lower, begins, is). ap over_of is) goes)
