-- The page of an operation after any turn stands as it was reached, and is in its role.
use Rattle.std.proofs.Common.{◌≡◌, ℕ, true, refl, sym, ap, ◌∙◌, subst, ⊎_elim, length, Option, Some, None}
use Rattle.ct_node.specs.declared.reach.Reach.{Reach}
use Rattle.ct_node.specs.declared.target.Target.TheVariants.{Last}
use Rattle.ct_node.specs.Worlds.{World}
use Rattle.ct_tree_laws.specs.declared.walk.Walk.{Walk}
use Rattle.ct_tree_laws.specs.declared.walk.Stage.{Stage}
use Rattle.ct_tree_laws.specs.declared.walk.Stage.TheVariants as stage
use Rattle.ct_tree_laws.specs.Stands.{Stands, Stepped, KeepsAt}
use Rattle.ct_tree_laws.specs.Reached.{page_of, over_of, IsReachedAt, IsReached, IsOver}
use Rattle.ct_tree_laws.proofs.Reaches.{kept_at, leaf_at}
use Rattle.ct_tree.specs.Moves.{looked_at}
use Rattle.ct_tree.specs.Rules.{IsNext, Goes}
use Rattle.ct_tree.specs.Roles.{HasRole, CameOver, way_from, way_here, came_by}
use Rattle.ct_tree.proofs.RolesWays.{Comes, ComesOver, no_over, comes_to, comes_here, root_comes, comes_right, comes_next, role_at, role_held}
use Rattle.ct_tree.proofs.RolesLeft.{left_role, left_comes, left_over}
use Rattle.ct_tree.proofs.RolesPost.{rise_role, rise_comes, rise_over}

-- a page that an operation looks at is in its role
stage_role : (walk : Walk) (w : World) (at : Stage) (reach : Reach) → Stands walk at w → IsReachedAt (page_of at) reach w → HasRole (looked_at at) reach w
stage_role walk w stage.Start reach here was = tt
stage_role walk w (stage.Down page) reach here was = role_at w walk.at here.tree here.leaves here.place.1.0 here.place.1.1 reach page here.is here.place.1.2 was
stage_role walk w (stage.Leaf page) reach here was = tt
stage_role walk w (stage.Held page) reach here was = role_at w walk.at here.tree here.leaves true here.place.1.0 reach page here.is here.place.1.1 was
stage_role walk w (stage.Full page) reach here was = tt
stage_role walk w (stage.Split page right) reach here was =
    let known = here.place.1.1 in
    role_held w walk.at here.tree here.leaves here.place.1.0 reach page here.is known.is known.of known.linked was
stage_role walk w (stage.Cut page right) reach here was =
    let known = here.place.1.1 in
    role_held w walk.at here.tree here.leaves here.place.1.0 reach page here.is known.is known.of known.linked was
stage_role walk w (stage.Share page above) reach here was = tt
stage_role walk w (stage.Shared page above) reach here was = role_at w walk.at here.tree here.leaves true here.place.1.0 reach page here.is here.place.1.1 was
stage_role walk w (stage.SharedLeft page) reach here was = role_at w walk.at here.tree here.leaves true here.place.1.0 reach page here.is here.place.1.1 was
stage_role walk w (stage.Left low or_at way) reach here was = left_role walk w low or_at way reach here was
stage_role walk w (stage.Post separator rise) reach here was = rise_role walk w separator rise reach here was
stage_role walk w stage.Ended reach here was = tt

pub has_role : (walk : Walk) (w : World) (at : Stage) (reach : Reach) → Stands walk at w → IsReached at reach w → HasRole (looked_at at) reach w
has_role walk w at reach stands reached = stage_role walk w at reach stands reached

-- on the way to the leaf
down_comes : (walk : Walk) (w now : World) (page next : ℕ) (reach over : Reach) → Stands walk (stage.Down page) w → KeepsAt w now → IsReachedAt (Some page) reach w → IsNext w walk.target page next → Comes walk w now (stage.Down page) reach over (stage.Down next)
down_comes walk w now page next reach over here keeps was leads =
    comes_to walk w now (stage.Down page) (stage.Down next) reach over page next refl refl (kept_at w now (Some page) reach keeps was)
    (λ differ. comes_next w now walk.at here.tree here.leaves here.place.1.0 here.place.1.1 page next (way_from walk (stage.Down page)) here.is here.place.1.2 keeps walk.target (λ node. refl) leads)

found_comes : (walk : Walk) (w now : World) (page : ℕ) (reach over : Reach) → Stands walk (stage.Leaf page) now → KeepsAt w now → IsReachedAt (Some page) reach w → Comes walk w now (stage.Down page) reach over (stage.Leaf page)
found_comes walk w now page reach over there keeps was = comes_here walk w now (stage.Down page) (stage.Leaf page) reach over page refl refl (leaf_at now there.tree there.place.1.0 page reach there.place.1.1 (kept_at w now (Some page) reach keeps was))

-- the page of an operation stands as it was reached after a turn
goes_comes : (walk : Walk) (w now : World) (from to : Stage) (reach over : Reach) → Stands walk from w → Stands walk to now → KeepsAt w now → IsReachedAt (page_of from) reach w → IsReachedAt (over_of from) over w → Goes walk w now from to → Comes walk w now from reach over to
goes_comes walk w now stage.Start to reach over here there keeps was known (same, (page, root, is)) = subst (Comes walk w now stage.Start reach over) (sym is) (root_comes walk w now stage.Start page here keeps root)
goes_comes walk w now (stage.Down page) to reach over here there keeps was known (same, goes) =
    ⊎_elim (λ (next, leads, is). subst (Comes walk w now (stage.Down page) reach over) (sym is) (down_comes walk w now page next reach over here keeps was leads))
    (λ is. subst (Comes walk w now (stage.Down page) reach over) (sym is) (found_comes walk w now page reach over (subst (λ at. Stands walk at now) is there) keeps was)) goes
goes_comes walk w now (stage.Leaf page) to reach over here there keeps was known (same, goes) =
    ⊎_elim (λ is. subst (Comes walk w now (stage.Leaf page) reach over) (sym is) (stays (stage.Held page) refl kept))
    (λ on. ⊎_elim (λ (above, is). subst (Comes walk w now (stage.Leaf page) reach over) (sym is) (stays (stage.Shared page above) refl kept)) (λ is. subst (Comes walk w now (stage.Leaf page) reach over) (sym is) (stays (stage.SharedLeft page) refl kept)) on) goes
  where
    kept : IsReachedAt (Some page) reach now
    kept = kept_at w now (Some page) reach keeps was

    stays : (at : Stage) → page_of at ≡ Some page → IsReachedAt (Some page) (way_here true at reach) now → Comes walk w now (stage.Leaf page) reach over at
    stays at is here = comes_here walk w now (stage.Leaf page) at reach over page refl is here
goes_comes walk w now (stage.Held page) to reach over here there keeps was known (same, goes) =
    ⊎_elim (λ (next, leads, is). subst (Comes walk w now (stage.Held page) reach over) (sym is)
    (comes_to walk w now (stage.Held page) (stage.Down next) reach over page next refl refl (kept_at w now (Some page) reach keeps was)
    (λ differ. comes_right w now walk.at here.tree here.leaves true here.place.1.0 page next (way_from walk (stage.Held page)) here.is here.place.1.1 keeps walk.target (λ node. refl) leads)))
    (λ is. subst (Comes walk w now (stage.Held page) reach over) (sym is) (comes_here walk w now (stage.Held page) (stage.Full page) reach over page refl refl (kept_at w now (Some page) reach keeps was))) goes
goes_comes walk w now (stage.Full page) to reach over here there keeps was known (more, is) =
    subst (Comes walk w now (stage.Full page) reach over) (sym is) (comes_here walk w now (stage.Full page) (stage.Split page (length w.pages)) reach over page refl refl (kept_at w now (Some page) reach keeps was))
goes_comes walk w now (stage.Split page right) to reach over here there keeps was known (wrote, is) =
    subst (Comes walk w now (stage.Split page right) reach over) (sym is) (comes_here walk w now (stage.Split page right) (stage.Cut page right) reach over page refl refl (kept_at w now (Some page) reach keeps was))
goes_comes walk w now (stage.Cut page right) to reach over here there keeps was known (cuts, (separator, is)) = subst (Comes walk w now (stage.Cut page right) reach over) (sym is) tt
goes_comes walk w now (stage.Share page above) to reach over here there keeps was known (same, is) =
    subst (Comes walk w now (stage.Share page above) reach over) (sym is) (comes_here walk w now (stage.Share page above) (stage.Shared page above) reach over page refl refl (kept_at w now (Some page) reach keeps was))
goes_comes walk w now (stage.Shared page above) to reach over here there keeps was known (same, (next, goes)) =
    ⊎_elim (λ (leads, is). subst (Comes walk w now (stage.Shared page above) reach over) (sym is)
    (comes_to walk w now (stage.Shared page above) (stage.Down next) reach over page next refl refl (kept_at w now (Some page) reach keeps was)
    (λ differ. comes_right w now walk.at here.tree here.leaves true here.place.1.0 page next (way_from walk (stage.Shared page above)) here.is here.place.1.1 keeps walk.target (λ node. refl) leads)))
    (λ (leads, is). subst (Comes walk w now (stage.Shared page above) reach over) (sym is)
    (comes_to walk w now (stage.Shared page above) (stage.Share next above) reach over page next refl refl (kept_at w now (Some page) reach keeps was)
    (λ differ. comes_right w now walk.at here.tree here.leaves true here.place.1.0 page next (way_from walk (stage.Shared page above)) here.is here.place.1.1 keeps Last (λ node. refl) leads))) goes
goes_comes walk w now (stage.SharedLeft page) to reach over here there keeps was known (same, goes) =
    ⊎_elim (λ (next, leads, is). subst (Comes walk w now (stage.SharedLeft page) reach over) (sym is)
    (comes_to walk w now (stage.SharedLeft page) (stage.Down next) reach over page next refl refl (kept_at w now (Some page) reach keeps was)
    (λ differ. comes_right w now walk.at here.tree here.leaves true here.place.1.0 page next (way_from walk (stage.SharedLeft page)) here.is here.place.1.1 keeps walk.target (λ node. refl) leads)))
    (λ (low, or_at, is). subst (Comes walk w now (stage.SharedLeft page) reach over) (sym is) tt) goes
goes_comes walk w now (stage.Left low or_at way) to reach over here there keeps was known (same, goes) = left_comes walk w now low or_at way to reach over here there keeps was goes
goes_comes walk w now (stage.Post separator rise) to reach over here there keeps was known goes = rise_comes walk w now separator rise to reach over here there keeps was known goes
goes_comes walk w now stage.Ended to reach over here there keeps was known goes = absurd goes

pub comes_after : (walk : Walk) (w now : World) (from to : Stage) (reach over : Reach) → Stands walk from w → Stepped walk to w now → Goes walk w now from to → IsReached from reach w → IsOver from over w → IsReached to (came_by walk w from to reach over) now
comes_after walk w now from to reach over stands stepped goes reached known =
    goes_comes walk w now from to reach over (stands) (stepped.stands) (stepped.at) (reached) known goes

-- and so does the page above that it remembers
goes_over : (walk : Walk) (w now : World) (from to : Stage) (reach over : Reach) → Stands walk from w → KeepsAt w now → IsReachedAt (page_of from) reach w → IsReachedAt (over_of from) over w → Goes walk w now from to → ComesOver now from reach over to
goes_over walk w now stage.Start to reach over here keeps was known (same, (page, root, is)) = no_over now stage.Start to reach over (ap over_of is)
goes_over walk w now (stage.Down page) to reach over here keeps was known (same, goes) = no_over now (stage.Down page) to reach over (⊎_elim (λ (next, leads, is). ap over_of is) (λ is. ap over_of is) goes)
goes_over walk w now (stage.Leaf page) to reach over here keeps was known (same, goes) = no_over now (stage.Leaf page) to reach over (⊎_elim (λ is. ap over_of is) (λ on. ⊎_elim (λ (above, is). ap over_of is) (λ is. ap over_of is) on) goes)
goes_over walk w now (stage.Held page) to reach over here keeps was known (same, goes) = no_over now (stage.Held page) to reach over (⊎_elim (λ (next, leads, is). ap over_of is) (λ is. ap over_of is) goes)
goes_over walk w now (stage.Full page) to reach over here keeps was known (more, is) = no_over now (stage.Full page) to reach over (ap over_of is)
goes_over walk w now (stage.Split page right) to reach over here keeps was known (wrote, is) = no_over now (stage.Split page right) to reach over (ap over_of is)
goes_over walk w now (stage.Cut page right) to reach over here keeps was known (cuts, (separator, is)) = no_over now (stage.Cut page right) to reach over (ap over_of is)
goes_over walk w now (stage.Share page above) to reach over here keeps was known (same, is) = no_over now (stage.Share page above) to reach over (ap over_of is)
goes_over walk w now (stage.Shared page above) to reach over here keeps was known (same, (next, goes)) = no_over now (stage.Shared page above) to reach over (⊎_elim (λ (leads, is). ap over_of is) (λ (leads, is). ap over_of is) goes)
goes_over walk w now (stage.SharedLeft page) to reach over here keeps was known (same, goes) = no_over now (stage.SharedLeft page) to reach over (⊎_elim (λ (next, leads, is). ap over_of is) (λ (low, or_at, is). ap over_of is) goes)
goes_over walk w now (stage.Left low or_at way) to reach over here keeps was known (same, goes) = left_over walk w now low or_at way to reach over goes
goes_over walk w now (stage.Post separator rise) to reach over here keeps was known goes = rise_over walk w now separator rise to reach over here keeps was known goes
goes_over walk w now stage.Ended to reach over here keeps was known goes = absurd goes

pub over_comes : (walk : Walk) (w now : World) (from to : Stage) (reach over after : Reach) → Stands walk from w → Stepped walk to w now → Goes walk w now from to → IsReached from reach w → IsOver from over w → CameOver from to reach over after → IsOver to after now
over_comes walk w now from to reach over after stands stepped goes reached known came = by_over (over_of to) refl
  where
    by_over : (last : Option ℕ) → over_of to ≡ last → IsReachedAt last after now
    by_over None is = tt
    by_over (Some above) is = subst (λ r. IsReachedAt (Some above) r now) (sym (came above is)) (goes_over walk w now from to reach over (stands) (stepped.at) (reached) known goes above is)
