-- What an operation remembers of how it came to its page stands after each of its turns.
use Rattle.std.proofs.Common.{◌≡◌, ℕ, Bool, true, false, refl, sym, ap, ◌∙◌, subst, ⊎_elim, Option, Some, None}
use Rattle.std.specs.Prelude.{◌==◌, ◌&&◌, not, if◌then◌else◌}
use Rattle.std.proofs.lemmas.Bool.{eq-eqb}
use Rattle.ct_disk.specs.declared.turn.Turn.{Turn}
use Rattle.ct_disk.specs.declared.turn.Turn.TheVariants.{Done, More, Busy, Refused}
use Rattle.ct_node.specs.declared.reach.Reach.{Reach}
use Rattle.ct_node.specs.Turns.{OnMore}
use Rattle.ct_node.specs.Worlds.{World}
use Rattle.ct_tree_laws.specs.declared.walk.Walk.{Walk}
use Rattle.ct_tree_laws.specs.declared.walk.Stage.{Stage}
use Rattle.ct_tree_laws.specs.declared.walk.Stage.TheVariants as stage
use Rattle.ct_tree_laws.specs.Stands.{Stands, Stepped}
use Rattle.ct_tree_laws.specs.Reached.{page_of, over_of, IsReachedAt, IsReached}
use Rattle.ct_tree_laws.proofs.Reaches.{kept_at}
use Rattle.ct_tree.specs.Answers.{answer_with}
use Rattle.ct_tree.specs.Moves.{looked_at}
use Rattle.ct_tree.specs.Rules.{Waits, IsTurned, GivesWay}
use Rattle.ct_tree.specs.declared.roles.Ways.{Ways}
use Rattle.ct_tree.specs.Roles.{HasRole, HasCome, Comes, Follows, finds_leaf, way_here, way_moved, way_after, over_after, way_of, came_by, is_more}
use Rattle.ct_tree.proofs.RolesDown.{has_role, comes_after, over_comes}

-- an operation that is at no page has come to none
pub come_start : (ways : Ways) (w : World) → HasCome stage.Start ways w
come_start ways w = (tt, tt)

pub come_ended : (ways : Ways) (w : World) → HasCome stage.Ended ways w
come_ended ways w = (tt, tt)

-- nodes keep their places in a turn of any operation
pub come_kept : (walk : Walk) (to at : Stage) (ways : Ways) (w now : World) → Stepped walk to w now → HasCome at ways w → HasCome at ways now
come_kept walk to at ways w now stepped come = (
  kept_at w now (page_of at) ways.at (stepped.at) (come.0),
  kept_at w now (over_of at) ways.over (stepped.at) (come.1),
)

-- the page that a turn looks at is in its role
pub role_come : (walk : Walk) (w : World) (from at : Stage) (ways : Ways) → at ≡ from → Stands walk from w → HasCome from ways w → HasRole (looked_at at) ways.at w
role_come walk w from at ways same stands come = subst (λ stage. HasRole (looked_at stage) ways.at w) (sym same) (has_role walk w from ways.at stands come.0)

-- a leaf is found once, and where an operation stays, the way from its page does not count
found_once : (found : Bool) (one other : Reach) → (if found && not found then one else other) ≡ other
found_once true one other = refl
found_once false one other = refl

way_same : (walk : Walk) (page above : Option ℕ) (at : Stage) (before over on : Reach) → way_after walk page above (finds_leaf at) page at before over on ≡ before
way_same walk None above at before over on = refl
way_same walk (Some page) above at before over on = ap (λ same. if same then way_here (finds_leaf at) at before else way_moved above (over_of at) over on) (eq-eqb page page refl) ∙ found_once (finds_leaf at) (record before { leaf = Some true }) before

pub came_waiting : (walk : Walk) (w : World) (at : Stage) (before over : Reach) → came_by walk w at at before over ≡ before
came_waiting walk w at before over = way_same walk (page_of at) (over_of at) at before over (way_of walk at w)

over_same : (page : Option ℕ) (above : ℕ) (before over : Reach) → over_after page page above before over ≡ over
over_same None above before over = refl
over_same (Some page) above before over = ap (λ same. if same then over else (if page == above then before else over)) (eq-eqb page page refl)

over_waits : (w : World) (page last : Option ℕ) (before over after : Reach) → ((above : ℕ) → last ≡ Some above → after ≡ over_after page page above before over) → IsReachedAt last over w → IsReachedAt last after w
over_waits w page None before over after came was = tt
over_waits w page (Some above) before over after came was = subst (λ reach. IsReachedAt (Some above) reach w) (sym (came above refl ∙ over_same page above before over)) was

-- a turn that waits for the pages
come_waiting : (walk : Walk) (w now : World) (before after : ℕ) (from to : Stage) (ways next : Ways) → Stands walk from w → Waits w now before after from to → HasCome from ways w → Comes walk w from to ways next → HasCome to next now
come_waiting walk w now before after from to ways next stands waits come comes =
    subst (λ v. HasCome to next v) (sym waits.world) (subst (λ at. HasCome at next w) (sym waits.same) (by_same (subst (λ at. Comes walk w from at ways next) waits.same comes)))
  where
    by_same : Comes walk w from from ways next → HasCome from next w
    by_same stayed = (
      subst (λ reach. IsReachedAt (page_of from) reach w) (sym (stayed.0 ∙ came_waiting walk w from ways.at ways.over)) (come.0),
      over_waits w (page_of from) (over_of from) ways.at ways.over next.over stayed.1 (come.1),
    )

-- what an operation remembers of how it came to its page stands after any turn
pub come_after : {T : Type 0} (result : Turn T) (walk : Walk) (w now : World) (before after : ℕ) (from to : Stage) (ways next : Ways) → Stands walk from w → Stepped walk to w now → IsTurned result walk w now before after from to → HasCome from ways w → OnMore result (Comes walk w from to ways next) → (is_more result ≡ false → next ≡ ways) → HasCome to next now
come_after result walk w now before after from to ways next stands stepped rule come comes stayed = by_turn result rule comes stayed
  where
    stays : next ≡ ways → to ≡ from → HasCome to next now
    stays same one = subst (λ at. HasCome at next now) (sym one) (subst (λ known. HasCome from known now) (sym same) (come_kept walk to from ways w now stepped come))

    by_turn : {T : Type 0} (turn : Turn T) → IsTurned turn walk w now before after from to → OnMore turn (Comes walk w from to ways next) → (is_more turn ≡ false → next ≡ ways) → HasCome to next now
    by_turn (Done answer) is came same = ⊎_elim (stays (same refl)) (λ one. subst (λ at. HasCome at next now) (sym one) (come_ended next now)) is
    by_turn More is came same =
        ⊎_elim (λ waits. come_waiting walk w now before after from to ways next stands waits come came)
        (λ goes. (
          subst (λ reach. IsReached to reach now) (sym came.0) (comes_after walk w now from to ways.at ways.over stands stepped goes come.0 come.1),
          over_comes walk w now from to ways.at ways.over next.over stands stepped goes come.0 come.1 came.1,
        )) is
    by_turn (Busy op) is came same = ⊎_elim (stays (same refl)) (λ one. subst (λ at. HasCome at next now) (sym one) (come_start next now)) is.0
    by_turn (Refused fault) is came same = stays (same refl) is.0

pub more_comes : (turn : Turn (Unit {0})) (walk : Walk) (w : World) (from to : Stage) (ways next : Ways) → Follows turn walk w from to ways next → OnMore turn (Comes walk w from to ways next)
more_comes (Done answer) walk w from to ways next follows = tt
more_comes More walk w from to ways next follows = follows
more_comes (Busy op) walk w from to ways next follows = tt
more_comes (Refused fault) walk w from to ways next follows = tt

pub ways_stay : (turn : Turn (Unit {0})) (walk : Walk) (w : World) (from to : Stage) (ways next : Ways) → Follows turn walk w from to ways next → is_more turn ≡ false → next ≡ ways
ways_stay (Done answer) walk w from to ways next follows more = follows
ways_stay More walk w from to ways next follows more = absurd (cc)
ways_stay (Busy op) walk w from to ways next follows more = follows
ways_stay (Refused fault) walk w from to ways next follows more = follows

-- with what a call that has ended tells
pub more_told : {T : Type 0} (turn : Turn (Unit {0})) (told : T) → is_more (answer_with turn told) ≡ is_more turn
more_told (Done answer) told = refl
more_told More told = refl
more_told (Busy op) told = refl
more_told (Refused fault) told = refl

pub comes_with : {T : Type 0} (turn : Turn (Unit {0})) (told : T) (P : Type 0) → OnMore turn P → OnMore (answer_with turn told) P
comes_with (Done answer) told P is = tt
comes_with More told P is = is
comes_with (Busy op) told P is = tt
comes_with (Refused fault) told P is = tt

pub follows_way : (turn : Turn (Unit {0})) (walk : Walk) (w mid now : World) (before after : ℕ) (from between to : Stage) (ways next : Ways) → Follows turn walk w from between ways next → GivesWay turn mid now before after between to → Follows turn walk w from to ways next
follows_way (Done answer) walk w mid now before after from between to ways next follows way = follows
follows_way More walk w mid now before after from between to ways next follows way = subst (λ at. Comes walk w from at ways next) (sym way.0) follows
follows_way (Busy op) walk w mid now before after from between to ways next follows way = follows
follows_way (Refused fault) walk w mid now before after from between to ways next follows way = follows
