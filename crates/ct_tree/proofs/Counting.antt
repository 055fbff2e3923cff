-- A walk that goes on from a page of a tree comes to one that is onward, and its count stands.
use Rattle.std.proofs.Common.{◌≡◌, ℕ, suc, ◌+◌, ◌<◌, List, [], ◌∷◌, length, Bool, true, false, eqb, refl, sym, ap, ◌∙◌, arith, subst, inl, inr, ⊎_elim, ◌⊎◌, Option, Some, None}
use Rattle.std.specs.Prelude.{IfSome, ◌&&◌, ◌||◌, not, if◌then◌else◌}
use Rattle.std.proofs.lemmas.Bool.{false≢true, eqb-true, lt-ltb}
use Rattle.std.specs.Ordering.{is_lt}
use Rattle.ct_definitions.specs.Pairs.{Pair, pair_cmp}
use Rattle.ct_node.specs.declared.root.Root.{Root}
use Rattle.ct_node.specs.declared.target.Target.{Target}
use Rattle.ct_node.specs.declared.target.Target.TheVariants.{At, Before, Last}
use Rattle.ct_node.specs.declared.target.Place.{Place}
use Rattle.ct_node.specs.declared.target.Place.TheVariants.{Right, Down, Here, End}
use Rattle.ct_node.specs.Nodes.{NodeValue}
use Rattle.ct_node.specs.Places.{next_place, is_past, is_ahead, begins_below}
use Rattle.ct_node.specs.Worlds.{World, Holds, page_at}
use Rattle.ct_disk.specs.declared.turn.Turn.{Turn}
use Rattle.ct_disk.specs.declared.turn.Turn.TheVariants.{Done, More, Busy, Refused}
use Rattle.ct_tree_laws.specs.declared.walk.Walk.{Walk}
use Rattle.ct_tree_laws.specs.declared.walk.Stage.{Stage}
use Rattle.ct_tree_laws.specs.declared.walk.Stage.TheVariants as stage
use Rattle.ct_tree_laws.specs.declared.left.Way.{Way}
use Rattle.ct_tree_laws.specs.declared.left.Way.TheVariants as way
use Rattle.ct_tree_laws.specs.declared.rise.Separator.{Separator}
use Rattle.ct_tree_laws.specs.declared.rise.Rise.{Rise}
use Rattle.ct_tree_laws.specs.declared.rise.Rise.TheVariants as rise
use Rattle.ct_tree_laws.specs.Trees.{Tree, IsOf, IsAt, IsTree, IsNear, IsLowFor, IsLower, Rises, link_by}
use Rattle.ct_tree_laws.specs.Stands.{Stands, Stepped, IsPacked, KeepsLevels, KeepsAt}
use Rattle.ct_tree_laws.proofs.Chains.{one_node}
use Rattle.ct_tree_laws.proofs.PostingTurns.{held_past}
use Rattle.ct_tree_laws.proofs.Walking.{right_at_of, goes_past, seen_near, near_down, down_above}
use Rattle.ct_tree.specs.declared.moves.Spot.{Spot}
use Rattle.ct_tree.specs.Moves.{spot_of, moves_after, circle_at}
use Rattle.ct_tree.specs.Rules.{leads_to, is_full, IsRightOf, IsDownOf, IsNext, IsPastOf, GoesLeft, GoesToward, GoesUp, Goes, Waits, IsTurned}
use Rattle.ct_tree.specs.Counted.{IsOnward, IsPath, IsCountedAt, IsCounted}
use Rattle.ct_tree.proofs.Paths.{path_kept, onward_kept, not_onward, counted_may_move}
use Rattle.ct_tree.proofs.Lefts.{comes, moves_stay}

rises_lower : (low : Option Pair) (high : Pair) → Rises low (Some high) → IsLower low (Some high)
rises_lower None high rises = tt
rises_lower (Some low) high rises = rises

-- where the target is past a node, the page to the right is onward
pub past_onward : (w : World) (at : Root) (t : Tree) (leaves : List ℕ) (leaf : Bool) (low : Option Pair) (target : Target) (page : ℕ) (node : NodeValue) → IsTree w at t leaves → IsAt w t leaf low page → page_at w page ≡ Holds node → is_past node.high target ≡ true → IsOnward w page node.right
past_onward w at t leaves leaf low target page node tree place is past =
    let same : place.node ≡ node = one_node w page node place.node is place.is in
    let of : IsOf t node = subst (IsOf t) same place.of in
    let role = tree.roles page node is of place.linked in
    let level = tree.levels page node is of place.linked in
    let found = right_at_of w t node target role past in
    let high : node.high ≡ Some found.0 = found.3 in
    let lower : IsLower node.low (Some found.0) = rises_lower node.low found.0 (subst (Rises node.low) high role.rises) in
    record {
      level = level.0;
      low = node.low;
      next_level = level.0;
      next_low = Some found.0;
      here = record { tree = t; leaf = leaf; at = subst (λ bound. IsAt w t leaf bound page) (sym place.from ∙ ap (λ (v : NodeValue). v.low) same) place; level_is = level.1 };
      there = record { tree = t; leaf = node.leaf; at = found.1; level_is = level.2.right (record { low = Some found.0; page = node.right }) (ap (link_by node.right) high) };
      onward = inr (refl, lower);
    }

pub right_onward : (w : World) (at : Root) (t : Tree) (leaves : List ℕ) (leaf : Bool) (low : Option Pair) (target : Target) (page next : ℕ) → IsTree w at t leaves → IsAt w t leaf low page → IsRightOf w target page next → IsOnward w page next
right_onward w at t leaves leaf low target page next tree place (node, is, goes) =
    let past = goes_past node target next goes in
    subst (IsOnward w page) past.1 (past_onward w at t leaves leaf low target page node tree place is past.0)

-- and a page below is
pub down_onward : (w : World) (at : Root) (t : Tree) (leaves : List ℕ) (target : Target) (page next : ℕ) → IsTree w at t leaves → IsNear w t target page → IsDownOf w target page next → IsOnward w page next
down_onward w at t leaves target page next tree near (node, is, goes) =
    let seen = seen_near w at t leaves target page node tree near is in
    let above = down_above w at t leaves target page node next tree seen goes in
    let below = (near_down w t target page node next seen goes).0 in
    record {
      level = suc above.0;
      low = near.1;
      next_level = above.0;
      next_low = below.1;
      here = record { tree = t; leaf = near.0; at = near.2; level_is = above.1 };
      there = record { tree = t; leaf = below.0; at = below.2; level_is = above.2 };
      onward = inl (omega arith);
    }

pub next_onward : (w : World) (at : Root) (t : Tree) (leaves : List ℕ) (target : Target) (page next : ℕ) → IsTree w at t leaves → IsNear w t target page → IsNext w target page next → IsOnward w page next
next_onward w at t leaves target page next tree near leads = ⊎_elim (λ right. right_onward w at t leaves near.0 near.1 target page next tree near.2 right) (λ down. down_onward w at t leaves target page next tree near down) leads.0

-- the count of a walk after a turn: of one that has moved, and of one that stays at its page
moved_on : (w now : World) (page next moves : ℕ) → KeepsLevels w now → KeepsAt w now → IsOnward w page next → ((pages : List ℕ) × (length pages ≡ moves) × IsPath w page pages) → (pages : List ℕ) × (length pages ≡ moves + 1) × IsPath now next pages
moved_on w now page next moves levels keeps on (pages, count, path) = (page ∷ pages, omega (arith, count), (onward_kept w now page next levels keeps on, path_kept w now page pages levels keeps path))

stayed_on : (w now : World) (page moves : ℕ) → KeepsLevels w now → KeepsAt w now → ((pages : List ℕ) × (length pages ≡ moves) × IsPath w page pages) → (pages : List ℕ) × (length pages ≡ moves) × IsPath now page pages
stayed_on w now page moves levels keeps (pages, count, path) = (pages, count, path_kept w now page pages levels keeps path)

pub counted_kept : (w now : World) (spot : Option Spot) (moves : ℕ) → KeepsLevels w now → KeepsAt w now → IsCountedAt w spot moves → IsCountedAt now spot moves
counted_kept w now None moves levels keeps none = none
counted_kept w now (Some spot) moves levels keeps counted = stayed_on w now spot.page moves levels keeps counted

abbrev Counts : Stage → ℕ → World → Stage → Type 0
Counts from moves now to = IsCountedAt now (spot_of to) (moves_after (spot_of from) (spot_of to) moves)

-- a move by a link that is onward
came : (w now : World) (page next moves : ℕ) → KeepsLevels w now → KeepsAt w now → (next ≡ page → ⊥) → IsOnward w page next → ((pages : List ℕ) × (length pages ≡ moves) × IsPath w page pages) → (pages : List ℕ) × (length pages ≡ (if true && not (true && eqb page next) then moves + 1 else moves)) × IsPath now next pages
came w now page next moves levels keeps differ on counted = let after = moved_on w now page next moves levels keeps on counted in (after.0, after.1 ∙ sym (comes page next moves differ), after.2)

left_counts : (walk : Walk) (w now : World) (low : Pair) (or_at : Bool) (way : Way) (to : Stage) (moves : ℕ) → Stands walk (stage.Left low or_at way) w → KeepsLevels w now → KeepsAt w now → GoesLeft walk w low or_at way to → IsCountedAt w (spot_of (stage.Left low or_at way)) moves → Counts (stage.Left low or_at way) moves now to
left_counts walk w now low or_at way.Start to moves here levels keeps (page, root, is) none = subst (Counts (stage.Left low or_at way.Start) moves now) (sym is) ([], sym none, tt)
left_counts walk w now low or_at (way.Down page) to moves here levels keeps goes counted =
    ⊎_elim (λ (next, leads, is). subst (Counts (stage.Left low or_at (way.Down page)) moves now) (sym is) (came w now page next moves levels keeps leads.1 (next_onward w walk.at here.tree here.leaves (Before low) page next here.is here.place.2 leads) counted))
    (λ is. subst (Counts (stage.Left low or_at (way.Down page)) moves now) (sym is) (stayed_on w now page moves levels keeps counted)) goes
left_counts walk w now low or_at (way.Leaf page) to moves here levels keeps is counted = subst (Counts (stage.Left low or_at (way.Leaf page)) moves now) (sym is) (stayed_on w now page moves levels keeps counted)
left_counts walk w now low or_at (way.Shared page) to moves here levels keeps goes counted =
    ⊎_elim (λ (next, leads, is). subst (Counts (stage.Left low or_at (way.Shared page)) moves now) (sym is) (moved_on w now page next moves levels keeps (right_onward w walk.at here.tree here.leaves true here.place.2.0.0 (Before low) page next here.is here.place.2.0.1 leads) counted))
    (λ (lower, begins, is). subst (Counts (stage.Left low or_at (way.Shared page)) moves now) (sym is) refl) goes

above_onward : (walk : Walk) (w : World) (separator : Separator) (page : ℕ) (next : Option Separator) (right : ℕ) → Stands walk (stage.Post separator (rise.Held page next)) w → IsPastOf w separator.low page right → IsOnward w page right
above_onward walk w separator page next right here (node, is, outside, one) =
    subst (IsOnward w page) (sym one) (past_onward w walk.at here.tree here.leaves false here.place.1.1.0 (At separator.low) page node here.is here.place.1.1.1 is (held_past walk separator page next node w is outside here))

-- on the way to a separator, to a next page or up
toward_counts : (w now : World) (separator : Separator) (page next : ℕ) (above last : Option ℕ) (to : Stage) (moves : ℕ) → KeepsLevels w now → KeepsAt w now → (next ≡ page → ⊥) → IsOnward w page next → GoesToward separator next last to → IsCountedAt w (spot_of (stage.Post separator (rise.Down page above))) moves → Counts (stage.Post separator (rise.Down page above)) moves now to
toward_counts w now separator page next above last to moves levels keeps differ on toward counted =
    ⊎_elim (λ is. subst (Counts (stage.Post separator (rise.Down page above)) moves now) (sym is) (came w now page next moves levels keeps differ on counted))
    (λ (over, told, is). subst (Counts (stage.Post separator (rise.Down page above)) moves now) (sym is) ([], refl, tt)) toward

rise_counts : (walk : Walk) (w now : World) (separator : Separator) (rise : Rise) (to : Stage) (moves : ℕ) → Stands walk (stage.Post separator rise) w → KeepsLevels w now → KeepsAt w now → GoesUp walk w now separator rise to → IsCountedAt w (spot_of (stage.Post separator rise)) moves → Counts (stage.Post separator rise) moves now to
rise_counts walk w now separator rise.Root to moves here levels keeps (same, (page, root, goes)) none =
    ⊎_elim (λ is. subst (Counts (stage.Post separator rise.Root) moves now) (sym is) none) (λ is. subst (Counts (stage.Post separator rise.Root) moves now) (sym is) ([], sym none, tt)) goes
rise_counts walk w now separator (rise.Down page above) to moves here levels keeps (same, goes) counted =
    ⊎_elim (λ is. subst (Counts (stage.Post separator (rise.Down page above)) moves now) (sym is) refl)
    (λ on. ⊎_elim (λ (next, leads, differ, toward). toward_counts w now separator page next above above to moves levels keeps differ (right_onward w walk.at here.tree here.leaves here.place.1.1.0 here.place.1.1.1 (At separator.low) page next here.is here.place.1.1.2 leads) toward counted)
    (λ (next, leads, differ, toward). toward_counts w now separator page next above (Some page) to moves levels keeps differ (down_onward w walk.at here.tree here.leaves (At separator.low) page next here.is here.place.1.1 leads) toward counted) on) goes
rise_counts walk w now separator (rise.Above page) to moves here levels keeps (same, is) counted = subst (Counts (stage.Post separator (rise.Above page)) moves now) (sym is) (stayed_on w now page moves levels keeps counted)
rise_counts walk w now separator (rise.Held page None) to moves here levels keeps goes counted =
    ⊎_elim (λ (posts, is). subst (Counts (stage.Post separator (rise.Held page None)) moves now) (sym is) refl)
    (λ (same, on). ⊎_elim (λ (right, past, is). subst (Counts (stage.Post separator (rise.Held page None)) moves now) (sym is)
    (moved_on w now page right moves levels keeps (above_onward walk w separator page None right here past) counted))
    (λ is. subst (Counts (stage.Post separator (rise.Held page None)) moves now) (sym is) (stayed_on w now page moves levels keeps counted)) on) goes
rise_counts walk w now separator (rise.Held page (Some next)) to moves here levels keeps goes none =
    ⊎_elim (λ (posts, is). subst (Counts (stage.Post separator (rise.Held page (Some next))) moves now) (sym is) none)
    (λ (same, on). ⊎_elim (λ (right, past, is). subst (Counts (stage.Post separator (rise.Held page (Some next))) moves now) (sym is) ([], sym none, tt))
    (λ is. subst (Counts (stage.Post separator (rise.Held page (Some next))) moves now) (sym is) ([], sym none, tt)) on) goes
rise_counts walk w now separator (rise.Full page) to moves here levels keeps (more, is) counted = subst (Counts (stage.Post separator (rise.Full page)) moves now) (sym is) (stayed_on w now page moves levels keeps counted)
rise_counts walk w now separator (rise.Fresh page right) to moves here levels keeps (same, is) counted = subst (Counts (stage.Post separator (rise.Fresh page right)) moves now) (sym is) (stayed_on w now page moves levels keeps counted)
rise_counts walk w now separator (rise.Split page right) to moves here levels keeps (wrote, is) counted = subst (Counts (stage.Post separator (rise.Split page right)) moves now) (sym is) (stayed_on w now page moves levels keeps counted)
rise_counts walk w now separator (rise.Cut page right) to moves here levels keeps (leaf, cuts, (half, next, node, which, child, told, low, is)) counted = subst (Counts (stage.Post separator (rise.Cut page right)) moves now) (sym is) refl
rise_counts walk w now separator rise.Again to moves here levels keeps (same, is) none = subst (Counts (stage.Post separator rise.Again) moves now) (sym is) none
rise_counts walk w now separator rise.Named to moves here levels keeps (same, (page, root, goes)) none =
    ⊎_elim (λ is. subst (Counts (stage.Post separator rise.Named) moves now) (sym is) none) (λ is. subst (Counts (stage.Post separator rise.Named) moves now) (sym is) ([], sym none, tt)) goes
rise_counts walk w now separator rise.Grow to moves here levels keeps (more, is) none = subst (Counts (stage.Post separator rise.Grow) moves now) (sym is) none
rise_counts walk w now separator (rise.Crown root) to moves here levels keeps (wrote, is) none = subst (Counts (stage.Post separator (rise.Crown root)) moves now) (sym is) none
rise_counts walk w now separator (rise.Crowned root) to moves here levels keeps (named, is) none = subst (Counts (stage.Post separator (rise.Crowned root)) moves now) (sym is) none

-- a turn that goes on counts its move
pub goes_counts : (walk : Walk) (w now : World) (from to : Stage) (moves : ℕ) → Stands walk from w → KeepsLevels w now → KeepsAt w now → Goes walk w now from to → IsCountedAt w (spot_of from) moves → Counts from moves now to
goes_counts walk w now stage.Start to moves here levels keeps (same, (page, root, is)) none = subst (Counts stage.Start moves now) (sym is) ([], sym none, tt)
goes_counts walk w now (stage.Down page) to moves here levels keeps (same, goes) counted =
    ⊎_elim (λ (next, leads, is). subst (Counts (stage.Down page) moves now) (sym is) (came w now page next moves levels keeps leads.1 (next_onward w walk.at here.tree here.leaves walk.target page next here.is here.place.1 leads) counted))
    (λ is. subst (Counts (stage.Down page) moves now) (sym is) (stayed_on w now page moves levels keeps counted)) goes
goes_counts walk w now (stage.Leaf page) to moves here levels keeps (same, goes) counted =
    ⊎_elim (λ is. subst (Counts (stage.Leaf page) moves now) (sym is) (stayed_on w now page moves levels keeps counted))
    (λ on. ⊎_elim (λ (above, is). subst (Counts (stage.Leaf page) moves now) (sym is) (stayed_on w now page moves levels keeps counted)) (λ is. subst (Counts (stage.Leaf page) moves now) (sym is) (stayed_on w now page moves levels keeps counted)) on) goes
goes_counts walk w now (stage.Held page) to moves here levels keeps (same, goes) counted =
    ⊎_elim (λ (next, leads, is). subst (Counts (stage.Held page) moves now) (sym is) (moved_on w now page next moves levels keeps (right_onward w walk.at here.tree here.leaves true here.place.1.0 walk.target page next here.is here.place.1.1 leads) counted))
    (λ is. subst (Counts (stage.Held page) moves now) (sym is) (stayed_on w now page moves levels keeps counted)) goes
goes_counts walk w now (stage.Full page) to moves here levels keeps (more, is) counted = subst (Counts (stage.Full page) moves now) (sym is) (stayed_on w now page moves levels keeps counted)
goes_counts walk w now (stage.Split page right) to moves here levels keeps (wrote, is) counted = subst (Counts (stage.Split page right) moves now) (sym is) (stayed_on w now page moves levels keeps counted)
goes_counts walk w now (stage.Cut page right) to moves here levels keeps (cuts, (separator, is)) counted = subst (Counts (stage.Cut page right) moves now) (sym is) refl
goes_counts walk w now (stage.Share page above) to moves here levels keeps (same, is) counted = subst (Counts (stage.Share page above) moves now) (sym is) (stayed_on w now page moves levels keeps counted)
goes_counts walk w now (stage.Shared page above) to moves here levels keeps (same, (next, goes)) counted =
    ⊎_elim (λ (leads, is). subst (Counts (stage.Shared page above) moves now) (sym is) (moved_on w now page next moves levels keeps (right_onward w walk.at here.tree here.leaves true here.place.1.0 walk.target page next here.is here.place.1.1 leads) counted))
    (λ (leads, is). subst (Counts (stage.Shared page above) moves now) (sym is) (moved_on w now page next moves levels keeps (right_onward w walk.at here.tree here.leaves true here.place.1.0 Last page next here.is here.place.1.1 leads) counted)) goes
goes_counts walk w now (stage.SharedLeft page) to moves here levels keeps (same, goes) counted =
    ⊎_elim (λ (next, leads, is). subst (Counts (stage.SharedLeft page) moves now) (sym is) (moved_on w now page next moves levels keeps (right_onward w walk.at here.tree here.leaves true here.place.1.0 walk.target page next here.is here.place.1.1 leads) counted))
    (λ (low, or_at, is). subst (Counts (stage.SharedLeft page) moves now) (sym is) refl) goes
goes_counts walk w now (stage.Left low or_at way) to moves here levels keeps (same, goes) counted = left_counts walk w now low or_at way to moves here levels keeps goes counted
goes_counts walk w now (stage.Post separator rise) to moves here levels keeps goes counted = rise_counts walk w now separator rise to moves here levels keeps goes counted
goes_counts walk w now stage.Ended to moves here levels keeps goes counted = absurd goes

same_counts : (w now : World) (from to : Stage) (moves : ℕ) → KeepsLevels w now → KeepsAt w now → IsCountedAt w (spot_of from) moves → to ≡ from → Counts from moves now to
same_counts w now from to moves levels keeps begun one = subst (Counts from moves now) (sym one) (subst (IsCountedAt now (spot_of from)) (sym (moves_stay (spot_of from) moves)) (counted_kept w now (spot_of from) moves levels keeps begun))

leaves_none : (w : World) (spot : Option Spot) (moves : ℕ) → IsCountedAt w spot moves → moves_after spot None moves ≡ 0
leaves_none w None moves begun = begun
leaves_none w (Some spot) moves begun = refl

by_turn : {T : Type 0} (turn : Turn T) (walk : Walk) (w now : World) (before after : ℕ) (from to : Stage) (moves : ℕ) → Stands walk from w → KeepsLevels w now → KeepsAt w now → IsCountedAt w (spot_of from) moves → IsTurned turn walk w now before after from to → Counts from moves now to
by_turn (Done answer) walk w now before after from to moves here levels keeps begun rule = ⊎_elim (λ one. same_counts w now from to moves levels keeps begun one) (λ one. subst (Counts from moves now) (sym one) (leaves_none w (spot_of from) moves begun)) rule
by_turn More walk w now before after from to moves here levels keeps begun rule = ⊎_elim (λ (waits : Waits w now before after from to). same_counts w now from to moves levels keeps begun waits.same) (λ goes. goes_counts walk w now from to moves here levels keeps goes begun) rule
by_turn (Busy op) walk w now before after from to moves here levels keeps begun rule = ⊎_elim (λ one. same_counts w now from to moves levels keeps begun one) (λ one. subst (Counts from moves now) (sym one) (leaves_none w (spot_of from) moves begun)) rule.0
by_turn (Refused fault) walk w now before after from to moves here levels keeps begun rule = same_counts w now from to moves levels keeps begun rule.0

-- the count stands after any turn
pub turn_counts : {T : Type 0} (turn : Turn T) (walk : Walk) (w now : World) (before after : ℕ) (from to : Stage) (moves counted : ℕ) → Stands walk from w → Stepped walk to w now → IsTurned turn walk w now before after from to → IsCounted from moves w → counted ≡ moves_after (spot_of from) (spot_of to) moves → IsCounted to counted now
turn_counts turn walk w now before after from to moves counted stands stepped rule count is =
    let levels = stepped.levels in
    let keeps = stepped.at in
    let begun = count in
    subst (IsCountedAt now (spot_of to)) (sym is) (by_turn turn walk w now before after from to moves (stands) levels keeps begun rule)

-- no node of a tree leads back to its own page
leads_back : (w : World) (page : ℕ) (node : NodeValue) (place : Place) (target : Target) → page_at w page ≡ Holds node → next_place node target ≡ place → leads_to page place ≡ true → IsRightOf w target page page ⊎ IsDownOf w target page page
leads_back w page node (Right q) target is goes one = inl (node, is, goes ∙ ap Right (eqb-true q page one))
leads_back w page node (Down q) target is goes one = inr (node, is, goes ∙ ap Down (eqb-true q page one))
leads_back w page node (Here at) target is goes one = absurd (false≢true one)
leads_back w page node End target is goes one = absurd (false≢true one)

pub no_way_back : (w mid : World) (at : Root) (target : Target) (page : ℕ) (node : NodeValue) (place : Place) → mid ≡ w → ((t : Tree) × (leaves : List ℕ) × IsTree w at t leaves × IsNear w t target page) → page_at w page ≡ Holds node → next_place node target ≡ place → leads_to page place ≡ true → ⊥
no_way_back w mid at target page node place same stands is goes one = (
    let here = stands in
    not_onward w page (⊎_elim (λ right. right_onward w at here.0 here.1 here.3.0 here.3.1 target page page here.2 here.3.2 right) (λ down. down_onward w at here.0 here.1 target page page here.2 here.3 down) (leads_back w page node place target is goes one)))

-- and no right link of a node of a tree leads to its own page
pub no_right_back : (w mid : World) (at : Root) (leaf : Bool) (target : Target) (page right : ℕ) (node : NodeValue) → mid ≡ w → ((t : Tree) × (leaves : List ℕ) × IsTree w at t leaves × (low : Option Pair) × IsAt w t leaf low page) → page_at w page ≡ Holds node → Right right ≡ next_place node target → right ≡ page → ⊥
no_right_back w mid at leaf target page right node same stands is goes one = (
    let here = stands in
    not_onward w page (right_onward w at here.0 here.1 leaf here.3 target page page here.2 here.4 (node, is, sym goes ∙ ap Right one)))

-- a leaf to the left begins below the place of the search
pub begins_lower : (walk : Walk) (w mid : World) (low : Pair) (or_at : Bool) (page : ℕ) (node : NodeValue) → Stands walk (stage.Left low or_at (way.Shared page)) w → mid ≡ w → page_at w page ≡ Holds node → begins_below node.low low ≡ false → ⊥
begins_lower walk w mid low or_at page node stands same is not_lower = (
    let here = stands in
    let place = here.place.2.0 in
    let bound : node.low ≡ place.0 = sym (ap (λ (v : NodeValue). v.low) (one_node w page node place.1.node is place.1.is)) ∙ place.1.from in
    false≢true (sym not_lower ∙ subst (λ (start : Option Pair). begins_below start low ≡ true) (sym bound) (lower place.0 place.2)))
  where
    lower : (start : Option Pair) → IsLowFor (Before low) start → begins_below start low ≡ true
    lower None is_low = refl
    lower (Some start) is_low = below_of start is_low
      where
        below_of : (first : Pair) → is_ahead true (Before low) first ≡ true → is_lt (pair_cmp first low) ≡ true
        below_of first ahead = by_parts (is_lt (pair_cmp first low)) ahead
          where
            by_parts : (b : Bool) → (b || false) ≡ true → b ≡ true
            by_parts true either = refl
            by_parts false either = either

-- and so is a node above
pub above_is_full : (walk : Walk) (s : Separator) (page right : ℕ) (node : NodeValue) (w mid : World) → Stands walk (stage.Post s (rise.Cut page right)) w → page_at w page ≡ Holds node → mid ≡ w → (is_full node ≡ true → ⊥) → ⊥
above_is_full walk s page right node w mid stands is same other = (
    let here = stands in
    let known = here.place.1.1.1 in
    let one : here.place.1.1.0 ≡ node = one_node w page node here.place.1.1.0 is known.0.is in
    other (ap not (subst IsPacked one known.2)))

-- a walk that has counted its moves goes in no circle
pub circle_bad : (walk : Walk) (at : Stage) (moves pages page : ℕ) (w : World) → Stands walk at w → IsCounted at moves w → pages ≡ length w.pages → circle_at (spot_of at) moves pages ≡ Some page → ⊥
circle_bad walk at moves pages page w stands counted all circle = (no_circle (spot_of at) (counted_may_move w (spot_of at) moves stands.apart counted) circle)
  where
    no_circle : (spot : Option Spot) → IfSome spot (λ _. moves < length w.pages) → circle_at spot moves pages ≡ Some page → ⊥
    no_circle None room is = let none : None ≡ Some page = is in absurd (cc)
    no_circle (Some spot) room is =
        let less = lt-ltb moves pages (omega (arith, room, all)) in
        let none : None ≡ Some page = sym (ap (λ (b : Bool). if b then None else Some spot.page) less) ∙ is in
        absurd (cc)
