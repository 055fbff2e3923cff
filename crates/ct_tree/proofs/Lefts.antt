-- A turn that goes on leaves less of its call.
use Rattle.std.proofs.Common.{◌≡◌, ℕ, ◌+◌, ◌-◌, ◌<◌, ◌≤◌, List, length, Bool, true, false, ◌&&◌, not, eqb, refl, sym, ap, ◌∙◌, arith, subst, inl, inr, ⊎_elim, ◌⊎◌, Option, Some, None}
use Rattle.std.specs.Prelude.{nat_lt, IfSome, if◌then◌else◌}
use Rattle.std.specs.Ordering.{is_lt}
use Rattle.std.specs.List.{count_by}
use Rattle.std.proofs.lemmas.Bool.{cases_lt, false≢true, eqb-true, eq-eqb, lt-ltb, le-ltb, not-true, and_from, false_from_ne_true}
use Rattle.std.proofs.lemmas.Cmp.{tied_itself}
use Rattle.std.proofs.lemmas.List.{length-set, length-drop, length-take-le}
use Rattle.ct_definitions.specs.Pairs.{Pair}
use Rattle.ct_node.specs.Nodes.{NodeValue, IsNode, capacity_of}
use Rattle.ct_node.specs.Places.{begins_below}
use Rattle.ct_node.proofs.Orders.{below, below-trans, pair_total}
use Rattle.ct_tree_laws.proofs.Pages.{page_within}
use Rattle.ct_tree_laws.proofs.Capacities.{full_enough}
use Rattle.ct_node.specs.Halves.{upper_half, lower_half, middle_of}
use Rattle.ct_node.specs.Worlds.{World, PageValue, Blank, Defines, Holds, page_at, rooted_page}
use Rattle.ct_disk.specs.declared.turn.Turn.{Turn}
use Rattle.ct_disk.specs.declared.turn.Turn.TheVariants.{Done, More, Busy, Refused}
use Rattle.ct_node.specs.Turns.{OnMore}
use Rattle.ct_tree_laws.specs.declared.walk.Walk.{Walk}
use Rattle.ct_tree_laws.specs.declared.walk.Stage.{Stage}
use Rattle.ct_tree_laws.specs.declared.walk.Stage.TheVariants as stage
use Rattle.ct_tree_laws.specs.declared.left.Way.{Way}
use Rattle.ct_tree_laws.specs.declared.left.Way.TheVariants as way
use Rattle.ct_tree_laws.specs.declared.rise.Separator.{Separator}
use Rattle.ct_tree_laws.specs.declared.rise.Rise.{Rise}
use Rattle.ct_tree_laws.specs.declared.rise.Rise.TheVariants as rise
use Rattle.ct_tree.specs.declared.moves.Spot.{Spot}
use Rattle.ct_tree.specs.Moves.{spot_of, moves_after, circle_at, MayMove}
use Rattle.ct_tree.specs.Rules.{Visits, Allocates, Writes, NamesRoot, is_full, CutsFull, BeginsBelow, GoesLeft, GoesToward, GoesUp, Goes, Waits, IsOneTurn, IsTurned}
use Rattle.ct_tree.specs.Ends.{has_full_leaf, has_full_inner, has_low_below, full_leaves, full_inner, nodes_below, left_of, IsLess}
use Rattle.ct_tree.proofs.Counts.{count_by-set_no, count_by-set_fewer, count_by-set_same, count_by-append_no, count_by-fewer}

-- what is left falls from one stage to another
abbrev pub Falls : Stage → ℕ → World → ℕ → World → ℕ → Stage → Type 0
Falls from moves w before now after to = IsLess (left_of to (moves_after (spot_of from) (spot_of to) moves) now after) (left_of from moves w before)

-- a number that is no more decides, or leaves it to the others
first : {P : Type 0} (x y : ℕ) → x ≤ y → P → (x < y) ⊎ ((x ≡ y) × P)
first x y most rest = ⊎_elim (λ less. inl less) (λ ge. inr (omega arith, rest)) (cases_lt x y)

leaves_same : (w now : World) → Visits w now → full_leaves now ≡ full_leaves w
leaves_same w now same = ap (count_by has_full_leaf) same

inner_same : (w now : World) → Visits w now → full_inner now ≡ full_inner w
inner_same w now same = ap (count_by has_full_inner) same

below_same : (low : Pair) (w now : World) → Visits w now → nodes_below low now ≡ nodes_below low w
below_same low w now same = ap (count_by (has_low_below low)) same

-- one move more, or as many, over as many pages
moved : (w now : World) (moves : ℕ) → Visits w now → moves < length w.pages → length now.pages - (moves + 1) < length w.pages - moves
moved w now moves same room = omega (arith, ap (λ (pages : List PageValue). length pages) same)

stayed : (w now : World) (moves : ℕ) → Visits w now → length now.pages - moves ≡ length w.pages - moves
stayed w now moves same = ap (λ (pages : List PageValue). length pages - moves) same

allocated_leaves : (w now : World) → Allocates w now → full_leaves now ≡ full_leaves w
allocated_leaves w now more = ap (count_by has_full_leaf) more ∙ count_by-append_no has_full_leaf w.pages Blank refl

allocated_inner : (w now : World) → Allocates w now → full_inner now ≡ full_inner w
allocated_inner w now more = ap (count_by has_full_inner) more ∙ count_by-append_no has_full_inner w.pages Blank refl

written_leaves : (page : ℕ) (node : NodeValue) (w now : World) → has_full_leaf (Holds node) ≡ false → Writes page node w now → full_leaves now ≤ full_leaves w
written_leaves page node w now fails is = subst (λ (n : ℕ). n ≤ full_leaves w) (sym (ap (count_by has_full_leaf) is)) (count_by-set_no has_full_leaf w.pages page (Holds node) Blank fails)

written_inner : (page : ℕ) (node : NodeValue) (w now : World) → has_full_inner (Holds node) ≡ false → Writes page node w now → full_inner now ≤ full_inner w
written_inner page node w now fails is = subst (λ (n : ℕ). n ≤ full_inner w) (sym (ap (count_by has_full_inner) is)) (count_by-set_no has_full_inner w.pages page (Holds node) Blank fails)

written_stayed : (page : ℕ) (node : NodeValue) (w now : World) (moves : ℕ) → Writes page node w now → length now.pages - moves ≡ length w.pages - moves
written_stayed page node w now moves is = ap (λ (pages : List PageValue). length pages - moves) is ∙ ap (λ n. n - moves) (length-set w.pages page (Holds node))

inner_no_leaf : (node : NodeValue) → node.leaf ≡ false → has_full_leaf (Holds node) ≡ false
inner_no_leaf node inner = ap (λ leaf. leaf && is_full node) inner

named_leaves : (walk : Walk) (root : ℕ) (w now : World) → NamesRoot walk.at root w now → full_leaves now ≡ full_leaves w
named_leaves walk root w now is = ap (count_by has_full_leaf) is ∙ count_by-set_same has_full_leaf w.pages walk.at.page (rooted_page walk.at.index root (page_at w walk.at.page)) Blank (same (page_at w walk.at.page))
  where
    same : (value : PageValue) → has_full_leaf (rooted_page walk.at.index root value) ≡ has_full_leaf value
    same Blank = refl
    same (Defines def) = refl
    same (Holds node) = refl

and_false : (a b : Bool) → b ≡ false → (a && b) ≡ false
and_false true b fails = fails
and_false false b fails = refl

-- a pair is not below itself
not_below_itself : (pair : Pair) → below pair pair ≡ false
not_below_itself pair = ap is_lt (tied_itself pair_total pair)

roomy : (node : NodeValue) → length node.entries < capacity_of node.key_len node.leaf → is_full node ≡ false
roomy node room = ap not (lt-ltb (length node.entries) (capacity_of node.key_len node.leaf) room)

upper_roomy : (node : NodeValue) → IsNode node → 2 ≤ length node.entries → is_full (upper_half node) ≡ false
upper_roomy node is enough = roomy (upper_half node) (omega (arith, is.room, length-drop (middle_of node) node.entries))

lower_roomy : (right : ℕ) (node : NodeValue) → IsNode node → is_full node ≡ true → is_full (lower_half right node) ≡ false
lower_roomy right node is full =
    let enough = full_enough node.key_len (length node.entries) node.leaf is.short_key (not-true (nat_lt (length node.entries) (capacity_of node.key_len node.leaf)) full) in
    roomy (lower_half right node) (omega (arith, is.room, length-take-le (middle_of node) node.entries (omega arith)))

no_full_leaf : (node : NodeValue) → is_full node ≡ false → has_full_leaf (Holds node) ≡ false
no_full_leaf node room = and_false node.leaf (is_full node) room

no_full_inner : (node : NodeValue) → is_full node ≡ false → has_full_inner (Holds node) ≡ false
no_full_inner node room = and_false (not node.leaf) (is_full node) room

-- a full node of a page is cut: one full leaf or inner node fewer
cut_leaf : (page right : ℕ) (w now : World) → CutsFull true page right w now → full_leaves now < full_leaves w
cut_leaf page right w now (node, is, sound, kind, full, written) =
    subst (λ n. n < full_leaves w) (sym (ap (count_by has_full_leaf) written))
    (count_by-set_fewer has_full_leaf w.pages page (Holds (lower_half right node)) Blank (page_within w page node is) (no_full_leaf (lower_half right node) (lower_roomy right node sound full))
    (ap has_full_leaf is ∙ and_from node.leaf (is_full node) kind full))

cut_inner : (page right : ℕ) (w now : World) → CutsFull false page right w now → full_inner now < full_inner w
cut_inner page right w now (node, is, sound, kind, full, written) =
    subst (λ n. n < full_inner w) (sym (ap (count_by has_full_inner) written))
    (count_by-set_fewer has_full_inner w.pages page (Holds (lower_half right node)) Blank (page_within w page node is) (no_full_inner (lower_half right node) (lower_roomy right node sound full))
    (ap has_full_inner is ∙ and_from (not node.leaf) (is_full node) (ap not kind) full))

cut_inner_leaves : (page right : ℕ) (w now : World) → CutsFull false page right w now → full_leaves now ≤ full_leaves w
cut_inner_leaves page right w now (node, is, sound, kind, full, written) = written_leaves page (lower_half right node) w now (no_full_leaf (lower_half right node) (lower_roomy right node sound full)) written

-- fewer nodes begin below a lower pair
fewer_below : (page : ℕ) (lower low : Pair) (w now : World) → BeginsBelow w page lower low → Visits w now → nodes_below lower now < nodes_below low w
fewer_below page lower low w now (node, is, from, less) same =
    subst (λ n. n < nodes_below low w) (sym (below_same lower w now same))
    (count_by-fewer (has_low_below lower) (has_low_below low) w.pages page Blank wider (page_within w page node is)
    (ap (has_low_below lower) is ∙ ap (λ bound. begins_below bound lower) from ∙ not_below_itself lower)
    (ap (has_low_below low) is ∙ ap (λ bound. begins_below bound low) from ∙ less) refl refl)
  where
    wider_low : (bound : Option Pair) → begins_below bound lower ≡ true → begins_below bound low ≡ true
    wider_low None below_lower = refl
    wider_low (Some start) below_lower = below-trans start lower low below_lower less

    wider : (value : PageValue) → has_low_below lower value ≡ true → has_low_below low value ≡ true
    wider Blank below_lower = absurd (false≢true below_lower)
    wider (Defines def) below_lower = absurd (false≢true below_lower)
    wider (Holds start) below_lower = wider_low start.low below_lower

next_differs : (page next : ℕ) → (next ≡ page → ⊥) → eqb page next ≡ false
next_differs page next differ = false_from_ne_true (eqb page next) (λ same. differ (sym (eqb-true page next same)))

-- a walk that comes to another page has made one move more
pub comes : (page next moves : ℕ) → (next ≡ page → ⊥) → (if true && not (true && eqb page next) then moves + 1 else moves) ≡ moves + 1
comes page next moves differ = ap (λ same. if not same then moves + 1 else moves) (next_differs page next differ)

-- on the way of a search to the left
left_falls : (walk : Walk) (w now : World) (low : Pair) (or_at : Bool) (way : Way) (to : Stage) (moves before after : ℕ) → Visits w now → GoesLeft walk w low or_at way to → MayMove (stage.Left low or_at way) moves w → Falls (stage.Left low or_at way) moves w before now after to
left_falls walk w now low or_at way.Start to moves before after same (page, root, is) room =
    subst (Falls (stage.Left low or_at way.Start) moves w before now after) (sym is) (inr (leaves_same w now same, inr (refl, inr (refl, inr (refl, inr (below_same low w now same, inl (omega arith)))))))
left_falls walk w now low or_at (way.Down page) to moves before after same goes room =
    ⊎_elim (λ (next, leads, is). subst (Falls (stage.Left low or_at (way.Down page)) moves w before now after) (sym is)
    (inr (leaves_same w now same, inr (refl, inr (refl, inr (refl, inr (below_same low w now same, inr (refl, inl (subst (λ n. length now.pages - n < length w.pages - moves) (sym (comes page next moves leads.1)) (moved w now moves same room))))))))))
    (λ is. subst (Falls (stage.Left low or_at (way.Down page)) moves w before now after) (sym is)
    (inr (leaves_same w now same, inr (refl, inr (refl, inr (refl, inr (below_same low w now same, inr (refl, inr (stayed w now moves same, inl (omega arith))))))))))
    goes
left_falls walk w now low or_at (way.Leaf page) to moves before after same is room =
    subst (Falls (stage.Left low or_at (way.Leaf page)) moves w before now after) (sym is)
    (inr (leaves_same w now same, inr (refl, inr (refl, inr (refl, inr (below_same low w now same, inr (refl, inr (stayed w now moves same, inl (omega arith)))))))))
left_falls walk w now low or_at (way.Shared page) to moves before after same goes room =
    ⊎_elim (λ (next, leads, is). subst (Falls (stage.Left low or_at (way.Shared page)) moves w before now after) (sym is)
    (inr (leaves_same w now same, inr (refl, inr (refl, inr (refl, inr (below_same low w now same, inr (refl, inl (moved w now moves same room)))))))))
    (λ (lower, begins, is). subst (Falls (stage.Left low or_at (way.Shared page)) moves w before now after) (sym is)
    (inr (leaves_same w now same, inr (refl, inr (refl, inr (refl, inl (fewer_below page lower low w now begins same)))))))
    goes

-- the first numbers of a posting: the full leaves, and the full inner nodes
rise_same : {P : Type 0} (n : ℕ) (w now : World) → Visits w now → P → (full_leaves now < full_leaves w) ⊎ ((full_leaves now ≡ full_leaves w) × ((n < n) ⊎ ((n ≡ n) × ((full_inner now < full_inner w) ⊎ ((full_inner now ≡ full_inner w) × P)))))
rise_same n w now same rest = inr (leaves_same w now same, inr (refl, inr (inner_same w now same, rest)))

-- on the way to a separator, to a next page or up
toward_falls : (walk : Walk) (w now : World) (separator : Separator) (page next : ℕ) (above last : Option ℕ) (to : Stage) (moves before after : ℕ) → Visits w now → (next ≡ page → ⊥) → GoesToward separator next last to → MayMove (stage.Post separator (rise.Down page above)) moves w → Falls (stage.Post separator (rise.Down page above)) moves w before now after to
toward_falls walk w now separator page next above last to moves before after same differ toward room =
    ⊎_elim (λ is. subst (Falls (stage.Post separator (rise.Down page above)) moves w before now after) (sym is)
    (rise_same 1 w now same (inr (refl, inr (refl, inr (refl, inl (subst (λ n. length now.pages - n < length w.pages - moves) (sym (comes page next moves differ)) (moved w now moves same room))))))))
    (λ (over, told, is). subst (Falls (stage.Post separator (rise.Down page above)) moves w before now after) (sym is) (rise_same 1 w now same (inr (refl, inr (refl, inl (omega arith)))))) toward

-- in the posting of a separator
rise_falls : (walk : Walk) (w now : World) (separator : Separator) (rise : Rise) (to : Stage) (moves before after : ℕ) → GoesUp walk w now separator rise to → MayMove (stage.Post separator rise) moves w → Falls (stage.Post separator rise) moves w before now after to
rise_falls walk w now separator rise.Root to moves before after (same, (page, root, goes)) room =
    ⊎_elim (λ is. subst (Falls (stage.Post separator rise.Root) moves w before now after) (sym is) (rise_same 1 w now same (inr (refl, inr (refl, inl (omega arith))))))
    (λ is. subst (Falls (stage.Post separator rise.Root) moves w before now after) (sym is) (rise_same 1 w now same (inr (refl, inr (refl, inl (omega arith)))))) goes
rise_falls walk w now separator (rise.Down page above) to moves before after (same, goes) room =
    ⊎_elim (λ is. subst (Falls (stage.Post separator (rise.Down page above)) moves w before now after) (sym is) (inr (leaves_same w now same, inl (omega arith))))
    (λ on. ⊎_elim (λ (next, leads, differ, toward). toward_falls walk w now separator page next above above to moves before after same differ toward room)
    (λ (next, leads, differ, toward). toward_falls walk w now separator page next above (Some page) to moves before after same differ toward room) on) goes
rise_falls walk w now separator (rise.Above page) to moves before after (same, is) room =
    subst (Falls (stage.Post separator (rise.Above page)) moves w before now after) (sym is) (rise_same 1 w now same (inr (refl, inr (refl, inr (refl, inr (stayed w now moves same, inl (omega arith)))))))
rise_falls walk w now separator (rise.Held page None) to moves before after goes room =
    ⊎_elim (λ (posts, is). subst (Falls (stage.Post separator (rise.Held page None)) moves w before now after) (sym is)
    (first (full_leaves now) (full_leaves w) (⊎_elim (λ same. omega (arith, leaves_same w now same)) (λ (node, inner, written). written_leaves page node w now (inner_no_leaf node inner) written) posts) (inl (omega arith))))
    (λ (same, on). ⊎_elim (λ (right, past, is). subst (Falls (stage.Post separator (rise.Held page None)) moves w before now after) (sym is)
    (rise_same 1 w now same (inr (refl, inr (refl, inr (refl, inl (moved w now moves same room)))))))
    (λ is. subst (Falls (stage.Post separator (rise.Held page None)) moves w before now after) (sym is) (rise_same 1 w now same (inr (refl, inr (refl, inr (refl, inr (stayed w now moves same, inl (omega arith)))))))) on) goes
rise_falls walk w now separator (rise.Held page (Some next)) to moves before after goes room =
    ⊎_elim (λ (posts, is). subst (Falls (stage.Post separator (rise.Held page (Some next))) moves w before now after) (sym is)
    (⊎_elim (λ same. rise_same 1 w now same (inl (omega arith)))
    (λ (node, inner, room_left, written). first (full_leaves now) (full_leaves w) (written_leaves page node w now (no_full_leaf node room_left) written)
    (inr (refl, first (full_inner now) (full_inner w) (written_inner page node w now (no_full_inner node room_left) written) (inl (omega arith))))) posts))
    (λ (same, on). ⊎_elim (λ (right, past, is). subst (Falls (stage.Post separator (rise.Held page (Some next))) moves w before now after) (sym is) (rise_same 1 w now same (inl (omega arith))))
    (λ is. subst (Falls (stage.Post separator (rise.Held page (Some next))) moves w before now after) (sym is) (rise_same 1 w now same (inl (omega arith)))) on) goes
rise_falls walk w now separator (rise.Full page) to moves before after (more, is) room =
    subst (Falls (stage.Post separator (rise.Full page)) moves w before now after) (sym is) (inr (allocated_leaves w now more, inr (refl, inr (allocated_inner w now more, inr (refl, inr (refl, inl (omega arith)))))))
rise_falls walk w now separator (rise.Fresh page right) to moves before after (same, is) room =
    subst (Falls (stage.Post separator (rise.Fresh page right)) moves w before now after) (sym is) (rise_same 1 w now same (inr (refl, inr (refl, inr (refl, inr (stayed w now moves same, inl (omega arith)))))))
rise_falls walk w now separator (rise.Split page right) to moves before after ((node, here, sound, enough, written), is) room =
    let room_left = upper_roomy node sound enough in
    subst (Falls (stage.Post separator (rise.Split page right)) moves w before now after) (sym is)
    (first (full_leaves now) (full_leaves w) (written_leaves right (upper_half node) w now (no_full_leaf (upper_half node) room_left) written)
    (inr (
      refl,
      first (full_inner now) (full_inner w) (written_inner right (upper_half node) w now (no_full_inner (upper_half node) room_left) written)
          (inr (refl, inr (refl, inr (refl, inr (written_stayed right (upper_half node) w now moves written, inl (omega arith)))))),
    )))
rise_falls walk w now separator (rise.Cut page right) to moves before after (true, cuts, (half, next, node, which, child, told, low, is)) room =
    subst (Falls (stage.Post separator (rise.Cut page right)) moves w before now after) (sym is) (inl (cut_leaf page right w now cuts))
rise_falls walk w now separator (rise.Cut page right) to moves before after (false, cuts, (half, next, node, which, child, told, low, is)) room =
    subst (Falls (stage.Post separator (rise.Cut page right)) moves w before now after) (sym is)
    (first (full_leaves now) (full_leaves w) (cut_inner_leaves page right w now cuts) (inr (refl, inl (cut_inner page right w now cuts))))
rise_falls walk w now separator rise.Again to moves before after (same, is) room =
    subst (Falls (stage.Post separator rise.Again) moves w before now after) (sym is) (rise_same 1 w now same (inr (refl, inr (refl, inl (omega arith)))))
rise_falls walk w now separator rise.Named to moves before after (same, (page, root, goes)) room =
    ⊎_elim (λ is. subst (Falls (stage.Post separator rise.Named) moves w before now after) (sym is) (rise_same 1 w now same (inr (refl, inr (refl, inl (omega arith))))))
    (λ is. subst (Falls (stage.Post separator rise.Named) moves w before now after) (sym is) (rise_same 1 w now same (inr (refl, inr (refl, inl (omega arith)))))) goes
rise_falls walk w now separator rise.Grow to moves before after (more, is) room =
    subst (Falls (stage.Post separator rise.Grow) moves w before now after) (sym is) (inr (allocated_leaves w now more, inr (refl, inr (allocated_inner w now more, inr (refl, inr (refl, inl (omega arith)))))))
rise_falls walk w now separator (rise.Crown root) to moves before after ((node, inner, room_left, written), is) room =
    subst (Falls (stage.Post separator (rise.Crown root)) moves w before now after) (sym is)
    (first (full_leaves now) (full_leaves w) (written_leaves root node w now (no_full_leaf node room_left) written)
    (inr (refl, first (full_inner now) (full_inner w) (written_inner root node w now (no_full_inner node room_left) written) (inr (refl, inr (refl, inl (omega arith)))))))
rise_falls walk w now separator (rise.Crowned root) to moves before after (named, is) room =
    subst (Falls (stage.Post separator (rise.Crowned root)) moves w before now after) (sym is) (inr (named_leaves walk root w now named, inl (omega arith)))

-- a turn that goes on leaves less of its call
pub goes_falls : (walk : Walk) (w now : World) (from to : Stage) (moves before after : ℕ) → Goes walk w now from to → MayMove from moves w → Falls from moves w before now after to
goes_falls walk w now stage.Start to moves before after (same, (page, root, is)) room =
    subst (Falls stage.Start moves w before now after) (sym is) (inr (leaves_same w now same, inr (refl, inr (refl, inr (refl, inr (refl, inl (omega arith)))))))
goes_falls walk w now (stage.Down page) to moves before after (same, goes) room =
    ⊎_elim (λ (next, leads, is). subst (Falls (stage.Down page) moves w before now after) (sym is)
    (inr (leaves_same w now same, inr (refl, inr (refl, inr (refl, inr (refl, inr (refl, inl (subst (λ n. length now.pages - n < length w.pages - moves) (sym (comes page next moves leads.1)) (moved w now moves same room))))))))))
    (λ is. subst (Falls (stage.Down page) moves w before now after) (sym is) (inr (leaves_same w now same, inr (refl, inr (refl, inr (refl, inr (refl, inr (refl, inr (stayed w now moves same, inl (omega arith))))))))))
    goes
goes_falls walk w now (stage.Leaf page) to moves before after (same, goes) room =
    ⊎_elim (λ is. subst (Falls (stage.Leaf page) moves w before now after) (sym is) (inr (leaves_same w now same, inr (refl, inr (refl, inr (refl, inr (refl, inr (refl, inr (stayed w now moves same, inl (omega arith))))))))))
    (λ on. ⊎_elim (λ (above, is). subst (Falls (stage.Leaf page) moves w before now after) (sym is) (inr (leaves_same w now same, inr (refl, inr (refl, inr (refl, inr (refl, inr (refl, inr (stayed w now moves same, inl (omega arith))))))))))
    (λ is. subst (Falls (stage.Leaf page) moves w before now after) (sym is) (inr (leaves_same w now same, inr (refl, inr (refl, inr (refl, inr (refl, inr (refl, inr (stayed w now moves same, inl (omega arith)))))))))) on) goes
goes_falls walk w now (stage.Held page) to moves before after (same, goes) room =
    ⊎_elim (λ (next, leads, is). subst (Falls (stage.Held page) moves w before now after) (sym is) (inr (leaves_same w now same, inr (refl, inr (refl, inr (refl, inr (refl, inr (refl, inl (moved w now moves same room)))))))))
    (λ is. subst (Falls (stage.Held page) moves w before now after) (sym is) (inr (leaves_same w now same, inr (refl, inr (refl, inr (refl, inr (refl, inr (refl, inr (stayed w now moves same, inl (omega arith)))))))))) goes
goes_falls walk w now (stage.Full page) to moves before after (more, is) room =
    subst (Falls (stage.Full page) moves w before now after) (sym is) (inr (allocated_leaves w now more, inr (refl, inr (refl, inr (refl, inr (refl, inl (omega arith)))))))
goes_falls walk w now (stage.Split page right) to moves before after ((node, here, sound, enough, written), is) room =
    subst (Falls (stage.Split page right) moves w before now after) (sym is)
    (first (full_leaves now) (full_leaves w) (written_leaves right (upper_half node) w now (no_full_leaf (upper_half node) (upper_roomy node sound enough)) written)
    (inr (refl, inr (refl, inr (refl, inr (refl, inr (refl, inr (written_stayed right (upper_half node) w now moves written, inl (omega arith)))))))))
goes_falls walk w now (stage.Cut page right) to moves before after (cuts, (separator, is)) room =
    subst (Falls (stage.Cut page right) moves w before now after) (sym is) (inl (cut_leaf page right w now cuts))
goes_falls walk w now (stage.Share page above) to moves before after (same, is) room =
    subst (Falls (stage.Share page above) moves w before now after) (sym is) (inr (leaves_same w now same, inr (refl, inr (refl, inr (refl, inr (refl, inr (refl, inr (stayed w now moves same, inl (omega arith)))))))))
goes_falls walk w now (stage.Shared page above) to moves before after (same, (next, goes)) room =
    ⊎_elim (λ (leads, is). subst (Falls (stage.Shared page above) moves w before now after) (sym is) (inr (leaves_same w now same, inr (refl, inr (refl, inr (refl, inr (refl, inr (refl, inl (moved w now moves same room)))))))))
    (λ (leads, is). subst (Falls (stage.Shared page above) moves w before now after) (sym is) (inr (leaves_same w now same, inr (refl, inr (refl, inr (refl, inr (refl, inr (refl, inl (moved w now moves same room))))))))) goes
goes_falls walk w now (stage.SharedLeft page) to moves before after (same, goes) room =
    ⊎_elim (λ (next, leads, is). subst (Falls (stage.SharedLeft page) moves w before now after) (sym is) (inr (leaves_same w now same, inr (refl, inr (refl, inr (refl, inr (refl, inr (refl, inl (moved w now moves same room)))))))))
    (λ (low, or_at, is). subst (Falls (stage.SharedLeft page) moves w before now after) (sym is) (inr (leaves_same w now same, inr (refl, inr (refl, inl (omega arith)))))) goes
goes_falls walk w now (stage.Left low or_at way) to moves before after (same, goes) room = left_falls walk w now low or_at way to moves before after same goes room
goes_falls walk w now (stage.Post separator rise) to moves before after goes room = rise_falls walk w now separator rise to moves before after goes room
goes_falls walk w now stage.Ended to moves before after goes room = absurd goes

-- a walk that stays where it is has made no move
pub moves_stay : (spot : Option Spot) (moves : ℕ) → moves_after spot spot moves ≡ moves
moves_stay None moves = refl
moves_stay (Some spot) moves = anew spot.above spot.comes spot.page
  where
    anew : (above comes : Bool) (page : ℕ) → (if above && not above then 0 else (if comes && not (comes && eqb page page) then moves + 1 else moves)) ≡ moves
    anew true true page = ap (λ same. if not same then moves + 1 else moves) (eq-eqb page page refl)
    anew true false page = refl
    anew false true page = ap (λ same. if not same then moves + 1 else moves) (eq-eqb page page refl)
    anew false false page = refl

-- a turn that answers More leaves less of its call
pub turn_falls : (walk : Walk) (w now : World) (before after : ℕ) (from to : Stage) (moves : ℕ) → IsOneTurn walk w now before after from to → MayMove from moves w → Falls from moves w before now after to
turn_falls walk w now before after from to moves turn room = ⊎_elim (λ waits. wait_falls waits) (λ goes. goes_falls walk w now from to moves before after goes room) turn
  where
    wait_falls : Waits w now before after from to → Falls from moves w before now after to
    wait_falls waits = subst (Falls from moves w before now after) (sym waits.same)
        (subst (λ (v : World). Falls from moves w before v after from) (sym waits.world)
        (inr (refl, inr (refl, inr (refl, inr (refl, inr (refl, inr (refl, inr (ap (λ n. length w.pages - n) (moves_stay (spot_of from) moves), inr (refl, inl waits.less))))))))))

-- a walk that goes in no circle may move
pub may_move : (spot : Option Spot) (moves pages : ℕ) → ((page : ℕ) → circle_at spot moves pages ≡ Some page → ⊥) → IfSome spot (λ _. moves < pages)
may_move None moves pages none = tt
may_move (Some spot) moves pages none = ⊎_elim (λ within. within) (λ past. absurd (none spot.page (ap (λ less. if less then None else Some spot.page) (le-ltb moves pages past)))) (cases_lt moves pages)

-- what a turn that answers More leaves, by the moves that were counted
pub turn_leaves : {T : Type 0} (turn : Turn T) (walk : Walk) (w now : World) (before after : ℕ) (from to : Stage) (moves counted : ℕ) → IsTurned turn walk w now before after from to → MayMove from moves w → counted ≡ moves_after (spot_of from) (spot_of to) moves → OnMore turn (IsLess (left_of to counted now after) (left_of from moves w before))
turn_leaves (Done answer) walk w now before after from to moves counted rule room is = tt
turn_leaves More walk w now before after from to moves counted rule room is = subst (λ n. IsLess (left_of to n now after) (left_of from moves w before)) (sym is) (turn_falls walk w now before after from to moves rule room)
turn_leaves (Busy op) walk w now before after from to moves counted rule room is = tt
turn_leaves (Refused fault) walk w now before after from to moves counted rule room is = tt
