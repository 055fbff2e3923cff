-- Where a walk to a target goes on from a node.
use Rattle.std.specs.Prelude.{ℕ, ◌-◌, List, length, Bool, true, false, not, ◌&&◌, ◌||◌, nat_lt, slice_get, if◌then◌else◌, Option, Some, None}
use Rattle.std.specs.List.{prefix_len}
use Rattle.std.specs.Ordering.{is_lt, is_eq}
use Rattle.ct_definitions.specs.Pairs.{Pair, pair_cmp}
use Rattle.ct_node.specs.Nodes.{Entry, NodeValue, pairs_in}
use Rattle.ct_node.specs.declared.target.Target.{Target}
use Rattle.ct_node.specs.declared.target.Target.TheVariants.{First, Last, At, Before}
use Rattle.ct_node.specs.declared.target.Place.{Place}
use Rattle.ct_node.specs.declared.target.Place.TheVariants.{Right, Down, Here, End}

-- whether a pair is below another one, or at it where that counts
abbrev pub is_before : Bool → Pair → Pair → Bool
is_before or_at other pair = is_lt (pair_cmp pair other) || (or_at && is_eq (pair_cmp pair other))

-- whether a target is at or above a high bound; `Before` is above it
abbrev pub is_past : Option Pair → Target → Bool
is_past None target = false
is_past (Some high) First = false
is_past (Some high) Last = true
is_past (Some high) (At pair) = not (is_lt (pair_cmp pair high))
is_past (Some high) (Before pair) = is_lt (pair_cmp high pair)

-- whether a low bound is below a pair
abbrev pub begins_below : Option Pair → Pair → Bool
begins_below None pair = true
begins_below (Some low) pair = is_lt (pair_cmp low pair)

-- whether a pair is below a target, or at it where that counts
abbrev pub is_ahead : Bool → Target → Pair → Bool
is_ahead or_at First pair = false
is_ahead or_at Last pair = true
is_ahead or_at (At other) pair = is_before or_at other pair
is_ahead or_at (Before other) pair = is_before false other pair

-- in a leaf, the place of the first pair that is not below the target
abbrev pub here : List Pair → ℕ → Place
here pairs place = if nat_lt place (length pairs) then Here place else End

-- in an inner node, down to the page of the last pair that is not above the target
abbrev pub down : Option Entry → Place
down None = End
down (Some entry) = Down entry.child

-- where the walk to a target goes on
abbrev pub next_place : NodeValue → Target → Place
next_place node target =
    if is_past node.high target then Right node.right
    else (if node.leaf then here (pairs_in node) (prefix_len (is_ahead false target) (pairs_in node))
    else down (slice_get node.entries (prefix_len (is_ahead true target) (pairs_in node) - 1)))
