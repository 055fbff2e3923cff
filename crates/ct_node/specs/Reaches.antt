-- How a walk comes to a page, and so what the node there must be.
use Rattle.std.specs.Prelude.{ℕ, zero, suc, ◌-◌, ◌==◌, ◌&&◌, length, Bool, true, false, not, slice_get, if◌then◌else◌, Option, Some, None}
use Rattle.std.specs.List.{prefix_len}
use Rattle.std.specs.Ordering.{is_lt, is_eq}
use Rattle.ct_definitions.specs.Pairs.{Pair, pair_cmp}
use Rattle.ct_node.specs.declared.reach.Reach.{Reach}
use Rattle.ct_node.specs.declared.root.Root.{Root}
use Rattle.ct_node.specs.declared.target.Target.{Target}
use Rattle.ct_node.specs.declared.target.Target.TheVariants.{First, Last, At, Before}
use Rattle.ct_node.specs.Nodes.{NodeValue, pairs_in}
use Rattle.ct_node.specs.Places.{is_ahead, is_past}
use Rattle.ct_node.specs.Halves.{middle_of}
use Rattle.ct_node.specs.Roles.{begins_at_low}

-- whether a number is the one that is known, where one is
abbrev pub is_known : Option ℕ → ℕ → Bool
is_known None number = true
is_known (Some known) number = known == number

-- whether a node is of the kind that is known, where one is
abbrev pub is_of_kind : Option Bool → Bool → Bool
is_of_kind None leaf = true
is_of_kind (Some true) leaf = leaf
is_of_kind (Some false) leaf = not leaf

-- whether two bounds are the same
abbrev pub is_same_bound : Option Pair → Option Pair → Bool
is_same_bound None None = true
is_same_bound None (Some other) = false
is_same_bound (Some low) None = false
is_same_bound (Some low) (Some other) = is_eq (pair_cmp low other)

-- whether a low bound is below a high one
abbrev pub rises : Option Pair → Option Pair → Bool
rises low None = true
rises None (Some high) = true
rises (Some low) (Some high) = is_lt (pair_cmp low high)

-- whether a node is in its role: of the file, the index, the kind and the key length that are known, it begins at the bound by which it was reached and ends above that, and an inner one begins with an entry at that bound
abbrev pub is_in_role : Reach → NodeValue → Bool
is_in_role reach node = is_known reach.file node.file && (reach.index == node.index && (is_of_kind reach.leaf node.leaf && (is_known reach.key_len node.key_len && (is_same_bound node.low reach.low && (rises node.low node.high && begins_at_low node)))))

-- how long the keys of a target are, where it tells
abbrev pub key_len_of : Target → Option ℕ
key_len_of First = None
key_len_of Last = None
key_len_of (At pair) = Some (length pair.key)
key_len_of (Before pair) = None

-- the root of an index: it is open to the left
abbrev pub reach_root : Root → Target → Reach
reach_root at target = record { file = None; index = at.index; leaf = None; key_len = key_len_of target; low = None }

-- a page whose node was looked at
abbrev pub reach_here : NodeValue → Reach
reach_here node = record { file = Some node.file; index = node.index; leaf = Some node.leaf; key_len = Some node.key_len; low = node.low }

-- the page to the right of a node: of the same kind, it begins where the node ends
abbrev pub reach_right : NodeValue → Reach
reach_right node = record { file = Some node.file; index = node.index; leaf = Some node.leaf; key_len = Some node.key_len; low = node.high }

-- the right half of a node that is to be cut: it begins at the middle pair
abbrev pub reach_half : NodeValue → Reach
reach_half node = record { file = Some node.file; index = node.index; leaf = Some node.leaf; key_len = Some node.key_len; low = slice_get (pairs_in node) (middle_of node) }

-- the low bound of a page below: that of its entry; the first one begins where the node does
abbrev pub low_below : NodeValue → ℕ → Option Pair
low_below node zero = node.low
low_below node (suc place) = slice_get (pairs_in node) (suc place)

-- the page below of the entry at a place
abbrev pub reach_below : NodeValue → ℕ → Reach
reach_below node place = record { file = Some node.file; index = node.index; leaf = None; key_len = Some node.key_len; low = low_below node place }

-- how the walk to a target comes to the page at which it goes on from a node
abbrev pub reach_next : NodeValue → Target → Reach
reach_next node target =
    if is_past node.high target then reach_right node
    else (if node.leaf then reach_here node
    else reach_below node (prefix_len (is_ahead true target) (pairs_in node) - 1))
