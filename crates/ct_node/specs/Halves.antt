-- The two halves that a full node is split into, at its middle pair.
use Rattle.std.specs.Prelude.{ℕ, ◌/◌, length, take, drop, slice_get}
use Rattle.ct_node.specs.Nodes.{NodeValue, pairs_in}

-- the place of the middle pair
abbrev pub middle_of : NodeValue → ℕ
middle_of node = length node.entries / 2

-- the node to the right: from the middle pair on, up to the bound and the link that the node had
abbrev pub upper_half : NodeValue → NodeValue
upper_half node = record node { low = slice_get (pairs_in node) (middle_of node); entries = drop (middle_of node) node.entries }

-- the node that stays: up to the middle pair, with a link to the node to the right
abbrev pub lower_half : ℕ → NodeValue → NodeValue
lower_half right node = record node { high = slice_get (pairs_in node) (middle_of node); right = right; entries = take (middle_of node) node.entries }
