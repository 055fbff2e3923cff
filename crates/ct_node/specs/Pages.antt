-- Pages that are nodes: when a page is one, what it shows, and its bytes.
use Rattle.std.specs.Prelude.{◌≡◌, ◌<◌, ◌^◌, ℕ, ◌+◌, ◌-◌, ◌*◌, ◌==◌, ◌&&◌, ◌||◌, Bool, true, nat_le, if◌then◌else◌, List, [], ◌∷◌, ◌++◌, length, take, drop, replicate, flat_map, slice_index, Option, Some, None}
use Rattle.std.specs.List.{list_all}
use Rattle.std.specs.Ordering.{is_lt}
use Rattle.ct_definitions.specs.Pairs.{Pair, pair_cmp}
use Rattle.ct_page.specs.declared.header.Header.{Header}
use Rattle.ct_page.specs.declared.kind.PageKind.TheVariants.{Leaf, Inner}
use Rattle.ct_page.specs.Fields.{u16_at, u64_at, are_zero}
use Rattle.ct_page.specs.Headers.{has_header, header_bytes}
use Rattle.ct_node.specs.Nodes.{NodeValue, pairs_in, width_of, capacity_of, is_within}
use Rattle.ct_node.specs.Cells.{pair_at, entries_of, pair_bytes, entry_bytes}

-- whether the kind of a page is that of a node: a leaf, or an inner node
abbrev pub is_node_kind : ℕ → Bool
is_node_kind kind = kind == 5 || kind == 6

-- whether a page says that it is a leaf
abbrev pub is_leaf_in : List ℕ → Bool
is_leaf_in page = slice_index page 0 == 5

-- how long a page says that its keys are
abbrev pub key_len_in : List ℕ → ℕ
key_len_in page = slice_index page 24

-- where the high bound stands: behind the header and the low bound, which has 9 bytes and a key
abbrev pub high_at : ℕ → ℕ
high_at key_len = 128 + (9 + key_len)

-- where the entries stand: behind both bounds
abbrev pub cells_at : ℕ → ℕ
cells_at key_len = 128 + 2 * (9 + key_len)

-- where the entries of a page end
abbrev pub cells_end : List ℕ → ℕ
cells_end page = cells_at (key_len_in page) + u16_at 6 page * width_of (key_len_in page) (is_leaf_in page)

-- whether the bound at a place is a pair, or open and then all zeros
abbrev pub is_bound : ℕ → ℕ → List ℕ → Bool
is_bound key_len at page = slice_index page at == 1 || are_zero (take (9 + key_len) (drop at page))

-- the pair of the bound at a place, where it is not open
abbrev pub bound_at : ℕ → ℕ → List ℕ → Option Pair
bound_at key_len at page = if slice_index page at == 0 then None else Some (pair_at key_len (drop (at + 1) page))

-- what a page shows as a node
unfoldable pub value_in : List ℕ → NodeValue
value_in page = record {
  file = u16_at 2 page;
  index = u16_at 4 page;
  leaf = is_leaf_in page;
  key_len = key_len_in page;
  low = bound_at (key_len_in page) 128 page;
  high = bound_at (key_len_in page) (high_at (key_len_in page)) page;
  right = u64_at 16 page;
  entries = entries_of (key_len_in page) (is_leaf_in page) (u16_at 6 page) (drop (cells_at (key_len_in page)) page);
}

-- whether pairs rise, each below the next one
abbrev pub rises : List Pair → Bool
rises [] = true
rises (pair ∷ []) = true
rises (pair ∷ next ∷ pairs) = is_lt (pair_cmp pair next) && rises (next ∷ pairs)

-- whether the pairs of a node rise and are within its bounds
abbrev pub is_in_order : NodeValue → Bool
is_in_order node = rises (pairs_in node) && list_all (is_within node.low node.high) (pairs_in node)

-- whether keys can be so long: from 1 to 128 bytes
abbrev pub is_key_len : ℕ → Bool
is_key_len key_len = nat_le 1 key_len && nat_le key_len 128

-- whether a page says that it is a node with keys
abbrev pub is_node_of_keys : List ℕ → Bool
is_node_of_keys page = has_header page && is_node_kind (slice_index page 0) && is_key_len (key_len_in page)

-- whether a page has the header of a node, with no more entries than there is room for
unfoldable pub has_node_header : List ℕ → Bool
has_node_header page = is_node_of_keys page && nat_le (u16_at 6 page) (capacity_of (key_len_in page) (is_leaf_in page))

-- whether both bounds of a page are in the grammar
abbrev pub has_bounds : List ℕ → Bool
has_bounds page = is_bound (key_len_in page) 128 page && is_bound (key_len_in page) (high_at (key_len_in page)) page

-- whether a page is a node: header, bounds, entries in order within the bounds, and zeros behind them
unfoldable pub is_node_page : List ℕ → Bool
is_node_page page = has_node_header page && has_bounds page && is_in_order (value_in page) && are_zero (drop (cells_end page) page)

-- the node of a page that is one
abbrev pub node_in : List ℕ → Option NodeValue
node_in page = if is_node_page page then Some (value_in page) else None

-- the bytes of a bound: 1 and its pair, or zeros where it is open
abbrev pub bound_bytes : ℕ → Option Pair → List ℕ
bound_bytes key_len None = replicate (9 + key_len) 0
bound_bytes key_len (Some pair) = 1 ∷ pair_bytes pair

-- what a bound has that can be written: a key of the node's length, and a number of eight bytes
abbrev pub IsFitting : ℕ → Option Pair → Type 0
IsFitting key_len None = Unit {0}
IsFitting key_len (Some pair) = (length pair.key ≡ key_len) × (pair.num < 2 ^ 64)

-- the header of a node's page
abbrev pub header_in : ℕ → NodeValue → Header
header_in position node = record {
  kind = if node.leaf then Leaf else Inner;
  file = node.file;
  index = node.index;
  count = length node.entries;
  position = position;
  right = node.right;
  key_len = node.key_len;
}

-- how many bytes are left behind the entries of a node
abbrev pub room_in : NodeValue → ℕ
room_in node = 3968 - 2 * (9 + node.key_len) - length node.entries * width_of node.key_len node.leaf

-- the page of a node with the position of its last image: header, bounds, entries, zeros
unfoldable pub page_text : ℕ → NodeValue → List ℕ
page_text position node =
    header_bytes (header_in position node) ++ bound_bytes node.key_len node.low ++ bound_bytes node.key_len node.high ++ flat_map (entry_bytes node.leaf) node.entries ++ replicate (room_in node) 0
