-- A node of an index: pairs in order between two bounds, each of an inner node with a page below.
use Rattle.std.specs.Prelude.{◌≡◌, ℕ, ◌+◌, ◌-◌, ◌*◌, ◌/◌, ◌≤◌, List, [], ◌∷◌, length, map, Bool, true, not, ◌&&◌, if◌then◌else◌, Option, Some, None}
use Rattle.std.specs.List.{AllPairs, AllPass, list_any}
use Rattle.std.specs.Ordering.{is_lt, is_eq}
use Rattle.ct_definitions.specs.Pairs.{Pair, pair_cmp}

-- a pair, and the page below that an inner node has for the pairs from it on; 0 in a leaf
pub record Entry : Type 0 where
  pub pair : Pair
  pub child : ℕ

-- what a node is to contracts
pub record NodeValue : Type 0 where
  pub file : ℕ
  pub index : ℕ
  pub leaf : Bool
  pub key_len : ℕ
  pub low : Option Pair
  pub high : Option Pair
  pub right : ℕ
  pub entries : List Entry

-- the pair of an entry
abbrev pub pair_in : Entry → Pair
pair_in entry = entry.pair

-- the pairs of a node
abbrev pub pairs_in : NodeValue → List Pair
pairs_in node = map pair_in node.entries

-- how many bytes an entry takes: its key, its number, and in an inner node its page below
abbrev pub width_of : ℕ → Bool → ℕ
width_of key_len leaf = if leaf then key_len + 8 else key_len + 16

-- how many entries a node has room for, beside its two bounds
abbrev pub capacity_of : ℕ → Bool → ℕ
capacity_of key_len leaf = (3968 - 2 * (9 + key_len)) / width_of key_len leaf

-- pairs in order, none twice
abbrev pub IsAscending : List Pair → Type 0
IsAscending pairs = AllPairs (λ pair next. is_lt (pair_cmp pair next) ≡ true) pairs

-- whether a pair is at a low bound or above it, where that is not open
abbrev pub is_from : Option Pair → Pair → Bool
is_from None pair = true
is_from (Some low) pair = not (is_lt (pair_cmp pair low))

-- whether a pair is below a high bound, where that is not open
abbrev pub is_below : Option Pair → Pair → Bool
is_below None pair = true
is_below (Some high) pair = is_lt (pair_cmp pair high)

-- whether a pair is within two bounds
abbrev pub is_within : Option Pair → Option Pair → Pair → Bool
is_within low high pair = is_from low pair && is_below high pair

-- what holds of every node
pub record IsNode (node : NodeValue) : Type 0 where
  pub some_key : 1 ≤ node.key_len
  pub short_key : node.key_len ≤ 128
  pub room : length node.entries ≤ capacity_of node.key_len node.leaf
  pub order : IsAscending (pairs_in node)
  pub bounds : AllPass (is_within node.low node.high) (pairs_in node)

-- whether a pair is among these
abbrev pub has_pair : Pair → List Pair → Bool
has_pair pair pairs = list_any (λ other. is_eq (pair_cmp other pair)) pairs

-- entries in order with one more, at the place of its pair
abbrev pub with_entry : Entry → List Entry → List Entry
with_entry new [] = new ∷ []
with_entry new (entry ∷ entries) = if is_lt (pair_cmp new.pair entry.pair) then new ∷ entry ∷ entries else entry ∷ with_entry new entries

-- whether an entry has another pair
abbrev pub has_other_pair : Pair → Entry → Bool
has_other_pair pair entry = not (is_eq (pair_cmp entry.pair pair))
