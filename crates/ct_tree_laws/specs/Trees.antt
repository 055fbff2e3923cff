-- An index as a tree with right links: which pages its nodes stand in, and how they hang together.
use Rattle.std.specs.Prelude.{◌≡◌, ℕ, suc, ◌<◌, ◌≤◌, List, [], ◌∷◌, length, flat_map, slice_get, Bool, true, false, Option, Some, None, ◌⊎◌}
use Rattle.std.specs.List.{All, AllPass}
use Rattle.std.specs.Ordering.{is_lt, is_eq}
use Rattle.ct_definitions.specs.Pairs.{Pair, pair_cmp}
use Rattle.ct_node.specs.declared.root.Root.{Root}
use Rattle.ct_node.specs.declared.target.Target.{Target}
use Rattle.ct_node.specs.declared.root.IndexRow.{IndexRow}
use Rattle.ct_node.specs.Nodes.{Entry, NodeValue, IsNode, pairs_in}
use Rattle.ct_node.specs.Places.{is_ahead, is_past}
use Rattle.ct_node.specs.Roles.{first_of}
use Rattle.ct_node.specs.Worlds.{World, PageValue, DefinitionValue, Blank, Defines, Holds, page_at, IsLevel, has_latch, has_own, has_fresh, is_fresh}

-- a tree: the file and the index that each of its nodes bears, the length of its keys, and the page of its first leaf
pub record Tree : Type 0 where
  pub file : ℕ
  pub index : ℕ
  pub key_len : ℕ
  pub first : ℕ

-- a node bears the tree's file and index
pub record IsOf (t : Tree) (node : NodeValue) : Type 0 where
  pub file : node.file ≡ t.file
  pub index : node.index ≡ t.index

-- a node of a page is one of the tree, of this kind and with this low bound, and links reach it
pub record IsAt (w : World) (t : Tree) (leaf : Bool) (low : Option Pair) (page : ℕ) : Type 0 where
  pub node : NodeValue
  pub is : page_at w page ≡ Holds node
  pub of : IsOf t node
  pub key_len : node.key_len ≡ t.key_len
  pub kind : node.leaf ≡ leaf
  pub from : node.low ≡ low
  pub linked : is_fresh page w ≡ false

-- a page with the low bound that its node has
pub record Link : Type 0 where
  pub low : Option Pair
  pub page : ℕ

-- the link of a node to the right: the page there begins where the node ends
abbrev pub link_by : ℕ → Option Pair → Option Link
link_by right None = None
link_by right (Some high) = Some (record { low = Some high; page = right })

abbrev pub link_of : NodeValue → Option Link
link_of node = link_by node.right node.high

-- a low bound is below a high one
abbrev pub Rises : Option Pair → Option Pair → Type 0
Rises low None = Unit {0}
Rises None (Some high) = Unit {0}
Rises (Some low) (Some high) = is_lt (pair_cmp low high) ≡ true

-- an inner node begins at its low bound and leads down to pages that begin where their entries do; the first one begins where the node does
pub record IsInner (w : World) (t : Tree) (node : NodeValue) : Type 0 where
  pub first : Entry
  pub rest : List Entry
  pub is : node.entries ≡ first ∷ rest
  pub begins : is_eq (pair_cmp first.pair (first_of node.key_len node.low)) ≡ true
  pub least : (leaf : Bool) × IsAt w t leaf node.low first.child
  pub others : All (λ entry. (leaf : Bool) × IsAt w t leaf (Some entry.pair) entry.child) rest

-- a node that links reach is in its role
pub record IsInRole (w : World) (t : Tree) (node : NodeValue) : Type 0 where
  pub key_len : node.key_len ≡ t.key_len
  pub node_is : IsNode node
  pub rises : Rises node.low node.high
  pub last : node.high ≡ None → node.right ≡ 0
  pub right : (link : Link) → link_of node ≡ Some link → IsAt w t node.leaf link.low link.page
  pub inner : node.leaf ≡ false → IsInner w t node

-- all pages below an inner node of a level stand on the next lower one
abbrev pub LeadsLower : World → ℕ → List Entry → Type 0
LeadsLower w level entries = (lower : ℕ) × (level ≡ suc lower) × All (λ entry. IsLevel w lower entry.child) entries

-- a node of a level links to the right to a page of the same level, and an inner one down to pages of the next lower one
pub record IsEven (w : World) (level : ℕ) (node : NodeValue) : Type 0 where
  pub right : (link : Link) → link_of node ≡ Some link → IsLevel w level link.page
  pub below : node.leaf ≡ false → LeadsLower w level node.entries

-- the link of the node in a page
abbrev pub link_in : PageValue → Option Link
link_in Blank = None
link_in (Defines def) = None
link_in (Holds node) = link_of node

-- the pairs of a page
abbrev pub pairs_in_page : PageValue → List Pair
pairs_in_page Blank = []
pairs_in_page (Defines def) = []
pairs_in_page (Holds node) = pairs_in node

abbrev pub pairs_at : World → ℕ → List Pair
pairs_at w page = pairs_in_page (page_at w page)

-- these are the leaves from a link on, by their right links, to the last one
abbrev pub Linked : World → Tree → Option Link → List ℕ → Type 0
Linked w t link [] = link ≡ None
Linked w t link (page ∷ pages) = (low : Option Pair) × (link ≡ Some (record { low = low; page = page })) × IsAt w t true low page × Linked w t (link_in (page_at w page)) pages

-- the page is one of these
abbrev pub IsAmong : ℕ → List ℕ → Type 0
IsAmong page [] = ⊥
IsAmong page (other ∷ pages) = (page ≡ other) ⊎ IsAmong page pages

-- an index is a tree: its definition names it, its leaves hang together from the first one on, all that links reach is in its role, and its levels are even
pub record IsTree (w : World) (at : Root) (t : Tree) (leaves : List ℕ) : Type 0 where
  pub def : DefinitionValue
  pub row : IndexRow
  pub defined : page_at w at.page ≡ Defines def
  pub named : slice_get def.rows at.index ≡ Some row
  pub file : def.file ≡ t.file
  pub index : t.index ≡ at.index
  pub key_len : row.key_len ≡ t.key_len
  pub first : row.first ≡ t.first
  pub root : (leaf : Bool) × IsAt w t leaf None row.root
  pub linked : Linked w t (Some (record { low = None; page = t.first })) leaves
  pub all : (page : ℕ) (node : NodeValue) → page_at w page ≡ Holds node → IsOf t node → node.leaf ≡ true → is_fresh page w ≡ false → IsAmong page leaves
  pub roles : (page : ℕ) (node : NodeValue) → page_at w page ≡ Holds node → IsOf t node → is_fresh page w ≡ false → IsInRole w t node
  pub levels : (page : ℕ) (node : NodeValue) → page_at w page ≡ Holds node → IsOf t node → is_fresh page w ≡ false → (level : ℕ) × IsLevel w level page × IsEven w level node

-- the pairs of the leaves, joined
abbrev pub joined : World → List ℕ → List Pair
joined w leaves = flat_map (pairs_at w) leaves

-- the pairs of an index: those of its leaves, joined
pub record Chain (w : World) (at : Root) (keys : List Pair) : Type 0 where
  pub tree : Tree
  pub leaves : List ℕ
  pub is : IsTree w at tree leaves
  pub keys_are : joined w leaves ≡ keys

-- no two operations hold conflicting latches, a page that no link reaches belongs to one operation and has no definition, and no two definitions are of one file
pub record IsApart (w : World) : Type 0 where
  pub latches : (page op other : ℕ) → has_own op page w ≡ true → has_latch other page w ≡ true → other ≡ op
  pub owners : (page op other : ℕ) → has_fresh op page w ≡ true → has_fresh other page w ≡ true → other ≡ op
  pub within : (page : ℕ) → is_fresh page w ≡ true → page < length w.pages
  pub some : 1 ≤ length w.pages
  pub zero : is_fresh 0 w ≡ false
  pub settled : (page : ℕ) (def : DefinitionValue) → page_at w page ≡ Defines def → is_fresh page w ≡ false
  pub files : (page other : ℕ) (def also : DefinitionValue) → page_at w page ≡ Defines def → page_at w other ≡ Defines also → def.file ≡ also.file → other ≡ page

-- a low bound is not above a target
abbrev pub IsLowFor : Target → Option Pair → Type 0
IsLowFor target None = Unit {0}
IsLowFor target (Some low) = is_ahead true target low ≡ true

-- a page from which a walk to the right and down reaches the target
abbrev pub IsNear : World → Tree → Target → ℕ → Type 0
IsNear w t target page = (leaf : Bool) × (low : Option Pair) × IsAt w t leaf low page × IsLowFor target low

-- a leaf of the tree that links reach
pub record IsLeaf (w : World) (t : Tree) (page : ℕ) (node : NodeValue) : Type 0 where
  pub is : page_at w page ≡ Holds node
  pub of : IsOf t node
  pub leaf : node.leaf ≡ true
  pub linked : is_fresh page w ≡ false

-- a low bound is below another
abbrev pub IsLower : Option Pair → Option Pair → Type 0
IsLower low None = ⊥
IsLower None (Some other) = Unit {0}
IsLower (Some low) (Some other) = is_lt (pair_cmp low other) ≡ true

-- a leaf has nothing for a search to the right: it ends at or below the target, or the search has it and all its pairs are below the target, or at it where that counts
abbrev pub IsClear : World → ℕ → Bool → Target → ℕ → NodeValue → Type 0
IsClear w op or_at target page node = (is_past node.high target ≡ true) ⊎ ((has_latch op page w ≡ true) × AllPass (is_ahead or_at target) (pairs_in node))

-- a search to the right has passed all leaves that begin below its place
abbrev pub HasPassed : World → Tree → ℕ → Bool → Target → Option Pair → Type 0
HasPassed w t op or_at target low = (page : ℕ) (node : NodeValue) → IsLeaf w t page node → IsLower node.low low → IsClear w op or_at target page node
