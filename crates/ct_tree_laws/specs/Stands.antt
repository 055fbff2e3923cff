-- What holds between the turns of an operation: what it remembers still stands.
use Rattle.std.specs.Prelude.{[], ◌≡◌, ℕ, suc, ◌<◌, ◌≤◌, ◌==◌, ◌&&◌, List, length, Bool, true, false, not, Option, Some, None, filter, if◌then◌else◌, ◌∷◌, ◌⊎◌, ◌+◌, nat_lt, slice_get}
use Rattle.std.specs.Ordering.{is_lt, is_eq}
use Rattle.ct_definitions.specs.Pairs.{Pair, pair_cmp, with_pair}
use Rattle.ct_node.specs.declared.root.Root.{Root}
use Rattle.ct_node.specs.declared.target.Target.{Target}
use Rattle.ct_node.specs.declared.target.Target.TheVariants.{At, Before}
use Rattle.ct_node.specs.declared.root.IndexRow.{IndexRow}
use Rattle.ct_node.specs.Nodes.{Entry, NodeValue, has_pair, is_within, capacity_of}
use Rattle.ct_node.specs.Halves.{upper_half}
use Rattle.ct_node.specs.Roles.{first_of}
use Rattle.ct_node.specs.Worlds.{World, DefinitionValue, Defines, Holds, Blank, page_at, IsLevel, IsBeside, IsOneAbove, has_latch, has_own, has_fresh, is_fresh, IsTidy, with_lost}
use Rattle.ct_tree_laws.specs.declared.walk.Walk.{Walk}
use Rattle.ct_tree_laws.specs.declared.walk.Stage.{Stage}
use Rattle.ct_tree_laws.specs.declared.walk.Stage.TheVariants.{Start, Down, Leaf, Held, Full, Split, Cut, Share, Shared, Ended, SharedLeft, Left, Post}
use Rattle.ct_tree_laws.specs.Trees.{Tree, IsOf, IsAt, IsTree, IsApart, IsNear, IsLowFor, HasPassed, Chain, IsInRole, IsEven}
use Rattle.ct_tree_laws.specs.declared.left.Way.{Way}
use Rattle.ct_tree_laws.specs.declared.left.Way.TheVariants as way
use Rattle.ct_tree_laws.specs.Left.{HasPassedLeft}
use Rattle.ct_tree_laws.specs.declared.rise.Separator.{Separator}
use Rattle.ct_tree_laws.specs.declared.rise.Rise.{Rise}
use Rattle.ct_tree_laws.specs.declared.rise.Rise.TheVariants as rise

-- a leaf from which a walk to the right reaches the target
abbrev pub IsNearLeaf : World → Tree → Target → ℕ → Type 0
IsNearLeaf w t target page = (low : Option Pair) × IsAt w t true low page × IsLowFor target low

-- a node has no room for one more entry
abbrev pub IsPacked : NodeValue → Type 0
IsPacked node = nat_lt (length node.entries) (capacity_of node.key_len node.leaf) ≡ false

-- the operation has a full leaf for itself
pub record IsFull (w : World) (t : Tree) (op : ℕ) (target : Target) (page : ℕ) (node : NodeValue) : Type 0 where
  pub is : page_at w page ≡ Holds node
  pub owned : has_own op page w ≡ true
  pub linked : is_fresh page w ≡ false
  pub of : IsOf t node
  pub leaf : node.leaf ≡ true
  pub enough : 2 ≤ length node.entries
  pub full : IsPacked node

-- all pages that an operation has, and that no link reaches, are blank but for one
abbrev pub IsTidyBut : ℕ → ℕ → World → Type 0
IsTidyBut op right w = (page : ℕ) → has_fresh op page w ≡ true → (page ≡ right → ⊥) → page_at w page ≡ Blank

-- a leaf up to which a search has passed all
abbrev pub IsReachedBySearch : World → Tree → ℕ → Bool → Target → ℕ → Type 0
IsReachedBySearch w t op above target page = (low : Option Pair) × IsAt w t true low page × HasPassed w t op above target low

-- how far a search to the left has come on its way to the leaf of a target
abbrev pub IsOnWay : World → Tree → ℕ → Target → Way → Type 0
IsOnWay w t op target way.Start = Unit {0}
IsOnWay w t op target (way.Down page) = IsNear w t target page
IsOnWay w t op target (way.Leaf page) = IsNearLeaf w t target page
IsOnWay w t op target (way.Shared page) = IsNearLeaf w t target page × (has_latch op page w ≡ true)

-- an operation has no latch
abbrev pub HasNone : ℕ → World → Type 0
HasNone op w = (page : ℕ) → has_latch op page w ≡ false

-- an operation has a latch on this page at most
abbrev pub HasOnly : ℕ → ℕ → World → Type 0
HasOnly op page w = (other : ℕ) → has_latch op other w ≡ true → other ≡ page

-- a separator is above all zeros and leads to a node of the tree that begins at it, on the level of the page that it was split off
abbrev pub IsSeparator : World → Tree → Separator → Type 0
IsSeparator w t separator = (leaf : Bool) × IsAt w t leaf (Some separator.low) separator.child × (length separator.low.key ≡ t.key_len) × (is_lt (pair_cmp (first_of t.key_len None) separator.low) ≡ true) × IsBeside w separator.left separator.child

-- an inner node one level above a page, from which a walk to the right reaches the separator
abbrev pub IsAbove : World → Tree → Separator → ℕ → ℕ → Type 0
IsAbove w t separator below page = (low : Option Pair) × IsAt w t false low page × IsLowFor (At separator.low) low × IsOneAbove w page below

-- the node from which a walk last went down to the level of its page, where it went down
abbrev pub IsAboveIf : World → Tree → Separator → ℕ → Option ℕ → Type 0
IsAboveIf w t separator below None = Unit {0}
IsAboveIf w t separator below (Some page) = IsAbove w t separator below page

-- the operation has an inner node for itself, one level above the separator's page, and the separator lies within its bounds
pub record IsChosen (w : World) (t : Tree) (op : ℕ) (separator : Separator) (page : ℕ) (node : NodeValue) : Type 0 where
  pub is : page_at w page ≡ Holds node
  pub owned : has_own op page w ≡ true
  pub linked : is_fresh page w ≡ false
  pub of : IsOf t node
  pub inner : node.leaf ≡ false
  pub within : is_within node.low node.high separator.low ≡ true
  pub level : IsOneAbove w page separator.child

-- a full node that is to be split, before the separator is posted to one of its halves
abbrev pub IsCrowded : World → Tree → ℕ → Separator → ℕ → NodeValue → Type 0
IsCrowded w t op separator page node = IsChosen w t op separator page node × (2 ≤ length node.entries) × IsPacked node

-- a half of a split has room for the separator and for one more entry, and its own separator is to be posted next
abbrev pub IsHalf : World → Tree → ℕ → Separator → ℕ → Option Separator → Type 0
IsHalf w t op separator page None = Unit {0}
IsHalf w t op separator page (Some next) = IsSeparator w t next × ((node : NodeValue) × IsChosen w t op separator page node × (length node.entries + 1 < capacity_of node.key_len false))

-- an operation has latches on these two pages at most
abbrev pub HasBoth : ℕ → ℕ → ℕ → World → Type 0
HasBoth op page right w = (other : ℕ) → has_latch op other w ≡ true → (other ≡ page) ⊎ (other ≡ right)

-- the operation has the definition page of the tree for itself, and no other latch
pub record HasDefinition (w : World) (t : Tree) (op : ℕ) (def : DefinitionValue) : Type 0 where
  pub page : ℕ
  pub is : page_at w page ≡ Defines def
  pub file : def.file ≡ t.file
  pub owned : has_own op page w ≡ true
  pub only : HasOnly op page w

-- and the root is still the page that was split
pub record HasRoot (w : World) (t : Tree) (op : ℕ) (separator : Separator) : Type 0 where
  pub def : DefinitionValue
  pub row : IndexRow
  pub has : HasDefinition w t op def
  pub named : slice_get def.rows t.index ≡ Some row
  pub old : row.root ≡ separator.left

-- an inner node over one page, open to both sides
abbrev pub node_over : NodeValue → ℕ → NodeValue
node_over node page = record { file = node.file; index = node.index; leaf = false; key_len = node.key_len; low = None; high = None; right = 0; entries = record { pair = first_of node.key_len None; child = page } ∷ [] }

-- a new root that is not named yet: an inner node, open to both sides, whose first page below is the old root, and all of whose pages below are on the old root's level
pub record IsCrown (w : World) (t : Tree) (separator : Separator) (node : NodeValue) : Type 0 where
  pub first : Entry
  pub rest : List Entry
  pub of : IsOf t node
  pub inner : node.leaf ≡ false
  pub low : node.low ≡ None
  pub high : node.high ≡ None
  pub entries : node.entries ≡ first ∷ rest
  pub old : first.child ≡ separator.left
  pub role : IsInRole w t node
  pub even : (lower : ℕ) × IsLevel w lower first.child × IsEven w (suc lower) node

-- what an operation knows at each step of the posting of a separator
abbrev pub IsAtRise : World → Tree → ℕ → Separator → Rise → Type 0
IsAtRise w t op separator rise.Root = IsTidy op w × HasNone op w
IsAtRise w t op separator (rise.Down page above) = IsTidy op w × IsNear w t (At separator.low) page × IsAboveIf w t separator page above × HasNone op w
IsAtRise w t op separator (rise.Above page) = IsTidy op w × IsAbove w t separator separator.child page × HasNone op w
IsAtRise w t op separator (rise.Held page next) = IsTidy op w × IsAbove w t separator separator.child page × (has_own op page w ≡ true) × HasOnly op page w × IsHalf w t op separator page next
IsAtRise w t op separator (rise.Full page) = IsTidy op w × ((node : NodeValue) × IsCrowded w t op separator page node) × HasOnly op page w
IsAtRise w t op separator (rise.Fresh page right) = IsTidy op w × ((node : NodeValue) × IsCrowded w t op separator page node) × (has_fresh op right w ≡ true) × HasOnly op page w
IsAtRise w t op separator (rise.Split page right) = IsTidy op w × ((node : NodeValue) × IsCrowded w t op separator page node) × (has_fresh op right w ≡ true) × (has_own op right w ≡ true) × HasBoth op page right w
IsAtRise w t op separator (rise.Cut page right) = IsTidyBut op right w × ((node : NodeValue) × IsCrowded w t op separator page node × (page_at w right ≡ Holds (upper_half node))) × (has_fresh op right w ≡ true) × (has_own op right w ≡ true) × HasBoth op page right w
IsAtRise w t op separator rise.Again = IsTidy op w × HasNone op w
IsAtRise w t op separator rise.Named = IsTidy op w × ((def : DefinitionValue) × HasDefinition w t op def)
IsAtRise w t op separator rise.Grow = IsTidy op w × HasRoot w t op separator
IsAtRise w t op separator (rise.Crown root) = IsTidy op w × HasRoot w t op separator × (has_fresh op root w ≡ true)
IsAtRise w t op separator (rise.Crowned root) = IsTidyBut op root w × HasRoot w t op separator × (has_fresh op root w ≡ true) × ((node : NodeValue) × (page_at w root ≡ Holds node) × IsCrown w t separator node)

-- where a put goes on once a separator is posted: with the next one, or anew with its pair
abbrev pub after_post : Option Separator → Stage
after_post None = Start
after_post (Some next) = Post next rise.Root

-- what an operation knows at each of its stages
abbrev pub IsAtStage : World → Tree → ℕ → Target → Stage → Type 0
IsAtStage w t op target Start = IsTidy op w × HasNone op w
IsAtStage w t op target (Down page) = IsTidy op w × IsNear w t target page × HasNone op w
IsAtStage w t op target (Leaf page) = IsTidy op w × IsNearLeaf w t target page × HasNone op w
IsAtStage w t op target (Held page) = IsTidy op w × IsNearLeaf w t target page × (has_own op page w ≡ true) × HasOnly op page w
IsAtStage w t op target (Full page) = IsTidy op w × ((node : NodeValue) × IsFull w t op target page node) × HasOnly op page w
IsAtStage w t op target (Split page right) = IsTidy op w × ((node : NodeValue) × IsFull w t op target page node) × (has_fresh op right w ≡ true) × HasOnly op page w
IsAtStage w t op target (Cut page right) = IsTidyBut op right w × ((node : NodeValue) × IsFull w t op target page node × (page_at w right ≡ Holds (upper_half node))) × (has_fresh op right w ≡ true) × HasOnly op page w
IsAtStage w t op target (Share page above) = IsTidy op w × IsReachedBySearch w t op above target page
IsAtStage w t op target (Shared page above) = IsTidy op w × IsReachedBySearch w t op above target page × (has_latch op page w ≡ true)
IsAtStage w t op target (SharedLeft page) = IsTidy op w × IsNearLeaf w t target page × (has_latch op page w ≡ true)
IsAtStage w t op target (Left low or_at on) = IsTidy op w × HasPassedLeft w t op or_at target low × IsOnWay w t op (Before low) on
IsAtStage w t op target (Post separator rise) = IsSeparator w t separator × IsAtRise w t op separator rise
IsAtStage w t op target Ended = HasNone op w

-- an operation on a tree: the tree stands, no latches conflict, the target's key is as long as the tree's keys, and what the operation knows of its stage holds
pub record Stands (walk : Walk) (stage : Stage) (w : World) : Type 0 where
  pub tree : Tree
  pub leaves : List ℕ
  pub is : IsTree w walk.at tree leaves
  pub apart : IsApart w
  pub key : (pair : Pair) → walk.target ≡ At pair → length pair.key ≡ tree.key_len
  pub place : IsAtStage w tree walk.op walk.target stage

-- what every other operation remembers still stands
abbrev pub Keeps : ℕ → World → World → Type 0
Keeps op w now = (other : Walk) (stage : Stage) → (other.op ≡ op → ⊥) → Stands other stage w → Stands other stage now

-- each page stays on its level
abbrev pub KeepsLevels : World → World → Type 0
KeepsLevels w now = (level page : ℕ) → IsLevel w level page → IsLevel now level page

-- each node of a tree that a link reaches keeps its place
abbrev pub KeepsAt : World → World → Type 0
KeepsAt w now = (t : Tree) (leaf : Bool) (low : Option Pair) (page : ℕ) → IsAt w t leaf low page → IsAt now t leaf low page

-- a turn of an operation: what it remembers stands afterwards, and so does what others do; pages stay on their levels, and nodes that links reach in their places
pub record Stepped (walk : Walk) (to : Stage) (w now : World) : Type 0 where
  pub stands : Stands walk to now
  pub keeps : Keeps walk.op w now
  pub levels : KeepsLevels w now
  pub at : KeepsAt w now

-- a fact of a sound store in which these pages are lost, where something stands in it
abbrev pub InSound : (List ℕ → Type 0) → (World → Type 0) → World → (List ℕ → Type 0) → Type 0
InSound sound Remembered w fact = (lost : List ℕ) → sound lost → Remembered (with_lost lost w) → fact lost

-- the store is sound, and a turn of an operation has ended at a stage, and has done this to the pairs
abbrev pub Turned : (List ℕ → Type 0) → Walk → Stage → (World → World → Type 0) → World → World → List ℕ → Type 0
Turned sound walk to Keys w now lost = sound lost × Stepped walk to (with_lost lost w) (with_lost lost now) × Keys (with_lost lost w) (with_lost lost now)

-- what a turn of an operation does to a sound store, where what it remembers stands
abbrev pub Turns : (List ℕ → Type 0) → (List ℕ → Type 0) → Walk → Stage → Stage → (World → World → Type 0) → World → World → Type 0
Turns before after walk from to Keys w now = InSound before (Stands walk from) w (Turned after walk to Keys w now)

-- whether two indexes are the same
abbrev pub is_same_root : Root → Root → Bool
is_same_root at other = at.page == other.page && at.index == other.index

-- the pairs of each index stay
abbrev pub KeepsKeys : World → World → Type 0
KeepsKeys w now = (at : Root) (keys : List Pair) → Chain w at keys → Chain now at keys

-- the pairs of one index change, and those of all others stay
abbrev pub ChangesKeys : Root → (List Pair → List Pair) → World → World → Type 0
ChangesKeys root change w now = (at : Root) (keys : List Pair) → Chain w at keys → Chain now at (if is_same_root at root then change keys else keys)

-- pairs with one more, unless it is there
abbrev pub added : Pair → List Pair → List Pair
added pair keys = if has_pair pair keys then keys else with_pair pair keys

-- pairs without one
abbrev pub without : Pair → List Pair → List Pair
without pair keys = filter (λ other. not (is_eq (pair_cmp other pair))) keys
