-- The pages that nodes stand in, who holds them, and the edits that an operation may make.
use Rattle.std.specs.Prelude.{◌≡◌, ℕ, zero, suc, ◌≤◌, ◌==◌, List, [], ◌∷◌, ◌++◌, ◌^◌, length, map, filter, slice_get, slice_index_or, slice_set, Bool, true, false, not, ◌&&◌, Option, Some, None, ◌⊎◌}
use Rattle.std.specs.List.{list_any}
use Rattle.ct_latch.specs.declared.hold.Hold.{Hold}
use Rattle.ct_latch.specs.Latches.{is_of}
use Rattle.std.specs.Ordering.{is_lt}
use Rattle.ct_definitions.specs.Pairs.{Pair, pair_cmp}
use Rattle.ct_node.specs.declared.root.Root.{Root}
use Rattle.ct_node.specs.declared.root.Mark.{Mark}
use Rattle.ct_node.specs.declared.root.IndexRow.{IndexRow}
use Rattle.ct_node.specs.declared.root.Owner.{Owner}
use Rattle.ct_node.specs.Nodes.{Entry, NodeValue, IsNode, pairs_in, has_pair, is_within, with_entry, has_other_pair}
use Rattle.ct_node.specs.Halves.{upper_half, lower_half}
use Rattle.ct_node.specs.Roles.{first_of}

-- what a definition page tells: its file, and a row for each index
pub record DefinitionValue : Type 0 where
  pub file : ℕ
  pub rows : List IndexRow

-- what stands in a page: nothing yet, a definition or a node
pub data PageValue : Type 0 where
  Blank : PageValue
  Defines : DefinitionValue → PageValue
  Holds : NodeValue → PageValue

-- the pages, the latches on them, and the pages that no link reaches yet
pub record World : Type 0 where
  pub pages : List PageValue
  pub holds : List Hold
  pub fresh : List Owner

-- what stands in the page of a number; one past the last is blank
abbrev pub page_at : World → ℕ → PageValue
page_at w page = slice_index_or w.pages page Blank

-- a page stands so many levels above the leaves: a leaf at none, an inner node one above its first page below
abbrev pub IsLevel : World → ℕ → ℕ → Type 0
IsLevel w zero page = (node : NodeValue) × (page_at w page ≡ Holds node) × (node.leaf ≡ true)
IsLevel w (suc lower) page = (node : NodeValue) × (first : Entry) × (rest : List Entry) × (page_at w page ≡ Holds node) × (node.leaf ≡ false) × (node.entries ≡ first ∷ rest) × IsLevel w lower first.child

-- two pages stand on one level
abbrev pub IsBeside : World → ℕ → ℕ → Type 0
IsBeside w page other = (level : ℕ) × IsLevel w level page × IsLevel w level other

-- a page stands one level above another
abbrev pub IsOneAbove : World → ℕ → ℕ → Type 0
IsOneAbove w page other = (level : ℕ) × IsLevel w (suc level) page × IsLevel w level other

-- whether a hold is one that this operation has on this page for itself
abbrev pub is_own_of : ℕ → ℕ → Hold → Bool
is_own_of op page hold = is_of page op hold && hold.own

-- whether an operation has a latch on a page
abbrev pub has_latch : ℕ → ℕ → World → Bool
has_latch op page w = list_any (is_of page op) w.holds

-- whether an operation has a page for itself
abbrev pub has_own : ℕ → ℕ → World → Bool
has_own op page w = list_any (is_own_of op page) w.holds

-- whether this page belongs to this operation
abbrev pub is_owner : ℕ → ℕ → Owner → Bool
is_owner op page owner = owner.page == page && owner.op == op

-- whether an operation allocated a page that no link reaches yet
abbrev pub has_fresh : ℕ → ℕ → World → Bool
has_fresh op page w = list_any (is_owner op page) w.fresh

-- whether a page was allocated and is reached by no link yet
abbrev pub is_fresh : ℕ → World → Bool
is_fresh page w = list_any (λ owner. owner.page == page) w.fresh

-- the world with a new page of an operation, which is the next after the last
abbrev pub with_fresh : ℕ → World → World
with_fresh op w = record w { pages = w.pages ++ Blank ∷ []; fresh = record { page = length w.pages; op = op } ∷ w.fresh }

-- the world with other latches
abbrev pub with_holds : List Hold → World → World
with_holds holds w = record w { holds = holds }

-- the world with another node in a page; a page of the operation that this node links to is reached by a link from now on
abbrev pub edited : ℕ → ℕ → NodeValue → World → World
edited op page node w = record w { pages = slice_set w.pages page (Holds node); fresh = filter (λ owner. not (is_owner op node.right owner)) w.fresh }

-- a page that is lost: no link reaches it, and it belongs to no operation, since none has this number
abbrev pub lost_owner : ℕ → Owner
lost_owner page = record { page = page; op = 2 ^ 64 }

-- the world in which these pages are lost: a stop left them before a link to them was written
abbrev pub with_lost : List ℕ → World → World
with_lost lost w = record w { fresh = w.fresh ++ map lost_owner lost }

-- no step of any transaction
abbrev pub no_mark : Mark
no_mark = record { tran = 0; steps = 0 }

-- the operation has the page of a node for itself, and links reach it and the page to its right
pub record IsHeld (op page : ℕ) (node : NodeValue) (w : World) : Type 0 where
  pub is : page_at w page ≡ Holds node
  pub owned : has_own op page w ≡ true
  pub linked : is_fresh page w ≡ false
  pub onward : is_fresh node.right w ≡ false

-- a leaf with one more pair
pub record PutsPair (op page : ℕ) (new : NodeValue) (w : World) : Type 0 where
  pub node : NodeValue
  pub pair : Pair
  pub held : IsHeld op page node w
  pub leaf : node.leaf ≡ true
  pub key : length pair.key ≡ node.key_len
  pub absent : has_pair pair (pairs_in node) ≡ false
  pub within : is_within node.low node.high pair ≡ true
  pub sound : IsNode new
  pub made : new ≡ record node { entries = with_entry (record { pair = pair; child = 0 }) node.entries }

-- a leaf without one of its pairs
pub record TakesPair (op page : ℕ) (new : NodeValue) (w : World) : Type 0 where
  pub node : NodeValue
  pub pair : Pair
  pub held : IsHeld op page node w
  pub leaf : node.leaf ≡ true
  pub there : has_pair pair (pairs_in node) ≡ true
  pub within : is_within node.low node.high pair ≡ true
  pub sound : IsNode new
  pub made : new ≡ record node { entries = filter (has_other_pair pair) node.entries }

-- the upper half of a node, in a page of the operation that holds nothing yet
pub record WritesRight (op page : ℕ) (new : NodeValue) (w : World) : Type 0 where
  pub from : ℕ
  pub node : NodeValue
  pub held : IsHeld op from node w
  pub enough : 2 ≤ length node.entries
  pub blank : page_at w page ≡ Blank
  pub mine : has_fresh op page w ≡ true
  pub made : new ≡ upper_half node

-- the lower half of a node, linked to the page that has the upper one
pub record CutsLeft (op page : ℕ) (new : NodeValue) (w : World) : Type 0 where
  pub node : NodeValue
  pub right : ℕ
  pub held : IsHeld op page node w
  pub enough : 2 ≤ length node.entries
  pub sound : IsNode node
  pub mine : has_fresh op right w ≡ true
  pub upper : page_at w right ≡ Holds (upper_half node)
  pub made : new ≡ lower_half right node

-- the row of an index, where its definition page tells one
abbrev pub row_in : ℕ → PageValue → Option IndexRow
row_in index Blank = None
row_in index (Defines def) = slice_get def.rows index
row_in index (Holds node) = None

-- links reach a node of the same tree that begins at a pair
pub record IsBelow (child : ℕ) (low : Pair) (node below : NodeValue) (w : World) : Type 0 where
  pub is : page_at w child ≡ Holds below
  pub linked : is_fresh child w ≡ false
  pub file : below.file ≡ node.file
  pub index : below.index ≡ node.index
  pub key_len : below.key_len ≡ node.key_len
  pub from : below.low ≡ Some low

-- an inner node with one more page below, which begins at its pair: above the node's first pair, and within its bounds; that page is on the next lower level
pub record PostsChild (op page : ℕ) (new : NodeValue) (w : World) : Type 0 where
  pub node : NodeValue
  pub low : Pair
  pub child : ℕ
  pub below : NodeValue
  pub first : Entry
  pub rest : List Entry
  pub held : IsHeld op page node w
  pub inner : node.leaf ≡ false
  pub key : length low.key ≡ node.key_len
  pub entries : node.entries ≡ first ∷ rest
  pub above : is_lt (pair_cmp first.pair low) ≡ true
  pub absent : has_pair low (pairs_in node) ≡ false
  pub within : is_within node.low node.high low ≡ true
  pub there : IsBelow child low node below w
  pub level : IsOneAbove w page child
  pub sound : IsNode new
  pub made : new ≡ record node { entries = with_entry (record { pair = low; child = child }) node.entries }

-- a new root, in a page of the operation that holds nothing yet, while it has the definition page for itself: its first page below is the old root, and its second one begins at its pair; both are on one level
pub record WritesRoot (op page : ℕ) (new : NodeValue) (w : World) : Type 0 where
  pub at : Root
  pub row : IndexRow
  pub first : Entry
  pub second : Entry
  pub old : NodeValue
  pub below : NodeValue
  pub is : row_in at.index (page_at w at.page) ≡ Some row
  pub owned : has_own op at.page w ≡ true
  pub blank : page_at w page ≡ Blank
  pub mine : has_fresh op page w ≡ true
  pub inner : new.leaf ≡ false
  pub low : new.low ≡ None
  pub high : new.high ≡ None
  pub right : new.right ≡ 0
  pub entries : new.entries ≡ first ∷ second ∷ []
  pub is_first : first.pair ≡ first_of new.key_len None
  pub is_old : first.child ≡ row.root
  pub stood : page_at w first.child ≡ Holds old
  pub of : (new.file ≡ old.file) × (new.index ≡ old.index) × (new.key_len ≡ old.key_len)
  pub there : IsBelow second.child second.pair new below w
  pub level : IsBeside w first.child second.child
  pub sound : IsNode new

-- the edits that an operation may make: one pair of a leaf that it has for itself, which may be a step of a transaction, the two writes of a split, a page posted to an inner node, and a new root
pub data Move (op page : ℕ) (new : NodeValue) (mark : Mark) (w : World) : Type 0 where
  Puts : PutsPair op page new w → Move op page new mark w
  Takes : TakesPair op page new w → Move op page new mark w
  Right : mark ≡ no_mark → WritesRight op page new w → Move op page new mark w
  Cuts : mark ≡ no_mark → CutsLeft op page new w → Move op page new mark w
  Posts : mark ≡ no_mark → PostsChild op page new w → Move op page new mark w
  Crowns : mark ≡ no_mark → WritesRoot op page new w → Move op page new mark w

-- a step of a transaction: a pair is put into an index, or taken from it
pub data Effect : Type 0 where
  Adds : Root → Pair → Effect
  Drops : Root → Pair → Effect

-- the index of a step
abbrev pub root_of : Effect → Root
root_of (Adds at pair) = at
root_of (Drops at pair) = at

-- a node with the pair of a step put or taken
abbrev pub effected : Effect → NodeValue → NodeValue
effected (Adds at pair) node = record node { entries = with_entry (record { pair = pair; child = 0 }) node.entries }
effected (Drops at pair) node = record node { entries = filter (has_other_pair pair) node.entries }

-- the edit of a page is this step
abbrev pub Makes : Effect → ℕ → NodeValue → World → Type 0
Makes effect page new w = (node : NodeValue) × (page_at w page ≡ Holds node) × (new ≡ effected effect node)

-- the node of a page is one of an index
pub record IsIn (at : Root) (page : ℕ) (w : World) : Type 0 where
  pub def : DefinitionValue
  pub node : NodeValue
  pub defined : page_at w at.page ≡ Defines def
  pub is : page_at w page ≡ Holds node
  pub file : node.file ≡ def.file
  pub index : node.index ≡ at.index

-- an edit bears no mark, or that of a step which may be made and which it is
abbrev pub Allowed : (Effect → Type 0) → Mark → ℕ → NodeValue → World → Type 0
Allowed allows mark page new w = (mark ≡ no_mark) ⊎ ((effect : Effect) × allows effect × Makes effect page new w)

-- and the step is of the index that the page belongs to
abbrev pub Meant : (Effect → Type 0) → Mark → ℕ → NodeValue → World → Type 0
Meant allows mark page new w = (mark ≡ no_mark) ⊎ ((effect : Effect) × allows effect × Makes effect page new w × IsIn (root_of effect) page w)

-- an operation has no page that is written and that no link reaches yet
abbrev pub IsTidy : ℕ → World → Type 0
IsTidy op w = (page : ℕ) → has_fresh op page w ≡ true → page_at w page ≡ Blank

-- the row of an index with another root
abbrev pub with_root : ℕ → Option IndexRow → IndexRow
with_root page None = record { root = page; first = 0; key_len = 0 }
with_root page (Some row) = record row { root = page }

-- a definition page with another root of one of its indexes
abbrev pub rooted_page : ℕ → ℕ → PageValue → PageValue
rooted_page index page Blank = Blank
rooted_page index page (Defines def) = Defines (record def { rows = slice_set def.rows index (with_root page (slice_get def.rows index)) })
rooted_page index page (Holds node) = Holds node

-- the world with another root of an index; that page is reached by a link from now on
abbrev pub rooted : ℕ → Root → ℕ → World → World
rooted op at page w = record w { pages = slice_set w.pages at.page (rooted_page at.index page (page_at w at.page)); fresh = filter (λ owner. not (is_owner op page owner)) w.fresh }

-- a new root may be named: the operation has the definition page for itself, and a page of its own with a node that leads to the old root first
pub record RaisesRoot (op : ℕ) (at : Root) (page : ℕ) (w : World) : Type 0 where
  pub row : IndexRow
  pub node : NodeValue
  pub first : Entry
  pub rest : List Entry
  pub is : row_in at.index (page_at w at.page) ≡ Some row
  pub owned : has_own op at.page w ≡ true
  pub mine : has_fresh op page w ≡ true
  pub held : page_at w page ≡ Holds node
  pub inner : node.leaf ≡ false
  pub low : node.low ≡ None
  pub high : node.high ≡ None
  pub above : node.entries ≡ first ∷ rest
  pub old : first.child ≡ row.root
