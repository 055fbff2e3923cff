-- How a turn goes on: where the operation is afterwards, and the one thing that it did to the pages.
use Rattle.std.specs.Prelude.{◌≡◌, ℕ, ◌≤◌, ◌<◌, [], ◌∷◌, ◌++◌, length, slice_get, slice_set, Bool, true, false, not, nat_lt, ◌==◌, Option, Some, None, ◌⊎◌}
use Rattle.std.specs.Ordering.{is_lt}
use Rattle.ct_definitions.specs.Pairs.{Pair, pair_cmp}
use Rattle.ct_node.specs.declared.root.Root.{Root}
use Rattle.ct_node.specs.declared.root.IndexRow.{IndexRow}
use Rattle.ct_node.specs.declared.target.Target.{Target}
use Rattle.ct_node.specs.declared.target.Target.TheVariants.{At, Last, Before}
use Rattle.ct_node.specs.declared.target.Place.{Place}
use Rattle.ct_node.specs.declared.target.Place.TheVariants.{Right, Down, Here, End}
use Rattle.ct_node.specs.Nodes.{NodeValue, IsNode, pairs_in, is_within, capacity_of}
use Rattle.ct_node.specs.Places.{next_place}
use Rattle.ct_node.specs.Halves.{middle_of, upper_half, lower_half}
use Rattle.ct_node.specs.Worlds.{World, Blank, Holds, page_at, row_in, rooted_page}
use Rattle.ct_disk.specs.declared.turn.Turn.{Turn}
use Rattle.ct_disk.specs.declared.turn.Turn.TheVariants.{Done, More, Busy, Refused}
use Rattle.ct_tree_laws.specs.declared.walk.Walk.{Walk}
use Rattle.ct_tree_laws.specs.declared.walk.Stage.{Stage}
use Rattle.ct_tree_laws.specs.declared.walk.Stage.TheVariants as stage
use Rattle.ct_tree_laws.specs.declared.left.Way.{Way}
use Rattle.ct_tree_laws.specs.declared.left.Way.TheVariants as way
use Rattle.ct_tree_laws.specs.declared.rise.Separator.{Separator}
use Rattle.ct_tree_laws.specs.declared.rise.Rise.{Rise}
use Rattle.ct_tree_laws.specs.declared.rise.Rise.TheVariants as rise
use Rattle.ct_tree_laws.specs.Stands.{after_post}

-- whether a walk goes on to this page
abbrev pub leads_to : ℕ → Place → Bool
leads_to page (Right right) = right == page
leads_to page (Down below) = below == page
leads_to page (Here at) = false
leads_to page End = false

-- a page is visited, latched or given back, or the root is read: no page changes
abbrev pub Visits : World → World → Type 0
Visits w now = now.pages ≡ w.pages

-- one page is allocated
abbrev pub Allocates : World → World → Type 0
Allocates w now = now.pages ≡ w.pages ++ Blank ∷ []

-- one page is written
abbrev pub Writes : ℕ → NodeValue → World → World → Type 0
Writes page node w now = now.pages ≡ slice_set w.pages page (Holds node)

-- an index gets another root
abbrev pub NamesRoot : Root → ℕ → World → World → Type 0
NamesRoot at root w now = now.pages ≡ slice_set w.pages at.page (rooted_page at.index root (page_at w at.page))

-- the root of an index stands in this page
abbrev pub IsRoot : Root → ℕ → World → Type 0
IsRoot at page w = (row : IndexRow) × (row_in at.index (page_at w at.page) ≡ Some row) × (page ≡ row.root)

-- from the node of a page a walk to a target goes on to the right, to this page
abbrev pub IsRightOf : World → Target → ℕ → ℕ → Type 0
IsRightOf w target page next = (node : NodeValue) × (page_at w page ≡ Holds node) × (next_place node target ≡ Right next)

-- or down to this page
abbrev pub IsDownOf : World → Target → ℕ → ℕ → Type 0
IsDownOf w target page next = (node : NodeValue) × (page_at w page ≡ Holds node) × (next_place node target ≡ Down next)

-- from the node of a page a walk to a target goes on to the right or down, to this other page
abbrev pub IsNext : World → Target → ℕ → ℕ → Type 0
IsNext w target page next = (IsRightOf w target page next ⊎ IsDownOf w target page next) × (next ≡ page → ⊥)

-- a pair is not within the bounds of the node of a page, which links to this page on its right
abbrev pub IsPastOf : World → Pair → ℕ → ℕ → Type 0
IsPastOf w pair page right = (node : NodeValue) × (page_at w page ≡ Holds node) × (is_within node.low node.high pair ≡ false) × (right ≡ node.right)

-- whether a node has no room for one more entry
abbrev pub is_full : NodeValue → Bool
is_full node = not (nat_lt (length node.entries) (capacity_of node.key_len node.leaf))

-- the upper half of the node of a page is written into another page
abbrev pub WritesUpper : ℕ → ℕ → World → World → Type 0
WritesUpper page right w now = (node : NodeValue) × (page_at w page ≡ Holds node) × IsNode node × (2 ≤ length node.entries) × Writes right (upper_half node) w now

-- the full node of a page, a leaf or not, is cut
abbrev pub CutsFull : Bool → ℕ → ℕ → World → World → Type 0
CutsFull leaf page right w now = (node : NodeValue) × (page_at w page ≡ Holds node) × IsNode node × (node.leaf ≡ leaf) × (is_full node ≡ true) × Writes page (lower_half right node) w now

-- an inner node is written
abbrev pub WritesInner : ℕ → World → World → Type 0
WritesInner page w now = (node : NodeValue) × (node.leaf ≡ false) × Writes page node w now

-- an inner node is written, which has room for one more entry
abbrev pub WritesRoomy : ℕ → World → World → Type 0
WritesRoomy page w now = (node : NodeValue) × (node.leaf ≡ false) × (is_full node ≡ false) × Writes page node w now

-- whether a node has room for one more entry, where another separator is to be posted next
abbrev pub leaves_room : Option Separator → NodeValue → Bool
leaves_room None node = true
leaves_room (Some next) node = nat_lt (length node.entries) (capacity_of node.key_len node.leaf)

-- a separator is posted to the node of a page, or stands there; where another one is to be posted next, that leaves room in the node
abbrev pub Posts : ℕ → Option Separator → World → World → Type 0
Posts page None w now = Visits w now ⊎ WritesInner page w now
Posts page (Some next) w now = Visits w now ⊎ WritesRoomy page w now

-- the node of a page begins at a pair that is below another
abbrev pub BeginsBelow : World → ℕ → Pair → Pair → Type 0
BeginsBelow w page lower low = (node : NodeValue) × (page_at w page ≡ Holds node) × (node.low ≡ Some lower) × (is_lt (pair_cmp lower low) ≡ true)

-- on the way of a search to the left
abbrev pub GoesLeft : Walk → World → Pair → Bool → Way → Stage → Type 0
GoesLeft walk w low or_at way.Start to = (page : ℕ) × IsRoot walk.at page w × (to ≡ stage.Left low or_at (way.Down page))
GoesLeft walk w low or_at (way.Down page) to = ((next : ℕ) × IsNext w (Before low) page next × (to ≡ stage.Left low or_at (way.Down next))) ⊎ (to ≡ stage.Left low or_at (way.Leaf page))
GoesLeft walk w low or_at (way.Leaf page) to = to ≡ stage.Left low or_at (way.Shared page)
GoesLeft walk w low or_at (way.Shared page) to = ((next : ℕ) × IsRightOf w (Before low) page next × (to ≡ stage.Left low or_at (way.Down next))) ⊎ ((lower : Pair) × BeginsBelow w page lower low × (to ≡ stage.Left lower or_at way.Start))

-- on the way to a separator, from a node to a next page: on to that, or, where it is the separator's own, up to the node from which the walk last went down
abbrev pub GoesToward : Separator → ℕ → Option ℕ → Stage → Type 0
GoesToward separator next above to = (to ≡ stage.Post separator (rise.Down next above)) ⊎ ((over : ℕ) × (above ≡ Some over) × (to ≡ stage.Post separator (rise.Above over)))

-- the half of a split that is kept is the left page or the right one; the next separator leads to the right one, and is the pair that was the middle one
abbrev pub KeepsHalf : World → Separator → ℕ → ℕ → Stage → Type 0
KeepsHalf w separator page right to = (half : ℕ) × (next : Separator) × (node : NodeValue) × ((half ≡ page) ⊎ (half ≡ right)) × (next.child ≡ right) × (page_at w page ≡ Holds node) × (slice_get (pairs_in node) (middle_of node) ≡ Some next.low) × (to ≡ stage.Post separator (rise.Held half (Some next)))

-- in the posting of a separator
abbrev pub GoesUp : Walk → World → World → Separator → Rise → Stage → Type 0
GoesUp walk w now separator rise.Root to = Visits w now × ((page : ℕ) × IsRoot walk.at page w × ((to ≡ stage.Post separator rise.Again) ⊎ (to ≡ stage.Post separator (rise.Down page None))))
GoesUp walk w now separator (rise.Down page above) to = Visits w now × ((to ≡ stage.Start) ⊎ (((next : ℕ) × IsRightOf w (At separator.low) page next × (next ≡ page → ⊥) × GoesToward separator next above to) ⊎ ((next : ℕ) × IsDownOf w (At separator.low) page next × (next ≡ page → ⊥) × GoesToward separator next (Some page) to)))
GoesUp walk w now separator (rise.Above page) to = Visits w now × (to ≡ stage.Post separator (rise.Held page None))
GoesUp walk w now separator (rise.Held page next) to = (Posts page next w now × (to ≡ after_post next)) ⊎ (Visits w now × (((right : ℕ) × IsPastOf w separator.low page right × (to ≡ stage.Post separator (rise.Above right))) ⊎ (to ≡ stage.Post separator (rise.Full page))))
GoesUp walk w now separator (rise.Full page) to = Allocates w now × (to ≡ stage.Post separator (rise.Fresh page (length w.pages)))
GoesUp walk w now separator (rise.Fresh page right) to = Visits w now × (to ≡ stage.Post separator (rise.Split page right))
GoesUp walk w now separator (rise.Split page right) to = WritesUpper page right w now × (to ≡ stage.Post separator (rise.Cut page right))
GoesUp walk w now separator (rise.Cut page right) to = (leaf : Bool) × CutsFull leaf page right w now × KeepsHalf w separator page right to
GoesUp walk w now separator rise.Again to = Visits w now × (to ≡ stage.Post separator rise.Named)
GoesUp walk w now separator rise.Named to = Visits w now × ((page : ℕ) × IsRoot walk.at page w × ((to ≡ stage.Post separator rise.Grow) ⊎ (to ≡ stage.Post separator (rise.Down page None))))
GoesUp walk w now separator rise.Grow to = Allocates w now × (to ≡ stage.Post separator (rise.Crown (length w.pages)))
GoesUp walk w now separator (rise.Crown root) to = WritesRoomy root w now × (to ≡ stage.Post separator (rise.Crowned root))
GoesUp walk w now separator (rise.Crowned root) to = NamesRoot walk.at root w now × (to ≡ stage.Start)

-- what a turn that answers More makes of a stage, and what it does to the pages
abbrev pub Goes : Walk → World → World → Stage → Stage → Type 0
Goes walk w now stage.Start to = Visits w now × ((page : ℕ) × IsRoot walk.at page w × (to ≡ stage.Down page))
Goes walk w now (stage.Down page) to = Visits w now × (((next : ℕ) × IsNext w walk.target page next × (to ≡ stage.Down next)) ⊎ (to ≡ stage.Leaf page))
Goes walk w now (stage.Leaf page) to = Visits w now × ((to ≡ stage.Held page) ⊎ (((above : Bool) × (to ≡ stage.Shared page above)) ⊎ (to ≡ stage.SharedLeft page)))
Goes walk w now (stage.Held page) to = Visits w now × (((next : ℕ) × IsRightOf w walk.target page next × (to ≡ stage.Down next)) ⊎ (to ≡ stage.Full page))
Goes walk w now (stage.Full page) to = Allocates w now × (to ≡ stage.Split page (length w.pages))
Goes walk w now (stage.Split page right) to = WritesUpper page right w now × (to ≡ stage.Cut page right)
Goes walk w now (stage.Cut page right) to = CutsFull true page right w now × ((separator : Separator) × (to ≡ stage.Post separator rise.Root))
Goes walk w now (stage.Share page above) to = Visits w now × (to ≡ stage.Shared page above)
Goes walk w now (stage.Shared page above) to = Visits w now × ((next : ℕ) × ((IsRightOf w walk.target page next × (to ≡ stage.Down next)) ⊎ (IsRightOf w Last page next × (to ≡ stage.Share next above))))
Goes walk w now (stage.SharedLeft page) to = Visits w now × (((next : ℕ) × IsRightOf w walk.target page next × (to ≡ stage.Down next)) ⊎ ((low : Pair) × (or_at : Bool) × (to ≡ stage.Left low or_at way.Start)))
Goes walk w now (stage.Left low or_at way) to = Visits w now × GoesLeft walk w low or_at way to
Goes walk w now (stage.Post separator rise) to = GoesUp walk w now separator rise to
Goes walk w now stage.Ended to = ⊥

-- the pages have work of their own to do, of which less is left
pub record Waits (w now : World) (before after : ℕ) (from to : Stage) : Type 0 where
  pub same : to ≡ from
  pub world : now ≡ w
  pub less : after < before

-- a turn that answers More waits for the pages, or goes on
abbrev pub IsOneTurn : Walk → World → World → ℕ → ℕ → Stage → Stage → Type 0
IsOneTurn walk w now before after from to = Waits w now before after from to ⊎ Goes walk w now from to

-- how a turn goes on: one that answers More goes by its rule, one that is refused stays where it is, and so does all; one that is busy stays or begins again, and leaves the pages; and one that is done stays or has ended
abbrev pub IsTurned : {T : Type 0} → Turn T → Walk → World → World → ℕ → ℕ → Stage → Stage → Type 0
IsTurned (Done answer) walk w now before after from to = (to ≡ from) ⊎ (to ≡ stage.Ended)
IsTurned More walk w now before after from to = IsOneTurn walk w now before after from to
IsTurned (Busy op) walk w now before after from to = ((to ≡ from) ⊎ (to ≡ stage.Start)) × Visits w now
IsTurned (Refused fault) walk w now before after from to = (to ≡ from) × (now ≡ w)

-- a search that is busy begins again, and any other is as it was
abbrev pub GivesWay : {T : Type 0} → Turn T → World → World → ℕ → ℕ → Stage → Stage → Type 0
GivesWay (Done answer) w now before after from to = to ≡ from
GivesWay More w now before after from to = (to ≡ from) × (now ≡ w) × (after ≡ before)
GivesWay (Busy op) w now before after from to = (to ≡ stage.Start) × Visits w now
GivesWay (Refused fault) w now before after from to = (to ≡ from) × (now ≡ w)
