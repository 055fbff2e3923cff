-- How much is left of a call: numbers of which the first that differs decides.
use Rattle.std.specs.Prelude.{◌≡◌, ℕ, suc, ◌-◌, ◌<◌, List, [], ◌∷◌, length, Bool, false, ◌&&◌, not, Some, None, ◌⊎◌}
use Rattle.std.specs.List.{count_by}
use Rattle.ct_definitions.specs.Pairs.{Pair}
use Rattle.ct_node.specs.Places.{begins_below}
use Rattle.ct_node.specs.Worlds.{World, PageValue, Blank, Defines, Holds}
use Rattle.ct_tree_laws.specs.declared.walk.Stage.{Stage}
use Rattle.ct_tree_laws.specs.declared.walk.Stage.TheVariants as stage
use Rattle.ct_tree_laws.specs.declared.left.Way.{Way}
use Rattle.ct_tree_laws.specs.declared.left.Way.TheVariants as way
use Rattle.ct_tree_laws.specs.declared.rise.Rise.{Rise}
use Rattle.ct_tree_laws.specs.declared.rise.Rise.TheVariants as rise
use Rattle.ct_tree.specs.Rules.{is_full}

-- whether a page has a full leaf, or a full inner node
abbrev pub has_full_leaf : PageValue → Bool
has_full_leaf Blank = false
has_full_leaf (Defines def) = false
has_full_leaf (Holds node) = node.leaf && is_full node

abbrev pub has_full_inner : PageValue → Bool
has_full_inner Blank = false
has_full_inner (Defines def) = false
has_full_inner (Holds node) = not node.leaf && is_full node

-- whether a page has a node that begins below a pair
abbrev pub has_low_below : Pair → PageValue → Bool
has_low_below pair Blank = false
has_low_below pair (Defines def) = false
has_low_below pair (Holds node) = begins_below node.low pair

-- how many pages have a full leaf, a full inner node, or a node that begins below a pair
abbrev pub full_leaves : World → ℕ
full_leaves w = count_by has_full_leaf w.pages

abbrev pub full_inner : World → ℕ
full_inner w = count_by has_full_inner w.pages

abbrev pub nodes_below : Pair → World → ℕ
nodes_below pair w = count_by (has_low_below pair) w.pages

-- how many moves a walk may make yet
abbrev pub moves_left : World → ℕ → ℕ
moves_left w moves = length w.pages - moves

-- the rank of each part of a posting, and of each step at one page: what comes later has a lower one
abbrev pub part_in : Rise → ℕ
part_in rise.Root = 8
part_in rise.Again = 7
part_in rise.Named = 6
part_in (rise.Down page above) = 5
part_in (rise.Above page) = 4
part_in (rise.Held page next) = 4
part_in (rise.Full page) = 4
part_in (rise.Fresh page right) = 3
part_in (rise.Split page right) = 3
part_in (rise.Cut page right) = 3
part_in rise.Grow = 2
part_in (rise.Crown root) = 1
part_in (rise.Crowned root) = 0

abbrev pub step_in : Rise → ℕ
step_in rise.Root = 0
step_in rise.Again = 0
step_in rise.Named = 0
step_in (rise.Down page above) = 0
step_in (rise.Above page) = 2
step_in (rise.Held page next) = 1
step_in (rise.Full page) = 0
step_in (rise.Fresh page right) = 2
step_in (rise.Split page right) = 1
step_in (rise.Cut page right) = 0
step_in rise.Grow = 0
step_in (rise.Crown root) = 0
step_in (rise.Crowned root) = 0

-- whether a separator of the split above is to be posted next
abbrev pub next_in : Rise → ℕ
next_in rise.Root = 0
next_in rise.Again = 0
next_in rise.Named = 0
next_in (rise.Down page above) = 0
next_in (rise.Above page) = 0
next_in (rise.Held page None) = 0
next_in (rise.Held page (Some next)) = 1
next_in (rise.Full page) = 0
next_in (rise.Fresh page right) = 0
next_in (rise.Split page right) = 0
next_in (rise.Cut page right) = 0
next_in rise.Grow = 0
next_in (rise.Crown root) = 0
next_in (rise.Crowned root) = 0

-- the same of the way of a search to the left
abbrev pub part_on : Way → ℕ
part_on way.Start = 1
part_on (way.Down page) = 0
part_on (way.Leaf page) = 0
part_on (way.Shared page) = 0

abbrev pub step_on : Way → ℕ
step_on way.Start = 0
step_on (way.Down page) = 2
step_on (way.Leaf page) = 1
step_on (way.Shared page) = 0

-- whether a separator is to be posted
abbrev pub posting : Stage → ℕ
posting (stage.Post separator rise) = 1
posting other = 0

-- how many splits of inner nodes a posting may make yet
abbrev pub splits_left : World → Stage → ℕ
splits_left w (stage.Post separator rise) = full_inner w
splits_left w other = 0

-- whether there is a further part: the separator of the split above, or the leaves to the left of the target's
abbrev pub further : Stage → ℕ
further (stage.Post separator rise) = next_in rise
further (stage.Left low or_at way) = 0
further other = 1

-- how many leaves a search to the left may go on to yet, at most
abbrev pub leaves_left : World → Stage → ℕ
leaves_left w (stage.Left low or_at way) = nodes_below low w
leaves_left w other = 0

abbrev pub part_of : Stage → ℕ
part_of stage.Start = 2
part_of (stage.Down page) = 1
part_of (stage.Leaf page) = 1
part_of (stage.Held page) = 1
part_of (stage.Full page) = 1
part_of (stage.Split page right) = 0
part_of (stage.Cut page right) = 0
part_of (stage.Share page above) = 1
part_of (stage.Shared page above) = 1
part_of (stage.SharedLeft page) = 1
part_of (stage.Left low or_at way) = part_on way
part_of (stage.Post separator rise) = part_in rise
part_of stage.Ended = 0

abbrev pub step_of : Stage → ℕ
step_of stage.Start = 0
step_of (stage.Down page) = 3
step_of (stage.Leaf page) = 2
step_of (stage.Held page) = 1
step_of (stage.Full page) = 0
step_of (stage.Split page right) = 1
step_of (stage.Cut page right) = 0
step_of (stage.Share page above) = 1
step_of (stage.Shared page above) = 0
step_of (stage.SharedLeft page) = 0
step_of (stage.Left low or_at way) = step_on way
step_of (stage.Post separator rise) = step_in rise
step_of stage.Ended = 0

-- what is left of a call, the weightiest number first; the last is what is left of the pages' own work
abbrev pub left_of : Stage → ℕ → World → ℕ → List ℕ
left_of at moves w own = full_leaves w ∷ posting at ∷ splits_left w at ∷ further at ∷ leaves_left w at ∷ part_of at ∷ moves_left w moves ∷ step_of at ∷ own ∷ []

-- one list is less than another of the same length: the first numbers that differ decide
abbrev pub IsLess : List ℕ → List ℕ → Type 0
IsLess [] ys = ⊥
IsLess (x ∷ xs) [] = ⊥
IsLess (x ∷ xs) (y ∷ ys) = (x < y) ⊎ ((x ≡ y) × IsLess xs ys)

-- in these lists of so many numbers each is less than the one before
abbrev pub IsDescent : ℕ → (ℕ → List ℕ) → Type 0
IsDescent n chain = (k : ℕ) → (length (chain k) ≡ n) × IsLess (chain (suc k)) (chain k)
