-- Where an operation is between two turns, and how many moves to another page its walk has made.
use Rattle.std.specs.Prelude.{ℕ, ◌+◌, ◌<◌, ◌==◌, ◌&&◌, Bool, true, false, not, nat_lt, length, Option, Some, None, IfSome, if◌then◌else◌}
use Rattle.ct_node.specs.Worlds.{World}
use Rattle.ct_tree_laws.specs.declared.walk.Stage.{Stage}
use Rattle.ct_tree_laws.specs.declared.walk.Stage.TheVariants as stage
use Rattle.ct_tree_laws.specs.declared.left.Way.{Way}
use Rattle.ct_tree_laws.specs.declared.left.Way.TheVariants as way
use Rattle.ct_tree_laws.specs.declared.rise.Separator.{Separator}
use Rattle.ct_tree_laws.specs.declared.rise.Rise.{Rise}
use Rattle.ct_tree_laws.specs.declared.rise.Rise.TheVariants as rise
use Rattle.ct_tree.specs.declared.moves.Spot.{Spot}

-- the spot at a page that a walk has come to and not looked at yet; one at a page that it has found; and both on the level above a split
abbrev pub coming : ℕ → Option Spot
coming page = Some (record { page = page; comes = true; above = false })

abbrev pub found : ℕ → Option Spot
found page = Some (record { page = page; comes = false; above = false })

abbrev pub coming_above : ℕ → Option Spot
coming_above page = Some (record { page = page; comes = true; above = true })

abbrev pub found_above : ℕ → Option Spot
found_above page = Some (record { page = page; comes = false; above = true })

-- where a search to the left is on its way to the next leaf
abbrev pub spot_on : Way → Option Spot
spot_on way.Start = None
spot_on (way.Down page) = coming page
spot_on (way.Leaf page) = found page
spot_on (way.Shared page) = found page

-- where the posting of a separator is; a half of a split is at no page of a walk
abbrev pub spot_in : Rise → Option Spot
spot_in rise.Root = None
spot_in (rise.Down page above) = coming page
spot_in (rise.Above page) = coming_above page
spot_in (rise.Held page None) = found_above page
spot_in (rise.Held page (Some next)) = None
spot_in (rise.Full page) = found_above page
spot_in (rise.Fresh page right) = found_above page
spot_in (rise.Split page right) = found_above page
spot_in (rise.Cut page right) = found_above page
spot_in rise.Again = None
spot_in rise.Named = None
spot_in rise.Grow = None
spot_in (rise.Crown root) = None
spot_in (rise.Crowned root) = None

-- where an operation is, if it is at a page
abbrev pub spot_of : Stage → Option Spot
spot_of stage.Start = None
spot_of (stage.Down page) = coming page
spot_of (stage.Leaf page) = found page
spot_of (stage.Held page) = found page
spot_of (stage.Full page) = found page
spot_of (stage.Split page right) = found page
spot_of (stage.Cut page right) = found page
spot_of (stage.Share page above) = coming page
spot_of (stage.Shared page above) = found page
spot_of (stage.SharedLeft page) = found page
spot_of (stage.Left low or_at way) = spot_on way
spot_of (stage.Post separator rise) = spot_in rise
spot_of stage.Ended = None

-- the page that a search to the left looks at on its way to the next leaf
abbrev pub looked_on : Way → Option ℕ
looked_on (way.Down page) = Some page
looked_on (way.Shared page) = Some page
looked_on other = None

-- the page that is looked at in the posting of a separator
abbrev pub looked_in : Separator → Rise → Option ℕ
looked_in separator (rise.Down page above) = Some page
looked_in separator (rise.Held page next) = Some page
looked_in separator (rise.Split page right) = Some page
looked_in separator (rise.Cut page right) = Some page
looked_in separator (rise.Crown root) = Some separator.left
looked_in separator other = None

-- the page that an operation looks at in its turn, if it looks at one
abbrev pub looked_at : Stage → Option ℕ
looked_at (stage.Down page) = Some page
looked_at (stage.Held page) = Some page
looked_at (stage.Split page right) = Some page
looked_at (stage.Cut page right) = Some page
looked_at (stage.Shared page above) = Some page
looked_at (stage.SharedLeft page) = Some page
looked_at (stage.Left low or_at way) = looked_on way
looked_at (stage.Post separator rise) = looked_in separator rise
looked_at other = None

-- whether a walk has not moved: it waits at the page that it had come to
abbrev pub waits : Spot → Spot → Bool
waits from to = from.comes && from.page == to.page

-- how many moves a walk has made after a turn: none where it has left for no page, or begins anew on the level above; one more where it has come to a page
abbrev pub moves_after : Option Spot → Option Spot → ℕ → ℕ
moves_after None to moves = moves
moves_after (Some from) None moves = 0
moves_after (Some from) (Some to) moves = if to.above && not from.above then 0 else (if to.comes && not (waits from to) then moves + 1 else moves)

-- a walk that is at a page has made fewer moves than there are pages
abbrev pub MayMove : Stage → ℕ → World → Type 0
MayMove at moves w = IfSome (spot_of at) (λ spot. moves < length w.pages)

-- the page of a walk that has made as many moves as there are pages: it goes in a circle
abbrev pub circle_at : Option Spot → ℕ → ℕ → Option ℕ
circle_at None moves pages = None
circle_at (Some spot) moves pages = if nat_lt moves pages then None else Some spot.page
