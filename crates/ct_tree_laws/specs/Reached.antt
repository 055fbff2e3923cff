-- How an operation has come to its page, as it remembers that.
use Rattle.std.specs.Prelude.{◌≡◌, ℕ, Bool, Option, Some, None}
use Rattle.ct_node.specs.declared.reach.Reach.{Reach}
use Rattle.ct_node.specs.Worlds.{World}
use Rattle.ct_tree_laws.specs.declared.walk.Stage.{Stage}
use Rattle.ct_tree_laws.specs.declared.walk.Stage.TheVariants as stage
use Rattle.ct_tree_laws.specs.declared.left.Way.{Way}
use Rattle.ct_tree_laws.specs.declared.left.Way.TheVariants as way
use Rattle.ct_tree_laws.specs.declared.rise.Separator.{Separator}
use Rattle.ct_tree_laws.specs.declared.rise.Rise.{Rise}
use Rattle.ct_tree_laws.specs.declared.rise.Rise.TheVariants as rise
use Rattle.ct_tree_laws.specs.Trees.{Tree, IsAt}

-- what is known, if anything, is so
abbrev pub Agrees : {T : Type 0} → Option T → T → Type 0
Agrees None value = Unit {0}
Agrees (Some known) value = known ≡ value

-- the page that a search to the left has come to on its way to the next leaf
abbrev pub page_on : Way → Option ℕ
page_on way.Start = None
page_on (way.Down page) = Some page
page_on (way.Leaf page) = Some page
page_on (way.Shared page) = Some page

-- the page that the posting of a separator has come to; with the definition page it is the old root
abbrev pub page_in : Separator → Rise → Option ℕ
page_in separator (rise.Down page above) = Some page
page_in separator (rise.Above page) = Some page
page_in separator (rise.Held page next) = Some page
page_in separator (rise.Full page) = Some page
page_in separator (rise.Fresh page right) = Some page
page_in separator (rise.Split page right) = Some page
page_in separator (rise.Cut page right) = Some page
page_in separator rise.Grow = Some separator.left
page_in separator (rise.Crown root) = Some separator.left
page_in separator (rise.Crowned root) = Some separator.left
page_in separator other = None

-- the page that an operation has come to, if it is at one
abbrev pub page_of : Stage → Option ℕ
page_of stage.Start = None
page_of (stage.Down page) = Some page
page_of (stage.Leaf page) = Some page
page_of (stage.Held page) = Some page
page_of (stage.Full page) = Some page
page_of (stage.Split page right) = Some page
page_of (stage.Cut page right) = Some page
page_of (stage.Share page above) = Some page
page_of (stage.Shared page above) = Some page
page_of (stage.SharedLeft page) = Some page
page_of (stage.Left low or_at way) = page_on way
page_of (stage.Post separator rise) = page_in separator rise
page_of stage.Ended = None

-- the page above, from which the walk to a separator last went down
abbrev pub over_in : Rise → Option ℕ
over_in (rise.Down page above) = above
over_in other = None

abbrev pub over_of : Stage → Option ℕ
over_of (stage.Post separator rise) = over_in rise
over_of other = None

-- a page stands as it was reached: links reach the node there, which begins at this bound, and what is known of it is so
pub record IsReachedIn (w : World) (t : Tree) (reach : Reach) (page : ℕ) : Type 0 where
  pub leaf : Bool
  pub at : IsAt w t leaf reach.low page
  pub kind : Agrees reach.leaf leaf
  pub file : Agrees reach.file t.file
  pub index : reach.index ≡ t.index
  pub key_len : Agrees reach.key_len t.key_len

-- the page, if there is one, stands as it was reached
abbrev pub IsReachedAt : Option ℕ → Reach → World → Type 0
IsReachedAt None reach w = Unit {0}
IsReachedAt (Some page) reach w = (t : Tree) × IsReachedIn w t reach page

-- the page that an operation has come to stands as it remembers to have reached it
abbrev pub IsReached : Stage → Reach → World → Type 0
IsReached stage reach w = IsReachedAt (page_of stage) reach w

-- and so does the page above from which a walk to a separator last went down
abbrev pub IsOver : Stage → Reach → World → Type 0
IsOver stage over w = IsReachedAt (over_of stage) over w
