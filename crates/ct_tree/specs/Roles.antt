-- The role of the page that an operation has come to: how it came there, and that it goes on from no page outside its role.
use Rattle.std.specs.Prelude.{◌≡◌, ℕ, ◌==◌, ◌&&◌, not, Bool, true, false, if◌then◌else◌, Option, Some, None}
use Rattle.ct_definitions.specs.Pairs.{Pair}
use Rattle.ct_disk.specs.declared.turn.Turn.{Turn}
use Rattle.ct_disk.specs.declared.turn.Turn.TheVariants.{Done, More, Busy, Refused}
use Rattle.ct_node.specs.declared.reach.Reach.{Reach}
use Rattle.ct_node.specs.declared.target.Target.TheVariants.{At, Before}
use Rattle.ct_node.specs.Nodes.{NodeValue}
use Rattle.ct_node.specs.Reaches.{is_in_role, reach_root, reach_right, reach_half, reach_next}
use Rattle.ct_node.specs.Worlds.{World, PageValue, Blank, Defines, Holds, page_at}
use Rattle.ct_tree_laws.specs.declared.walk.Walk.{Walk}
use Rattle.ct_tree_laws.specs.declared.walk.Stage.{Stage}
use Rattle.ct_tree_laws.specs.declared.walk.Stage.TheVariants as stage
use Rattle.ct_tree_laws.specs.declared.left.Way.{Way}
use Rattle.ct_tree_laws.specs.declared.left.Way.TheVariants as way
use Rattle.ct_tree_laws.specs.declared.rise.Separator.{Separator}
use Rattle.ct_tree_laws.specs.declared.rise.Rise.{Rise}
use Rattle.ct_tree_laws.specs.declared.rise.Rise.TheVariants as rise
use Rattle.ct_tree_laws.specs.Reached.{page_of, over_of, IsReached, IsOver}
use Rattle.ct_tree.specs.declared.roles.Ways.{Ways}
use Rattle.ct_tree.specs.Moves.{looked_at}

-- the page that is looked at, if one is, holds no node outside its role
abbrev pub HasRole : Option ℕ → Reach → World → Type 0
HasRole None reach w = Unit {0}
HasRole (Some page) reach w = (node : NodeValue) → page_at w page ≡ Holds node → is_in_role reach node ≡ true

-- a turn has not gone on: it waits for the pages, another operation is in its way, or it is refused
abbrev pub HasStayed : {T : Type 0} → Turn T → Stage → Stage → Type 0
HasStayed (Done answer) from to = ⊥
HasStayed More from to = to ≡ from
HasStayed (Busy op) from to = Unit {0}
HasStayed (Refused fault) from to = Unit {0}

-- a turn goes on from no page outside its role, and answers nothing there
abbrev pub StaysOutside : {T : Type 0} → Turn T → Stage → Stage → Reach → World → Type 0
StaysOutside result from to reach w = (page : ℕ) (node : NodeValue) → looked_at from ≡ Some page → page_at w page ≡ Holds node → is_in_role reach node ≡ false → HasStayed result from to

-- on the way of a search to the left
abbrev pub way_left : Pair → Way → NodeValue → Reach
way_left low (way.Down page) node = reach_next node (Before low)
way_left low other node = reach_right node

-- in the posting of a separator
abbrev pub way_up : Separator → Rise → NodeValue → Reach
way_up separator (rise.Down page above) node = reach_next node (At separator.low)
way_up separator (rise.Cut page right) node = reach_half node
way_up separator other node = reach_right node

-- the way to the page at which an operation goes on from the node of its page: toward what it looks for; after a cut to the right half; and else to the right
abbrev pub way_on : Walk → Stage → NodeValue → Reach
way_on walk (stage.Down page) node = reach_next node walk.target
way_on walk (stage.Left low or_at way) node = way_left low way node
way_on walk (stage.Post separator rise) node = way_up separator rise node
way_on walk other node = reach_right node

-- and from what stands in its page
abbrev pub way_from : Walk → Stage → PageValue → Reach
way_from walk from Blank = reach_root walk.at walk.target
way_from walk from (Defines def) = reach_root walk.at walk.target
way_from walk from (Holds node) = way_on walk from node

-- what stands in the page that is looked at, if one is
abbrev pub seen_in : World → Option ℕ → PageValue
seen_in w None = Blank
seen_in w (Some page) = page_at w page

-- the way from the page that an operation looks at
abbrev pub way_of : Walk → Stage → World → Reach
way_of walk from w = way_from walk from (seen_in w (looked_at from))

-- whether an operation has found the leaf that it was looking for
abbrev pub finds_left : Way → Bool
finds_left (way.Leaf page) = true
finds_left other = false

abbrev pub finds_leaf : Stage → Bool
finds_leaf (stage.Leaf page) = true
finds_leaf (stage.Left low or_at way) = finds_left way
finds_leaf other = false

-- the way to the page of an operation that stays there; one that finds its leaf there knows then that it is one
abbrev pub way_here : Bool → Stage → Reach → Reach
way_here found to before = if finds_leaf to && not found then record before { leaf = Some true } else before

-- the way to another page: to the page above, as the walk had come there, where it goes up to that; and else that from its page
abbrev pub way_moved : Option ℕ → Option ℕ → Reach → Reach → Reach
way_moved None now over on = on
way_moved (Some above) None over on = over
way_moved (Some above) (Some now) over on = on

-- the way to the page of an operation after a turn: from no page it came to the root
abbrev pub way_after : Walk → Option ℕ → Option ℕ → Bool → Option ℕ → Stage → Reach → Reach → Reach → Reach
way_after walk page above found None to before over on = before
way_after walk None above found (Some next) to before over on = reach_root walk.at walk.target
way_after walk (Some page) above found (Some next) to before over on = if page == next then way_here found to before else way_moved above (over_of to) over on

-- how an operation has come to its page after a turn
abbrev pub came_by : Walk → World → Stage → Stage → Reach → Reach → Reach
came_by walk w from to before over = way_after walk (page_of from) (over_of from) (finds_leaf from) (page_of to) to before over (way_of walk from w)

-- the way to the page above after a turn: that of the page from which the walk has just gone down, and else as it was
abbrev pub over_after : Option ℕ → Option ℕ → ℕ → Reach → Reach → Reach
over_after None now above before over = over
over_after (Some page) None above before over = over
over_after (Some page) (Some next) above before over = if page == next then over else (if page == above then before else over)

-- how a walk to a separator had come to the page above, where it remembers one
abbrev pub CameOver : Stage → Stage → Reach → Reach → Reach → Type 0
CameOver from to before over after = (above : ℕ) → over_of to ≡ Some above → after ≡ over_after (page_of from) (page_of to) above before over

-- what an operation remembers of how it came to its page and to the page above stands
abbrev pub HasCome : Stage → Ways → World → Type 0
HasCome stage ways w = IsReached stage ways.at w × IsOver stage ways.over w

-- the ways of an operation that has come to no page yet
abbrev pub new_ways : Walk → Ways
new_ways walk = record { at = reach_root walk.at walk.target; over = reach_root walk.at walk.target }

-- how an operation remembers to have come to its page after a turn, and a walk to a separator to the page above
abbrev pub Comes : Walk → World → Stage → Stage → Ways → Ways → Type 0
Comes walk w from to before after = (after.at ≡ came_by walk w from to before.at before.over) × CameOver from to before.at before.over after.over

-- what a turn leaves of the ways: they are those by which it came where it goes on, and else stay
abbrev pub Follows : Turn (Unit {0}) → Walk → World → Stage → Stage → Ways → Ways → Type 0
Follows (Done answer) walk w from to before after = after ≡ before
Follows More walk w from to before after = Comes walk w from to before after
Follows (Busy op) walk w from to before after = after ≡ before
Follows (Refused fault) walk w from to before after = after ≡ before

-- and of the way to its page, of an operation that remembers no page above
abbrev pub Arrives : Turn (Unit {0}) → Walk → World → Stage → Stage → Reach → Reach → Type 0
Arrives (Done answer) walk w from to before after = after ≡ before
Arrives More walk w from to before after = (over : Reach) → after ≡ came_by walk w from to before over
Arrives (Busy op) walk w from to before after = after ≡ before
Arrives (Refused fault) walk w from to before after = after ≡ before

-- whether a turn is to be followed by another
abbrev pub is_more : {T : Type 0} → Turn T → Bool
is_more (Done answer) = false
is_more More = true
is_more (Busy op) = false
is_more (Refused fault) = false
