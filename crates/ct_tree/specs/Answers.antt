-- What a turn's answer says of the pairs, and of who is in the way.
use Rattle.std.specs.Prelude.{◌≡◌, ℕ, Bool, true, false, List, Option, Some, find, ◌⊎◌, ◌&&◌, ◌==◌, not, length, if◌then◌else◌, reverse}
use Rattle.ct_disk.specs.declared.turn.Turn.{Turn}
use Rattle.ct_disk.specs.declared.turn.Turn.TheVariants.{Done, More, Busy, Refused}
use Rattle.ct_latch.specs.declared.hold.Hold.{Hold}
use Rattle.ct_latch.specs.Latches.{bars}
use Rattle.ct_definitions.specs.Pairs.{Pair}
use Rattle.ct_node.specs.declared.target.Target.{Target}
use Rattle.ct_node.specs.declared.target.Target.TheVariants.{First, Last, At, Before}
use Rattle.ct_node.specs.Nodes.{NodeValue, is_within, has_pair}
use Rattle.ct_node.specs.Places.{is_ahead}
use Rattle.ct_node.specs.Roles.{begins_at_low}
use Rattle.ct_node.specs.declared.root.Mark.{Mark}
use Rattle.ct_node.specs.Worlds.{World, no_mark, Effect}
use Rattle.ct_tree_laws.specs.declared.walk.Walk.{Walk}
use Rattle.ct_tree_laws.specs.declared.walk.Stage.{Stage}
use Rattle.ct_tree_laws.specs.declared.walk.Stage.TheVariants as stage
use Rattle.ct_tree_laws.specs.declared.left.Way.{Way}
use Rattle.ct_tree_laws.specs.declared.rise.Rise.{Rise}
use Rattle.ct_tree_laws.specs.declared.rise.Separator.{Separator}
use Rattle.ct_tree_laws.specs.Trees.{Chain}
use Rattle.ct_tree_laws.specs.Stands.{KeepsKeys, ChangesKeys, added, without}
use Rattle.ct_tree.specs.declared.seek.Seek.{Seek}
use Rattle.ct_tree.specs.declared.seek.Seek.TheVariants.{AtOrAbove, Above, AtOrBelow, Below}

-- a stage of a search on its way to the left
abbrev pub IsLeft : Bool → Stage → Type 0
IsLeft or_at at = (low : Pair) × (way : Way) × (at ≡ stage.Left low or_at way)

-- a stage of a posting
abbrev pub IsPosting : Stage → Type 0
IsPosting at = (separator : Separator) × (rise : Rise) × (at ≡ stage.Post separator rise)

-- whether a turn has ended its call
abbrev pub is_done : Turn (Unit {0}) → Bool
is_done (Done answer) = true
is_done More = false
is_done (Busy op) = false
is_done (Refused fault) = false

-- a target that is a pair
abbrev pub IsPair : Target → Type 0
IsPair First = ⊥
IsPair Last = ⊥
IsPair (At pair) = Unit {0}
IsPair (Before pair) = ⊥

-- the pairs with the one that is put
abbrev pub put_at : Target → List Pair → List Pair
put_at First keys = keys
put_at Last keys = keys
put_at (At pair) keys = added pair keys
put_at (Before pair) keys = keys

-- the turn that ends a put adds its pair, and no other turn changes a pair
abbrev pub PutsKeys : Walk → Turn (Unit {0}) → World → World → Type 0
PutsKeys walk (Done answer) w now = ChangesKeys walk.at (put_at walk.target) w now
PutsKeys walk More w now = KeepsKeys w now
PutsKeys walk (Busy op) w now = KeepsKeys w now
PutsKeys walk (Refused fault) w now = KeepsKeys w now

-- another operation is in the way: it owns the flush of the log, or holds a page in conflict
abbrev pub IsInTheWay : Option ℕ → World → ℕ → ℕ → Type 0
IsInTheWay flushes w op other = (flushes ≡ Some other) ⊎ ((page : ℕ) × (own : Bool) × (hold : Hold) × (find (bars page op own) w.holds ≡ Some hold) × (hold.op ≡ other))

-- whether a node is a leaf that a pair may stand in
abbrev pub is_for : NodeValue → Pair → Bool
is_for node pair = node.leaf && node.key_len == length pair.key && is_within node.low node.high pair

-- the pairs without the one that is taken, and whether it is there
abbrev pub take_at : Target → List Pair → List Pair
take_at First keys = keys
take_at Last keys = keys
take_at (At pair) keys = without pair keys
take_at (Before pair) keys = keys

abbrev pub has_at : Target → List Pair → Bool
has_at First keys = false
has_at Last keys = false
has_at (At pair) keys = has_pair pair keys
has_at (Before pair) keys = false

-- the turn that ends a take takes its pair, and no other turn changes a pair
abbrev pub TakesKeys : Walk → Turn (Unit {0}) → World → World → Type 0
TakesKeys walk (Done answer) w now = ChangesKeys walk.at (take_at walk.target) w now
TakesKeys walk More w now = KeepsKeys w now
TakesKeys walk (Busy op) w now = KeepsKeys w now
TakesKeys walk (Refused fault) w now = KeepsKeys w now

-- that turn tells whether the pair was there
abbrev pub TellsTaken : Walk → Turn (Unit {0}) → Bool → World → Type 0
TellsTaken walk (Done answer) found w = (keys : List Pair) → Chain w walk.at keys → found ≡ has_at walk.target keys
TellsTaken walk More found w = Unit {0}
TellsTaken walk (Busy op) found w = Unit {0}
TellsTaken walk (Refused fault) found w = Unit {0}

-- the first pair at a target or above it; where `above` is set, above it
abbrev pub found_right : Bool → Target → List Pair → Option Pair
found_right above target keys = find (λ pair. not (is_ahead above target pair)) keys

-- the last pair below a target; where `or_at` is set, at it or below it
abbrev pub found_left : Bool → Target → List Pair → Option Pair
found_left or_at target keys = find (is_ahead or_at target) (reverse keys)

-- the pair that a search is for, by its place beside the target
abbrev pub found_by : Seek → Target → List Pair → Option Pair
found_by AtOrAbove target keys = found_right false target keys
found_by Above target keys = found_right true target keys
found_by AtOrBelow target keys = found_left true target keys
found_by Below target keys = found_left false target keys

-- the turn that ends a search tells what is found among the pairs as they stand at it
abbrev pub TellsFound : Walk → (Target → List Pair → Option Pair) → Turn (Unit {0}) → Option Pair → World → Type 0
TellsFound walk found_at (Done answer) found w = (keys : List Pair) → Chain w walk.at keys → found ≡ found_at walk.target keys
TellsFound walk found_at More found w = Unit {0}
TellsFound walk found_at (Busy op) found w = Unit {0}
TellsFound walk found_at (Refused fault) found w = Unit {0}

-- the stages of a put or take that has not ended
abbrev pub IsPutting : Stage → Type 0
IsPutting stage.Start = Unit {0}
IsPutting (stage.Down page) = Unit {0}
IsPutting (stage.Leaf page) = Unit {0}
IsPutting (stage.Held page) = Unit {0}
IsPutting (stage.Full page) = Unit {0}
IsPutting (stage.Split page right) = Unit {0}
IsPutting (stage.Cut page right) = Unit {0}
IsPutting (stage.Share page above) = ⊥
IsPutting (stage.Shared page above) = ⊥
IsPutting (stage.SharedLeft page) = ⊥
IsPutting (stage.Left low or_at way) = ⊥
IsPutting (stage.Post separator rise) = Unit {0}
IsPutting stage.Ended = ⊥

-- a put or take has ended exactly where its turn says so
abbrev pub GoesOn : Turn (Unit {0}) → Stage → Type 0
GoesOn (Done answer) to = to ≡ stage.Ended
GoesOn More to = IsPutting to
GoesOn (Busy op) to = IsPutting to
GoesOn (Refused fault) to = IsPutting to

-- the stages of a search to the right that has not ended
abbrev pub IsSearching : Bool → Stage → Type 0
IsSearching above stage.Start = Unit {0}
IsSearching above (stage.Down page) = Unit {0}
IsSearching above (stage.Leaf page) = Unit {0}
IsSearching above (stage.Held page) = ⊥
IsSearching above (stage.Full page) = ⊥
IsSearching above (stage.Split page right) = ⊥
IsSearching above (stage.Cut page right) = ⊥
IsSearching above (stage.Share page over) = over ≡ above
IsSearching above (stage.Shared page over) = over ≡ above
IsSearching above (stage.SharedLeft page) = ⊥
IsSearching above (stage.Left low or_at way) = ⊥
IsSearching above (stage.Post separator rise) = ⊥
IsSearching above stage.Ended = ⊥

-- the stages of a search to the left that has not ended
abbrev pub IsSearchingLeft : Bool → Stage → Type 0
IsSearchingLeft or_at stage.Start = Unit {0}
IsSearchingLeft or_at (stage.Down page) = Unit {0}
IsSearchingLeft or_at (stage.Leaf page) = Unit {0}
IsSearchingLeft or_at (stage.Held page) = ⊥
IsSearchingLeft or_at (stage.Full page) = ⊥
IsSearchingLeft or_at (stage.Split page right) = ⊥
IsSearchingLeft or_at (stage.Cut page right) = ⊥
IsSearchingLeft or_at (stage.Share page above) = ⊥
IsSearchingLeft or_at (stage.Shared page above) = ⊥
IsSearchingLeft or_at (stage.SharedLeft page) = Unit {0}
IsSearchingLeft or_at (stage.Left low over way) = over ≡ or_at
IsSearchingLeft or_at (stage.Post separator rise) = ⊥
IsSearchingLeft or_at stage.Ended = ⊥

-- the stages of a search that has not ended
abbrev pub IsSearchingBy : Seek → Stage → Type 0
IsSearchingBy AtOrAbove at = IsSearching false at
IsSearchingBy Above at = IsSearching true at
IsSearchingBy AtOrBelow at = IsSearchingLeft true at
IsSearchingBy Below at = IsSearchingLeft false at

-- the answer of a turn, with what a call that has ended tells
abbrev pub answer_with : {T : Type 0} → Turn (Unit {0}) → T → Turn T
answer_with (Done answer) told = Done told
answer_with More told = More
answer_with (Busy op) told = Busy op
answer_with (Refused fault) told = Refused fault

-- the stages on the way to a leaf
abbrev pub IsFinding : Stage → Type 0
IsFinding stage.Start = Unit {0}
IsFinding (stage.Down page) = Unit {0}
IsFinding (stage.Leaf page) = Unit {0}
IsFinding (stage.Held page) = ⊥
IsFinding (stage.Full page) = ⊥
IsFinding (stage.Split page right) = ⊥
IsFinding (stage.Cut page right) = ⊥
IsFinding (stage.Share page above) = ⊥
IsFinding (stage.Shared page above) = ⊥
IsFinding (stage.SharedLeft page) = ⊥
IsFinding (stage.Left low or_at way) = ⊥
IsFinding (stage.Post separator rise) = ⊥
IsFinding stage.Ended = ⊥

-- the stages of a take that has not ended
abbrev pub IsTaking : Stage → Type 0
IsTaking stage.Start = Unit {0}
IsTaking (stage.Down page) = Unit {0}
IsTaking (stage.Leaf page) = Unit {0}
IsTaking (stage.Held page) = Unit {0}
IsTaking (stage.Full page) = ⊥
IsTaking (stage.Split page right) = ⊥
IsTaking (stage.Cut page right) = ⊥
IsTaking (stage.Share page above) = ⊥
IsTaking (stage.Shared page above) = ⊥
IsTaking (stage.SharedLeft page) = ⊥
IsTaking (stage.Left low or_at way) = ⊥
IsTaking (stage.Post separator rise) = ⊥
IsTaking stage.Ended = ⊥

-- a take has ended exactly where its turn says so
abbrev pub TakeGoesOn : {T : Type 0} → Turn T → Stage → Type 0
TakeGoesOn (Done answer) to = to ≡ stage.Ended
TakeGoesOn More to = IsTaking to
TakeGoesOn (Busy op) to = IsTaking to
TakeGoesOn (Refused fault) to = IsTaking to

-- the turn that ends a take takes its pair and tells whether it was there; no other turn changes a pair
abbrev pub TakenKeys : Walk → Turn Bool → World → World → Type 0
TakenKeys walk (Done found) w now = ChangesKeys walk.at (take_at walk.target) w now
TakenKeys walk More w now = KeepsKeys w now
TakenKeys walk (Busy op) w now = KeepsKeys w now
TakenKeys walk (Refused fault) w now = KeepsKeys w now

abbrev pub IsTaken : Walk → Turn Bool → World → Type 0
IsTaken walk (Done found) w = (keys : List Pair) → Chain w walk.at keys → found ≡ has_at walk.target keys
IsTaken walk More w = Unit {0}
IsTaken walk (Busy op) w = Unit {0}
IsTaken walk (Refused fault) w = Unit {0}

-- the turn that ends a search finds its pair among those that stand at it
abbrev pub IsFound : Walk → (Target → List Pair → Option Pair) → Turn (Option Pair) → World → Type 0
IsFound walk found_at (Done found) w = (keys : List Pair) → Chain w walk.at keys → found ≡ found_at walk.target keys
IsFound walk found_at More w = Unit {0}
IsFound walk found_at (Busy op) w = Unit {0}
IsFound walk found_at (Refused fault) w = Unit {0}

-- the stages of a search that has no leaf to look at
abbrev pub IsSeeking : Bool → Stage → Type 0
IsSeeking above stage.Start = Unit {0}
IsSeeking above (stage.Down page) = Unit {0}
IsSeeking above (stage.Leaf page) = Unit {0}
IsSeeking above (stage.Held page) = ⊥
IsSeeking above (stage.Full page) = ⊥
IsSeeking above (stage.Split page right) = ⊥
IsSeeking above (stage.Cut page right) = ⊥
IsSeeking above (stage.Share page over) = over ≡ above
IsSeeking above (stage.Shared page over) = ⊥
IsSeeking above (stage.SharedLeft page) = ⊥
IsSeeking above (stage.Left low or_at way) = ⊥
IsSeeking above (stage.Post separator rise) = ⊥
IsSeeking above stage.Ended = ⊥

-- a turn makes the step with this mark or none where it is done, and no other turn makes a step
abbrev pub GoesBy : {T : Type 0} → Turn T → Mark → (Mark → Type 0) → Type 0
GoesBy (Done answer) mark goes = goes mark ⊎ goes no_mark
GoesBy More mark goes = goes no_mark
GoesBy (Busy op) mark goes = goes no_mark
GoesBy (Refused fault) mark goes = goes no_mark

-- the turn that ends a put makes its step, unless the pair is there
abbrev pub BearsPut : Walk → Mark → Turn (Unit {0}) → World → (Mark → Type 0) → Type 0
BearsPut walk mark (Done answer) w goes = (keys : List Pair) → Chain w walk.at keys → goes (if has_at walk.target keys then no_mark else mark)
BearsPut walk mark More w goes = Unit {0}
BearsPut walk mark (Busy op) w goes = Unit {0}
BearsPut walk mark (Refused fault) w goes = Unit {0}

-- the turn that ends a take makes its step where the pair was there; no other turn of it makes a step
abbrev pub BearsTake : Mark → Turn (Unit {0}) → Bool → (Mark → Type 0) → Type 0
BearsTake mark (Done answer) found goes = goes (if found then mark else no_mark)
BearsTake mark More found goes = goes no_mark
BearsTake mark (Busy op) found goes = goes no_mark
BearsTake mark (Refused fault) found goes = goes no_mark

abbrev pub BearsTaken : Mark → Turn Bool → (Mark → Type 0) → Type 0
BearsTaken mark (Done found) goes = goes (if found then mark else no_mark)
BearsTaken mark More goes = goes no_mark
BearsTaken mark (Busy op) goes = goes no_mark
BearsTaken mark (Refused fault) goes = goes no_mark

-- an operation bears no mark, or one that is allowed for its own pair
abbrev pub MayBear : (Mark → Effect → Type 0) → Mark → Target → (Pair → Effect) → Type 0
MayBear allows mark target effect = (mark ≡ no_mark) ⊎ ((pair : Pair) → target ≡ At pair → allows mark (effect pair))

-- whether a node is an inner one that begins at its low bound, with keys as long as a pair's
abbrev pub is_above_for : NodeValue → Pair → Bool
is_above_for node pair = not node.leaf && node.key_len == length pair.key && begins_at_low node
