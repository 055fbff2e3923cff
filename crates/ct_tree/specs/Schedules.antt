-- Lists of turns of any operations, and what they do to the pairs of each index.
use Rattle.std.specs.Prelude.{◌≡◌, ℕ, ◌<◌, List, [], ◌∷◌, map, length, slice_get, slice_index, Bool, true, false, Option, Some, None, ◌⊎◌, if◌then◌else◌}
use Rattle.std.specs.List.{All}
use Rattle.ct_disk.specs.declared.turn.Turn.{Turn}
use Rattle.ct_disk.specs.declared.turn.Turn.TheVariants.{Done, More, Busy, Refused}
use Rattle.ct_definitions.specs.Pairs.{Pair}
use Rattle.ct_node.specs.declared.root.Root.{Root}
use Rattle.ct_node.specs.declared.target.Target.{Target}
use Rattle.ct_node.specs.declared.target.Target.TheVariants.{At}
use Rattle.ct_node.specs.declared.root.Mark.{Mark}
use Rattle.ct_node.specs.Worlds.{World, Effect, Adds, Drops, no_mark}
use Rattle.ct_tree_laws.specs.declared.walk.Walk.{Walk}
use Rattle.ct_tree_laws.specs.declared.walk.Stage.{Stage}
use Rattle.ct_tree_laws.specs.declared.walk.Stage.TheVariants as stage
use Rattle.ct_tree_laws.specs.Stands.{is_same_root}
use Rattle.ct_tree.specs.declared.program.Program.{Program}
use Rattle.ct_tree.specs.declared.program.Program.TheVariants as program
use Rattle.ct_tree.specs.declared.program.Answer.{Answer}
use Rattle.ct_tree.specs.declared.program.Answer.TheVariants as answer
use Rattle.ct_tree.specs.declared.program.Happened.{Happened}
use Rattle.ct_tree.specs.Answers.{IsPair, MayBear, put_at, take_at, has_at, IsPutting, IsTaking, found_by, IsSearchingBy}
use Rattle.ct_tree.specs.declared.seek.Seek.{Seek}
use Rattle.ct_tree.specs.declared.roles.Ways.{Ways}
use Rattle.ct_tree.specs.Remembered.{Remembers}

-- what an operation is to do
pub data Task : Type 0 where
  Puts : Root → Target → Task
  Takes : Root → Target → Task
  Searches : Root → Target → Seek → Task

abbrev pub walk_of : Program → Walk
walk_of (program.Put put) = put.walk
walk_of (program.Take take) = take.walk
walk_of (program.Search search) = search.walk

abbrev pub moves_of : Program → ℕ
moves_of (program.Put put) = put.moves
moves_of (program.Take take) = take.moves
moves_of (program.Search search) = search.moves

abbrev pub ways_of : Program → Ways
ways_of (program.Put put) = put.ways
ways_of (program.Take take) = take.ways
ways_of (program.Search search) = search.ways

abbrev pub stage_of : Program → Stage
stage_of (program.Put put) = put.stage
stage_of (program.Take take) = take.stage
stage_of (program.Search search) = search.stage

abbrev pub task_of : Program → Task
task_of (program.Put put) = Puts put.walk.at put.walk.target
task_of (program.Take take) = Takes take.walk.at take.walk.target
task_of (program.Search search) = Searches search.walk.at search.walk.target search.seek

-- an operation is at a stage of its kind, and a put or take has a pair
abbrev pub IsReady : Program → Type 0
IsReady (program.Put put) = IsPair put.walk.target × (IsPutting put.stage ⊎ (put.stage ≡ stage.Ended))
IsReady (program.Take take) = IsPair take.walk.target × (IsTaking take.stage ⊎ (take.stage ≡ stage.Ended))
IsReady (program.Search search) = IsSearchingBy search.seek search.stage ⊎ (search.stage ≡ stage.Ended)

-- what a turn that ends a task does to the pairs of an index, and what it tells of them
abbrev pub Ends : Root → Task → Answer → List Pair → List Pair → Type 0
Ends at (Puts root target) answer.Put keys now = now ≡ (if is_same_root at root then put_at target keys else keys)
Ends at (Takes root target) (answer.Taken found) keys now = (now ≡ (if is_same_root at root then take_at target keys else keys)) × (is_same_root at root ≡ true → found ≡ has_at target keys)
Ends at (Searches root target seek) (answer.Found found) keys now = (now ≡ keys) × (is_same_root at root ≡ true → found ≡ found_by seek target keys)
Ends at task told keys now = ⊥

-- what a turn does: only the one that ends a task changes a pair
abbrev pub Happens : Root → Task → Turn Answer → List Pair → List Pair → Type 0
Happens at task (Done told) keys now = Ends at task told keys now
Happens at task More keys now = now ≡ keys
Happens at task (Busy op) keys now = now ≡ keys
Happens at task (Refused fault) keys now = now ≡ keys

-- whether a stage is the last one
abbrev pub is_ended : Stage → Bool
is_ended stage.Start = false
is_ended (stage.Down page) = false
is_ended (stage.Leaf page) = false
is_ended (stage.Held page) = false
is_ended (stage.Full page) = false
is_ended (stage.Split page right) = false
is_ended (stage.Cut page right) = false
is_ended (stage.Share page above) = false
is_ended (stage.Shared page above) = false
is_ended (stage.SharedLeft page) = false
is_ended (stage.Left low or_at way) = false
is_ended (stage.Post separator rise) = false
is_ended stage.Ended = true

-- what an operation remembers stands
abbrev pub IsStanding : World → Program → Type 0
IsStanding w program = Remembers (walk_of program) (stage_of program) (moves_of program) (ways_of program) w

-- the mark that an operation bears; a search bears none
abbrev pub mark_of : Program → Mark
mark_of (program.Put put) = put.mark
mark_of (program.Take take) = take.mark
mark_of (program.Search search) = no_mark

-- a task may make the step that bears this mark, if it is one
abbrev pub MayDo : (Mark → Effect → Type 0) → Mark → Task → Type 0
MayDo allows mark (Puts at target) = MayBear allows mark target (Adds at)
MayDo allows mark (Takes at target) = MayBear allows mark target (Drops at)
MayDo allows mark (Searches at target seek) = Unit {0}

-- an operation may make the step that bears its mark
abbrev pub MayMark : (ℕ → Mark → Effect → Type 0) → Program → Type 0
MayMark allows program = MayDo (allows (walk_of program).op) (mark_of program) (task_of program)

-- so it is of all these operations
abbrev pub AllStand : List Program → World → Type 0
AllStand programs w = All (IsStanding w) programs

abbrev pub op_of : Program → ℕ
op_of program = (walk_of program).op

-- no two of these operations have one number
abbrev pub HaveOwnNumbers : List Program → Type 0
HaveOwnNumbers programs = (i j : ℕ) → i < length programs → j < length programs → slice_index (map op_of programs) i ≡ slice_index (map op_of programs) j → i ≡ j

-- what happens at a place of a list of tasks
abbrev pub HappensAt : Root → Option Task → Turn Answer → List Pair → List Pair → Type 0
HappensAt at None turn keys now = ⊥
HappensAt at (Some task) turn keys now = Happens at task turn keys now

-- a list of turns leads from these pairs of an index to those, each turn as its task says of the pairs at that point
abbrev pub Runs : Root → List Task → List Happened → List Pair → List Pair → Type 0
Runs at tasks [] keys now = now ≡ keys
Runs at tasks (one ∷ more) keys now = (mid : List Pair) × HappensAt at (slice_get tasks one.program) one.turn keys mid × Runs at tasks more mid now

-- the places of the programs whose turns these were
abbrev pub places_of : List Happened → List ℕ
places_of happened = map (λ one. one.program) happened

-- an operation that begins on the index of new pages in memory, with a key of its length
pub record IsNew (key_len : ℕ) (program : Program) : Type 0 where
  pub at : (walk_of program).at ≡ record { page = 0; index = 0 }
  pub starts : stage_of program ≡ stage.Start
  pub still : moves_of program ≡ 0
  pub ready : IsReady program
  pub key : (pair : Pair) → (walk_of program).target ≡ At pair → length pair.key ≡ key_len
