-- What a search asks for, and what it comes to.
use Rattle.std.specs.Prelude.{ℕ, List, true, ◌&&◌, ◌==◌, length, position, bytes_eq, slice_get, if◌then◌else◌, Option, Some, None, option_map}
use Rattle.ct_definitions.specs.declared.definition.FileDef.{FileDef}
use Rattle.ct_definitions.specs.declared.definition.IndexDef.{IndexDef}
use Rattle.ct_definitions.specs.declared.store.File.{File}
use Rattle.ct_definitions.specs.declared.store.Row.{Row}
use Rattle.ct_definitions.specs.Changes.{State}
use Rattle.ct_definitions.specs.Pairs.{Pair, pair_of, pairs_of}
use Rattle.ct_definitions.specs.Room.{row_at}
use Rattle.ct_definitions.specs.Validity.{key_len}
use Rattle.ct_key.specs.Target.{target_from, target_bytes}
use Rattle.ct_line.specs.declared.call.Walk.{Walk}
use Rattle.ct_line.specs.declared.call.Walk.TheVariants as walks
use Rattle.ct_line.specs.declared.call.Search.{Search}
use Rattle.ct_line.specs.declared.call.Search.TheVariants as searches
use Rattle.ct_pairs.specs.Finds.{least, greatest, is_above, is_below, has_key, is_at_or_above, is_key_above, is_at_or_below, is_key_below, is_in_set}
use Rattle.ct_isam.specs.declared.session.Seat.{Seat}
use Rattle.ct_isam.specs.declared.session.KeySet.{KeySet}
use Rattle.ct_isam.specs.Replies.{Reply, no_file, no_index, icur_err, bad_len, inot_err}
use Rattle.ct_isam.specs.Seats.{seat_of}

-- the number of the first file of a name
abbrev pub file_named : List ℕ → State → Option ℕ
file_named name state = position (λ file. bytes_eq file.def.name name) state

-- the place of the first index of a name
abbrev pub index_named : List ℕ → FileDef → Option ℕ
index_named name def = position (λ index. bytes_eq index.name name) def.indexes

-- what a search comes to: a refusal, or a record, with what the session then keeps of the file
pub data Outcome : Type 0 where
  refused : Reply → Outcome
  finds : Row → Seat → Outcome

-- ---- what a search asks for

-- what a search finds among an index's pairs
abbrev pub Finder : Type 0
Finder = List Pair → Option Pair

-- the pair of the current record, where there is one and it has a key
abbrev pub current_pair : IndexDef → Option Row → Option Pair
current_pair index None = None
current_pair index (Some row) = pair_of index row

-- the least pair above one whose key begins with the bytes of a set
abbrev pub next_in_set : List ℕ → Pair → Finder
next_in_set set pair pairs = least (λ other. is_above pair other && is_in_set set other) pairs

-- the next pair of the session's set, where that is one of this index
abbrev pub next_of_set : ℕ → Option KeySet → Option Pair → Option Finder
next_of_set place None pair = None
next_of_set place (Some set) pair = if set.index == place then option_map (next_in_set set.front) pair else None

-- what a search without a target finds: none where the session has no record or set to go on from
abbrev pub walk_finder : Walk → IndexDef → ℕ → Seat → Option Finder
walk_finder walks.First index place seat = Some (least (λ pair. true))
walk_finder walks.Last index place seat = Some (greatest (λ pair. true))
walk_finder walks.Next index place seat = option_map (λ pair. least (is_above pair)) (current_pair index seat.current)
walk_finder walks.Prev index place seat = option_map (λ pair. greatest (is_below pair)) (current_pair index seat.current)
walk_finder walks.NextSet index place seat = next_of_set place seat.set (current_pair index seat.current)

-- what a search for a key finds
abbrev pub key_finder : Search → List ℕ → Finder
key_finder searches.Get key pairs = least (has_key key) pairs
key_finder searches.Gte key pairs = least (is_at_or_above key) pairs
key_finder searches.Gt key pairs = least (is_key_above key) pairs
key_finder searches.Lte key pairs = greatest (is_at_or_below key) pairs
key_finder searches.Lt key pairs = greatest (is_key_below key) pairs
key_finder searches.FirstSet key pairs = least (is_in_set key) pairs

-- the key that a whole target becomes, or none where the target has another length than keys
abbrev pub whole_key : IndexDef → List ℕ → Option (List ℕ)
whole_key index target = if length target == key_len index.segs then Some (target_bytes index.segs target) else None

-- the key, or for a set its first bytes, that a target becomes; none where the target may not be sought
abbrev pub sought_key : Search → IndexDef → List ℕ → Option (List ℕ)
sought_key searches.Get index target = whole_key index target
sought_key searches.Gte index target = whole_key index target
sought_key searches.Gt index target = whole_key index target
sought_key searches.Lte index target = whole_key index target
sought_key searches.Lt index target = whole_key index target
sought_key searches.FirstSet index target = target_from index.segs target

-- what the session keeps of the file where the search finds a record, besides that: FIRSTSET begins a set
abbrev pub seat_for : Search → ℕ → List ℕ → Seat → Seat
seat_for searches.Get place key seat = seat
seat_for searches.Gte place key seat = seat
seat_for searches.Gt place key seat = seat
seat_for searches.Lte place key seat = seat
seat_for searches.Lt place key seat = seat
seat_for searches.FirstSet place key seat = record seat { set = Some (record { index = place; front = key }) }

-- ---- what it comes to

-- the record of a pair that was found
abbrev pub row_of : Option Pair → List Row → Option Row
row_of None rows = None
row_of (Some pair) rows = row_at pair.num rows

-- the record that is found in an index
abbrev pub found_row : Finder → IndexDef → List Row → Option Row
found_row finder index rows = row_of (finder (pairs_of index rows)) rows

-- no record, or one, which becomes the current one
abbrev pub outcome_of : Option Row → Seat → Outcome
outcome_of None seat = refused inot_err
outcome_of (Some row) seat = finds row (record seat { current = Some row })

-- a search without a target in an index
abbrev pub walk_by : Option Finder → IndexDef → List Row → Seat → Outcome
walk_by None index rows seat = refused icur_err
walk_by (Some finder) index rows seat = outcome_of (found_row finder index rows) seat

-- a search for a key in an index
abbrev pub search_by : Search → Option (List ℕ) → IndexDef → ℕ → List Row → Seat → Outcome
search_by kind None index place rows seat = refused bad_len
search_by kind (Some key) index place rows seat = outcome_of (found_row (key_finder kind key) index rows) (seat_for kind place key seat)

-- the item at a place, where there is one
abbrev pub at_item : {A : Type 0} → ℕ → Option A → Outcome → (ℕ → A → Outcome) → Outcome
at_item place None refusal look = refusal
at_item place (Some item) refusal look = look place item

-- the item of a name, where there is one
abbrev pub at_place : {A : Type 0} → Option ℕ → List A → Outcome → (ℕ → A → Outcome) → Outcome
at_place None items refusal look = refusal
at_place (Some place) items refusal look = at_item place (slice_get items place) refusal look

-- a search in a file and an index of these names
abbrev pub in_index : State → List ℕ → List ℕ → (ℕ → File → ℕ → IndexDef → Outcome) → Outcome
in_index state name index look = at_place (file_named name state) state (refused no_file)
    (λ f file. at_place (index_named index file.def) file.def.indexes (refused no_index) (look f file))

-- a search without a target, in an index of a file, where the session keeps these seats
abbrev pub walk_at : Walk → List Seat → ℕ → File → ℕ → IndexDef → Outcome
walk_at walk seats f file place index = walk_by (walk_finder walk index place (seat_of f seats)) index file.records (seat_of f seats)

-- a search for a target there
abbrev pub search_at : Search → List ℕ → List Seat → ℕ → File → ℕ → IndexDef → Outcome
search_at kind target seats f file place index = search_by kind (sought_key kind index target) index place file.records (seat_of f seats)
