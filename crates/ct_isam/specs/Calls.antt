-- What a running store and a session answer to a call, and what they are then.
use Rattle.std.specs.Prelude.{◌≡◌, ◌⊎◌, ℕ, List, length, map, Bool, true, not, ◌&&◌, MatchOption, slice_get, nat_lt, if◌then◌else◌, Option, Some, None}
use Rattle.std.specs.List.{list_any}
use Rattle.ct_definitions.specs.declared.definition.FileDef.{FileDef}
use Rattle.ct_definitions.specs.declared.definition.IndexDef.{IndexDef}
use Rattle.ct_definitions.specs.declared.definition.Seg.{Seg}
use Rattle.ct_definitions.specs.declared.definition.Kind.{Kind}
use Rattle.ct_definitions.specs.declared.definition.Kind.TheVariants as kinds
use Rattle.ct_definitions.specs.declared.store.Row.{Row}
use Rattle.ct_definitions.specs.declared.store.File.{File}
use Rattle.ct_definitions.specs.declared.store.TheConstants.{MOST_FILES}
use Rattle.ct_definitions.specs.declared.change.Change.{Change}
use Rattle.ct_definitions.specs.declared.change.Change.TheVariants.{Make, Add}
use Rattle.ct_definitions.specs.Keys.{key_of}
use Rattle.ct_definitions.specs.Validity.{is_valid}
use Rattle.ct_definitions.specs.Room.{has_fitting_len}
use Rattle.ct_definitions.specs.Changes.{State, allows, has_name, is_same_key}
use Rattle.ct_definitions.specs.Histories.{last_number}
use Rattle.ct_disk.specs.declared.turn.HaltCause.{HaltCause}
use Rattle.ct_line.specs.declared.call.Call.{Call}
use Rattle.ct_line.specs.declared.call.Call.TheVariants as calls
use Rattle.ct_line.specs.declared.call.NewFile.{NewFile}
use Rattle.ct_line.specs.declared.call.NewIndex.{NewIndex}
use Rattle.ct_line.specs.declared.call.NewSeg.{NewSeg}
use Rattle.ct_line.specs.declared.call.NewKind.{NewKind}
use Rattle.ct_line.specs.declared.call.NewKind.TheVariants as new_kinds
use Rattle.ct_yard.specs.Machine.{Machine, state_of, IsCommitted, IsHaltedWith}
use Rattle.ct_isam.specs.declared.session.Seat.{Seat}
use Rattle.ct_isam.specs.Replies.{Reply, ok, number, found, halt_err, unbuilt, no_file, exists, bad_def, bad_len, file_full, kdup_err, no_memory}
use Rattle.ct_isam.specs.Seats.{with_seat, with_current}
use Rattle.ct_isam.specs.Searches.{Outcome, refused, finds, file_named, in_index, walk_at, search_at}

-- ---- CREATE

abbrev pub described_seg : NewSeg → Seg
described_seg seg = record { at = seg.at; len = seg.len; mode = seg.mode; desc = seg.desc }

abbrev pub described_index : NewIndex → IndexDef
described_index index = record { name = index.name; unique = index.unique; null = index.null; segs = map described_seg index.segs }

abbrev pub described_kind : NewKind → Kind
described_kind (new_kinds.Fixed len) = kinds.Fixed len
described_kind (new_kinds.Variable min max) = kinds.Variable min max

-- the definition that a new file is described by; its numbers may be greater than a definition's fields hold
abbrev pub described : NewFile → FileDef
described file = record { name = file.name; kind = described_kind file.kind; indexes = map described_index file.indexes }

-- why no file is made: the name is there, the definition is not valid, or there are as many files as there may be
abbrev pub create_refusal : State → FileDef → Option Reply
create_refusal state def = if has_name state def.name then Some exists else (if not (is_valid def) then Some bad_def else (if nat_lt (length state) MOST_FILES then None else Some file_full))

-- ---- ADD

-- whether some record has the image's key in the index
abbrev pub is_key_in : List Row → List ℕ → IndexDef → Bool
is_key_in rows image index = index.unique && list_any (λ row. is_same_key (key_of index image) (key_of index row.image)) rows

-- whether some record has a key of the image in a unique index
abbrev pub is_duplicate : List ℕ → File → Bool
is_duplicate image file = list_any (is_key_in file.records image) file.def.indexes

-- why a file takes no record of an image: its length, or a key that is there
abbrev pub add_refusal : List ℕ → File → Option Reply
add_refusal image file = if not (has_fitting_len file.def.kind (length image)) then Some bad_len else (if is_duplicate image file then Some kdup_err else None)

-- ---- all calls

-- a change that is defined is committed and answered by a number, or halts the store; the session then is as said, or at a halt as before
pub record IsDone (change : Change) (n : ℕ) (old : Machine) (seats then_seats : List Seat) (reply : Reply) (new : Machine) (new_seats : List Seat) : Type 0 where
  pub reply_is : reply ≡ number n
  pub committed : IsCommitted old change new
  pub session : new_seats ≡ then_seats

pub record IsHalted (change : Change) (old : Machine) (seats : List Seat) (reply : Reply) (new : Machine) (new_seats : List Seat) : Type 0 where
  pub cause : HaltCause
  pub reply_is : reply ≡ halt_err cause
  pub halted : IsHaltedWith cause old change new
  pub session : new_seats ≡ seats

abbrev pub Writes : Change → ℕ → Machine → List Seat → List Seat → Reply → Machine → List Seat → Type 0
Writes change n old seats then_seats reply new new_seats = (allows (state_of old) change ≡ true)
    × (IsDone change n old seats then_seats reply new new_seats ⊎ IsHalted change old seats reply new new_seats)

-- a reply that changes nothing
abbrev pub Tells : Reply → Machine → List Seat → Reply → Machine → List Seat → Type 0
Tells told old seats reply new new_seats = (reply ≡ told) × (new ≡ old) × (new_seats ≡ seats)

-- a search's outcome: a refusal changes nothing, and a record that is found is the session's current one
abbrev pub Shows : Outcome → Machine → List Seat → Reply → Machine → List Seat → Type 0
Shows (refused refusal) old seats reply new new_seats = Tells refusal old seats reply new new_seats
Shows (finds row seat) old seats reply new new_seats = (reply ≡ found row.num row.image) × (new ≡ old) × (new_seats ≡ with_seat seat seats)

-- a new record of a file: it gets a free number whose block has room, and becomes the current one
abbrev pub AddsTo : ℕ → List ℕ → Option File → Machine → List Seat → Reply → Machine → List Seat → Type 0
AddsTo f image None old seats reply new new_seats = Tells no_file old seats reply new new_seats
AddsTo f image (Some file) old seats reply new new_seats = MatchOption (add_refusal image file)
    ((num : ℕ) × Writes (Add f num image) num old seats (with_current f (record { num = num; image = image }) seats) reply new new_seats)
    (λ refusal. Tells refusal old seats reply new new_seats)

abbrev pub Adds : Option ℕ → List ℕ → Machine → List Seat → Reply → Machine → List Seat → Type 0
Adds None image old seats reply new new_seats = Tells no_file old seats reply new new_seats
Adds (Some f) image old seats reply new new_seats = AddsTo f image (slice_get (state_of old) f) old seats reply new new_seats

-- a new file, answered by its transaction's number
abbrev pub Creates : FileDef → Machine → List Seat → Reply → Machine → List Seat → Type 0
Creates def old seats reply new new_seats = MatchOption (create_refusal (state_of old) def)
    (Writes (Make (length (state_of old)) def) (last_number new.history) old seats seats reply new new_seats)
    (λ refusal. Tells refusal old seats reply new new_seats)

-- what is answered to each call; those that are not built yet are told so
abbrev pub Answers : Call → Machine → List Seat → Reply → Machine → List Seat → Type 0
Answers (calls.Create file) old seats reply new new_seats = Creates (described file) old seats reply new new_seats
Answers (calls.Add file image) old seats reply new new_seats = Adds (file_named file (state_of old)) image old seats reply new new_seats
Answers (calls.Walk walk file index) old seats reply new new_seats = Shows (in_index (state_of old) file index (walk_at walk seats)) old seats reply new new_seats
Answers (calls.Search kind file index target) old seats reply new new_seats = Shows (in_index (state_of old) file index (search_at kind target seats)) old seats reply new new_seats
Answers calls.Front old seats reply new new_seats = Tells (number (last_number old.history)) old seats reply new new_seats
Answers calls.Quit old seats reply new new_seats = Tells ok old seats reply new new_seats
Answers calls.Begin old seats reply new new_seats = Tells unbuilt old seats reply new new_seats
Answers calls.Commit old seats reply new new_seats = Tells unbuilt old seats reply new new_seats
Answers calls.Abort old seats reply new new_seats = Tells unbuilt old seats reply new new_seats
Answers calls.Save old seats reply new new_seats = Tells unbuilt old seats reply new new_seats
Answers (calls.Restore savepoint) old seats reply new new_seats = Tells unbuilt old seats reply new new_seats
Answers (calls.Lock mode) old seats reply new new_seats = Tells unbuilt old seats reply new new_seats
Answers (calls.Rewrite file image) old seats reply new new_seats = Tells unbuilt old seats reply new new_seats
Answers (calls.Delete file) old seats reply new new_seats = Tells unbuilt old seats reply new new_seats
Answers calls.Checkpoint old seats reply new new_seats = Tells unbuilt old seats reply new new_seats
Answers (calls.Dump script) old seats reply new new_seats = Tells unbuilt old seats reply new new_seats

-- the same, or want of memory, with nothing changed
abbrev pub Replies : Call → Machine → List Seat → Reply → Machine → List Seat → Type 0
Replies call old seats reply new new_seats = Tells no_memory old seats reply new new_seats ⊎ Answers call old seats reply new new_seats
