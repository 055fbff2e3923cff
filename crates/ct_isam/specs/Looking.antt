-- What the parts of a search come to.
use Rattle.std.specs.Prelude.{◌≡◌, ◌⊎◌, ℕ, List, Option, Some, None, option_map, Result, Ok, Err}
use Rattle.ct_definitions.specs.declared.definition.IndexDef.{IndexDef}
use Rattle.ct_definitions.specs.declared.store.Row.{Row}
use Rattle.ct_definitions.specs.Pairs.{Pair, pairs_of}
use Rattle.ct_definitions.specs.Room.{row_at}
use Rattle.ct_line.specs.declared.call.Search.{Search}
use Rattle.ct_line.specs.declared.call.Search.TheVariants as searches
use Rattle.ct_isam.specs.declared.session.KeySet.{KeySet}
use Rattle.ct_isam.specs.declared.session.Seat.{Seat}
use Rattle.ct_isam.specs.declared.reply.Reply.{Reply as Told}
use Rattle.ct_isam.specs.declared.reply.Reply.TheVariants as told
use Rattle.ct_isam.specs.Replies.{Reply, found, no_memory}
use Rattle.ct_isam.specs.Searches.{Finder, Outcome, refused, finds}
use Rattle.ct_isam.specs.Seats.{with_seat}

-- the number of the record of a pair
abbrev pub number_of : Option Pair → Option ℕ
number_of pair = option_map (λ p. p.num) pair

-- the record of a number, where there is one
abbrev pub row_numbered : Option ℕ → List Row → Option Row
row_numbered None rows = None
row_numbered (Some num) rows = row_at num rows

-- what was found by a search, or why it may not look: it has nothing to go on from, or wants memory
abbrev pub IsFoundBy : Option Finder → IndexDef → List Row → Result (Option ℕ) Told → Type 0
IsFoundBy finder index rows (Ok num) = (look : Finder) × (finder ≡ Some look) × (num ≡ number_of (look (pairs_of index rows)))
IsFoundBy finder index rows (Err reply) = (reply ≡ told.Memory) ⊎ ((reply ≡ told.NoCurrent) × (finder ≡ None))

-- a seat with another set, where there is one
abbrev pub seat_with : Option KeySet → Seat → Seat
seat_with None seat = seat
seat_with (Some set) seat = record seat { set = Some set }

-- the set that a search begins
abbrev pub set_of : Search → ℕ → List ℕ → Option KeySet
set_of searches.Get place key = None
set_of searches.Gte place key = None
set_of searches.Gt place key = None
set_of searches.Lte place key = None
set_of searches.Lt place key = None
set_of searches.FirstSet place key = Some (record { index = place; front = key })

-- an outcome shown: a refusal changes nothing, and a record that is found is the session's current one
abbrev pub IsShown : Outcome → List Seat → Reply → List Seat → Type 0
IsShown (refused refusal) seats reply new_seats = (reply ≡ refusal) × (new_seats ≡ seats)
IsShown (finds row seat) seats reply new_seats = (reply ≡ found row.num row.image) × (new_seats ≡ with_seat seat seats)

-- the same, or want of memory, with nothing changed
abbrev pub Looks : Outcome → List Seat → Reply → List Seat → Type 0
Looks outcome seats reply new_seats = ((reply ≡ no_memory) × (new_seats ≡ seats)) ⊎ IsShown outcome seats reply new_seats
