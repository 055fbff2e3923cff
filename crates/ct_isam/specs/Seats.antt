-- What a session keeps of the files that it uses: of each a current record and a set.
use Rattle.std.specs.Prelude.{ℕ, List, [], ◌∷◌, ◌==◌, if◌then◌else◌, Some, None}
use Rattle.ct_definitions.specs.declared.store.Row.{Row}
use Rattle.ct_isam.specs.declared.session.Seat.{Seat}

-- what a session keeps of a file that it has not used
abbrev pub unused_seat : ℕ → Seat
unused_seat file = record { file = file; current = None; set = None }

-- what a session keeps of a file
abbrev pub seat_of : ℕ → List Seat → Seat
seat_of file [] = unused_seat file
seat_of file (seat ∷ seats) = if seat.file == file then seat else seat_of file seats

-- the session with another seat for one file
abbrev pub with_seat : Seat → List Seat → List Seat
with_seat new [] = new ∷ []
with_seat new (seat ∷ seats) = if seat.file == new.file then new ∷ seats else seat ∷ with_seat new seats

-- the session with a record of a file as its current one
abbrev pub with_current : ℕ → Row → List Seat → List Seat
with_current file row seats = with_seat (record (seat_of file seats) { current = Some row }) seats
