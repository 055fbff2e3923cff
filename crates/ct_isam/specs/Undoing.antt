-- What a session had of a file before a record became the current one, and that put back.
use Rattle.std.specs.Prelude.{ℕ, ◌-◌, List, [], ◌∷◌, length, take, ◌==◌, if◌then◌else◌, Option}
use Rattle.ct_definitions.specs.declared.store.Row.{Row}
use Rattle.ct_isam.specs.declared.session.Seat.{Seat}
use Rattle.ct_isam.specs.declared.session.Before.{Before}
use Rattle.ct_isam.specs.declared.session.Before.TheVariants.{Unused, Used}

-- the seats with another current record of a file that has a seat
abbrev pub with_old : ℕ → Option Row → List Seat → List Seat
with_old file current [] = []
with_old file current (seat ∷ seats) = if seat.file == file then record seat { current = current } ∷ seats else seat ∷ with_old file current seats

-- the seats as they were before: without the last one, which was new, or with the old record
abbrev pub put_back : ℕ → Before → List Seat → List Seat
put_back file Unused seats = take (length seats - 1) seats
put_back file (Used current) seats = with_old file current seats
