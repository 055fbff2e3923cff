-- What a call does to a yard and a session, by the machine that the yard stands for.
use Rattle.std.specs.Prelude.{Bool, IsTrue, ◌≡◌, ◌⊎◌, ℕ, List, None}
use Rattle.ct_definitions.specs.declared.change.Change.TheVariants.{Add}
use Rattle.ct_line.specs.declared.call.Call.{Call}
use Rattle.ct_yard.specs.Telling.{Telling}
use Rattle.ct_yard.specs.declared.yard.Yard.{Yard}
use Rattle.ct_yard.specs.Machine.{Machine}
use Rattle.ct_yard.specs.Yards.{StandsFor, KeptThrough}
use Rattle.ct_isam.specs.declared.session.Seat.{Seat}
use Rattle.ct_isam.specs.Replies.{Reply, no_memory}
use Rattle.ct_isam.specs.Calls.{Replies, Tells, Writes}
use Rattle.ct_isam.specs.Seats.{with_current}

-- a running yard and a session act so, and each acknowledged transaction is kept through it
abbrev pub ServesBy : {P L : Type 0} → Telling L → (Machine → List Seat → Reply → Machine → List Seat → Type 0) → Yard P L → List Seat → Reply → Yard P L → List Seat → Type 0
ServesBy disk acts old seats reply new new_seats = (founded : Bool) (front : List ℕ) (machine : Machine) → (IsTrue founded → IsTrue disk.tells) → StandsFor founded disk front machine old → machine.halt ≡ None →
    (next : Machine) × acts machine seats reply next new_seats × StandsFor founded disk front next new × KeptThrough founded disk front machine old.log.device next new.log.device

-- they answer a call so
abbrev pub Serves : {P L : Type 0} → Telling L → Call → Yard P L → List Seat → Reply → Yard P L → List Seat → Type 0
Serves disk call old seats reply new new_seats = ServesBy disk (Replies call) old seats reply new new_seats

-- a record is added to a file under a number, or there is no memory for it
abbrev pub AddsAs : ℕ → ℕ → List ℕ → Machine → List Seat → Reply → Machine → List Seat → Type 0
AddsAs f num image old seats reply new new_seats = Tells no_memory old seats reply new new_seats ⊎ Writes (Add f num image) num old seats (with_current f (record { num = num; image = image }) seats) reply new new_seats
