-- What a session does to a yard, by the machine that the yard stands for.
use Rattle.std.specs.Prelude.{◌≡◌, ℕ, List, ◌++◌, Bool, true, false, IsTrue, MatchOption, Option}
use Rattle.ct_line.specs.declared.call.Call.{Call}
use Rattle.ct_yard.specs.Telling.{Telling}
use Rattle.ct_yard.specs.declared.yard.Yard.{Yard}
use Rattle.ct_yard.specs.Machine.{Machine}
use Rattle.ct_yard.specs.Yards.{StandsFor, KeptThrough}
use Rattle.ct_isam.specs.declared.session.Seat.{Seat}
use Rattle.ct_isam.specs.Calls.{Replies}
use Rattle.ct_isam.specs.Replies.{Reply}
use Rattle.ct_session.specs.declared.run.Asked.{Asked}
use Rattle.ct_session.specs.declared.run.Asked.TheVariants.{Nothing, BadLine, ACall}
use Rattle.ct_session.specs.declared.run.SessionRun.{SessionRun}
use Rattle.ct_session.specs.Replies.{spelling}
use Rattle.ct_session.specs.Steps.{Visit, Step, Calls, IsBadLine, AsksFor}

-- what a session is to its store
abbrev pub visit_of : SessionRun → Visit
visit_of run = record { seats = run.session; ended = run.ended }

-- what is under way is what the line asks for
abbrev pub IsUnderWay : Option (List ℕ) → Bool → Asked → Type 0
IsUnderWay line ended Nothing = ended ≡ true
IsUnderWay line ended (BadLine at) = (ended ≡ false) × IsBadLine line at
IsUnderWay line ended (ACall call) = (ended ≡ false) × AsksFor line call

-- a session has begun what the line asks for
abbrev pub Begins : Option (List ℕ) → SessionRun → Type 0
Begins line run = MatchOption run.asked ⊥ (IsUnderWay line run.ended)

-- A session answers by a reply behind the text that waits, which its store may give, and each acknowledged transaction is kept through it.
abbrev pub AnswersBy : {P L : Type 0} → Telling L → (Machine → Reply → Machine → Type 0) → Yard P L → Yard P L → List ℕ → List ℕ → Type 0
AnswersBy disk Gives old new text longer = (founded : Bool) (front : List ℕ) (machine : Machine) → (IsTrue founded → IsTrue disk.tells) → StandsFor founded disk front machine old →
    (reply : Reply) × (next : Machine) × Gives machine reply next × StandsFor founded disk front next new × KeptThrough founded disk front machine old.log.device next new.log.device × (longer ≡ text ++ spelling reply)

-- a running store answers a call
abbrev pub AnswersRunning : {P L : Type 0} → Telling L → Call → Yard P L → List Seat → Yard P L → List Seat → List ℕ → List ℕ → Type 0
AnswersRunning disk call old seats new new_seats text longer =
    AnswersBy disk (λ machine reply next. Replies call machine seats reply next new_seats) old new text longer

-- a session answers a call
abbrev pub AnswersCall : {P L : Type 0} → Telling L → Call → Yard P L → Visit → Yard P L → Visit → List ℕ → List ℕ → Type 0
AnswersCall disk call old visit new new_visit text longer =
    AnswersBy disk (λ machine reply next. Calls call machine visit reply next new_visit) old new text longer

-- a session answers a line
abbrev pub AnswersLine : {P L : Type 0} → Telling L → Yard P L → Visit → Option (List ℕ) → Yard P L → Visit → List ℕ → List ℕ → Type 0
AnswersLine disk old visit line new new_visit text longer =
    AnswersBy disk (λ machine reply next. Step machine visit line reply next new_visit) old new text longer
