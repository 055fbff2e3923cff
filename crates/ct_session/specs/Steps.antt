-- What a session answers to a line, and what the store and the session are then.
use Rattle.std.specs.Prelude.{◌≡◌, ◌⊎◌, ℕ, List, [], Bool, true, false, MatchBool, MatchOption, Option, Some, None}
use Rattle.ct_line.specs.declared.call.Call.{Call}
use Rattle.ct_line.specs.declared.call.Call.TheVariants as calls
use Rattle.ct_line.specs.declared.line.TheConstants.{LONGEST_LINE}
use Rattle.ct_line.specs.Calls.{SpellsCall}
use Rattle.ct_line.specs.Grammar.{IsBadAt}
use Rattle.ct_isam.specs.declared.session.Seat.{Seat}
use Rattle.ct_isam.specs.Calls.{Replies}
use Rattle.ct_isam.specs.Replies.{Reply, ok, bad_line, halt_err, no_memory, silent}
use Rattle.ct_yard.specs.Machine.{Machine}

-- one session: what it keeps of the files that it uses, and whether QUIT has ended it
pub record Visit : Type 0 where
  pub seats : List Seat
  pub ended : Bool

-- a session that has used no file
abbrev pub begun_visit : Visit
begun_visit = record { seats = []; ended = false }

-- the line leaves the grammar at the place; a line that was too long leaves it at its longest length
abbrev pub IsBadLine : Option (List ℕ) → ℕ → Type 0
IsBadLine None at = at ≡ LONGEST_LINE
IsBadLine (Some line) at = IsBadAt line at

-- the line asks for the call
abbrev pub AsksFor : Option (List ℕ) → Call → Type 0
AsksFor None call = ⊥
AsksFor (Some line) call = SpellsCall line call

abbrev pub is_quit : Call → Bool
is_quit calls.Quit = true
is_quit call = false

-- a reply that changes nothing
abbrev pub Tells : Reply → Machine → Visit → Reply → Machine → Visit → Type 0
Tells told old visit reply new new_visit = (reply ≡ told) × (new ≡ old) × (new_visit ≡ visit)

-- QUIT ends the session, also where the store has halted
abbrev pub Quits : Machine → Visit → Reply → Machine → Visit → Type 0
Quits old visit reply new new_visit = (reply ≡ ok) × (new ≡ old) × (new_visit ≡ record visit { ended = true })

-- a running store answers any other call as it does for that session
abbrev pub Runs : Call → Machine → Visit → Reply → Machine → Visit → Type 0
Runs call old visit reply new new_visit = Replies call old visit.seats reply new new_visit.seats × (new_visit.ended ≡ visit.ended)

-- what a call comes to: QUIT; a store that has halted tells the cause; a running one answers
abbrev pub Calls : Call → Machine → Visit → Reply → Machine → Visit → Type 0
Calls call old visit reply new new_visit = MatchBool (is_quit call)
    (Quits old visit reply new new_visit)
    (MatchOption old.halt (Runs call old visit reply new new_visit) (λ cause. Tells (halt_err cause) old visit reply new new_visit))

-- what a line comes to: the place where it leaves the grammar is told, and what it asks for is done
abbrev pub Hears : Option (List ℕ) → Machine → Visit → Reply → Machine → Visit → Type 0
Hears line old visit reply new new_visit = ((at : ℕ) × IsBadLine line at × Tells (bad_line at) old visit reply new new_visit)
    ⊎ ((call : Call) × AsksFor line call × Calls call old visit reply new new_visit)

-- what a session answers to a line: after its end nothing; else what the line comes to, or want of memory with nothing changed
abbrev pub Step : Machine → Visit → Option (List ℕ) → Reply → Machine → Visit → Type 0
Step old visit line reply new new_visit = MatchBool visit.ended
    (Tells silent old visit reply new new_visit)
    (Tells no_memory old visit reply new new_visit ⊎ Hears line old visit reply new new_visit)
