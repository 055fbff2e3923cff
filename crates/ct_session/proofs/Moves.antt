-- How a line moves the machine: not at all, or by one change that is defined.
use Rattle.std.proofs.Common.{◌≡◌, ◌⊎◌, inl, inr, ℕ, List, length, Bool, true, false, Option, Some, None, refl, ap, subst, MatchOption, slice_get}
use Rattle.std.specs.Prelude.{MatchBool}
use Rattle.ct_definitions.specs.declared.definition.FileDef.{FileDef}
use Rattle.ct_definitions.specs.declared.store.File.{File}
use Rattle.ct_definitions.specs.declared.change.Change.{Change}
use Rattle.ct_definitions.specs.declared.change.Change.TheVariants.{Make, Add}
use Rattle.ct_definitions.specs.Changes.{allows}
use Rattle.ct_definitions.specs.Histories.{last_number}
use Rattle.ct_disk.specs.declared.turn.HaltCause.{HaltCause}
use Rattle.ct_line.specs.declared.call.Call.{Call}
use Rattle.ct_line.specs.declared.call.Call.TheVariants as calls
use Rattle.ct_yard.specs.Machine.{Machine, state_of, IsCommitted, IsHaltedWith}
use Rattle.ct_isam.specs.declared.session.Seat.{Seat}
use Rattle.ct_isam.specs.Calls as isam
use Rattle.ct_isam.specs.Calls.{Replies, Answers, Creates, Adds, AddsTo, Writes, Shows, described, create_refusal, add_refusal}
use Rattle.ct_isam.specs.Replies.{Reply, halt_err, no_memory, silent}
use Rattle.ct_isam.specs.Searches.{Outcome, refused, finds, file_named, in_index, walk_by, walk_finder, search_by, sought_key}
use Rattle.ct_isam.specs.Seats.{seat_of, with_current}
use Rattle.ct_session.specs.Steps.{Visit, Step, Calls, Runs, Quits, Tells, Hears, AsksFor, is_quit}

-- a running machine takes one change, or halts in it
pub record TakesChange (old new : Machine) : Type 0 where
  pub change : Change
  pub allowed : allows (state_of old) change ≡ true
  pub ends : IsCommitted old change new ⊎ ((cause : HaltCause) × IsHaltedWith cause old change new)

abbrev pub Moves : Machine → Machine → Type 0
Moves old new = (new ≡ old) ⊎ TakesChange old new

shows_moves : (outcome : Outcome) (old new : Machine) (seats new_seats : List Seat) (reply : Reply) → Shows outcome old seats reply new new_seats → Moves old new
shows_moves (refused refusal) old new seats new_seats reply shows = inl shows.1
shows_moves (finds row seat) old new seats new_seats reply shows = inl shows.1

writes_moves : (change : Change) (n : ℕ) (old new : Machine) (seats then_seats new_seats : List Seat) (reply : Reply) → Writes change n old seats then_seats reply new new_seats → Moves old new
writes_moves change n old new seats then_seats new_seats reply writes = elim writes.1 [
  | inl done ↦ inr (record { change = change; allowed = writes.0; ends = inl done.committed })
  | inr halted ↦ inr (record { change = change; allowed = writes.0; ends = inr (halted.cause, halted.halted) })
]

refusal_moves : (refusal : Option Reply) (A : Type 0) (old new : Machine) (seats new_seats : List Seat) (reply : Reply) → (A → Moves old new)
    → MatchOption refusal A (λ r. isam.Tells r old seats reply new new_seats) → Moves old new
refusal_moves None A old new seats new_seats reply done answers = done answers
refusal_moves (Some r) A old new seats new_seats reply done answers = inl answers.1

creates_moves : (def : FileDef) (old new : Machine) (seats new_seats : List Seat) (reply : Reply) → Creates def old seats reply new new_seats → Moves old new
creates_moves def old new seats new_seats reply answers =
    refusal_moves (create_refusal (state_of old) def) (Writes (Make (length (state_of old)) def) (last_number new.history) old seats seats reply new new_seats) old new seats new_seats reply
    (writes_moves (Make (length (state_of old)) def) (last_number new.history) old new seats seats new_seats reply) answers

adds_to_moves : (f : ℕ) (image : List ℕ) (file : Option File) (old new : Machine) (seats new_seats : List Seat) (reply : Reply) → AddsTo f image file old seats reply new new_seats → Moves old new
adds_to_moves f image None old new seats new_seats reply answers = inl answers.1
adds_to_moves f image (Some file) old new seats new_seats reply answers =
    refusal_moves (add_refusal image file) ((num : ℕ) × Writes (Add f num image) num old seats (with_current f (record { num = num; image = image }) seats) reply new new_seats) old new seats new_seats reply
    (λ added. writes_moves (Add f added.0 image) added.0 old new seats (with_current f (record { num = added.0; image = image }) seats) new_seats reply added.1) answers

adds_moves : (f : Option ℕ) (image : List ℕ) (old new : Machine) (seats new_seats : List Seat) (reply : Reply) → Adds f image old seats reply new new_seats → Moves old new
adds_moves None image old new seats new_seats reply answers = inl answers.1
adds_moves (Some f) image old new seats new_seats reply answers = adds_to_moves f image (slice_get (state_of old) f) old new seats new_seats reply answers

answers_moves : (call : Call) (old new : Machine) (seats new_seats : List Seat) (reply : Reply) → Answers call old seats reply new new_seats → Moves old new
answers_moves (calls.Create file) old new seats new_seats reply answers = creates_moves (described file) old new seats new_seats reply answers
answers_moves (calls.Add file image) old new seats new_seats reply answers = adds_moves (file_named file (state_of old)) image old new seats new_seats reply answers
answers_moves (calls.Walk walk file index) old new seats new_seats reply answers =
    shows_moves (in_index (state_of old) file index (λ f found i def. walk_by (walk_finder walk def i (seat_of f seats)) def found.records (seat_of f seats))) old new seats new_seats reply answers
answers_moves (calls.Search search file index target) old new seats new_seats reply answers =
    shows_moves (in_index (state_of old) file index (λ f found i def. search_by search (sought_key search def target) def i found.records (seat_of f seats))) old new seats new_seats reply answers
answers_moves calls.Front old new seats new_seats reply answers = inl answers.1
answers_moves calls.Quit old new seats new_seats reply answers = inl answers.1
answers_moves calls.Begin old new seats new_seats reply answers = inl answers.1
answers_moves calls.Commit old new seats new_seats reply answers = inl answers.1
answers_moves calls.Abort old new seats new_seats reply answers = inl answers.1
answers_moves calls.Save old new seats new_seats reply answers = inl answers.1
answers_moves (calls.Restore savepoint) old new seats new_seats reply answers = inl answers.1
answers_moves (calls.Lock mode) old new seats new_seats reply answers = inl answers.1
answers_moves (calls.Rewrite file image) old new seats new_seats reply answers = inl answers.1
answers_moves (calls.Delete file) old new seats new_seats reply answers = inl answers.1
answers_moves calls.Checkpoint old new seats new_seats reply answers = inl answers.1
answers_moves (calls.Dump script) old new seats new_seats reply answers = inl answers.1

replies_moves : (call : Call) (old new : Machine) (seats new_seats : List Seat) (reply : Reply) → Replies call old seats reply new new_seats → Moves old new
replies_moves call old new seats new_seats reply (inl wanted) = inl wanted.1
replies_moves call old new seats new_seats reply (inr answers) = answers_moves call old new seats new_seats reply answers

-- a line that moves the machine finds it running
abbrev pub MovesRunning : Machine → Machine → Type 0
MovesRunning old new = (new ≡ old) ⊎ ((old.halt ≡ None) × TakesChange old new)

from_running : (old new : Machine) → old.halt ≡ None → Moves old new → MovesRunning old new
from_running old new running (inl same) = inl same
from_running old new running (inr takes) = inr (running, takes)

by_halt : (halt : Option HaltCause) (A : Type 0) (P : HaltCause → Type 0) (C : Type 0) → (halt ≡ None → A → C) → ((cause : HaltCause) → P cause → C) → MatchOption halt A P → C
by_halt None A P C run stop answers = run refl answers
by_halt (Some cause) A P C run stop answers = stop cause answers

by_bool : (b : Bool) (A B C : Type 0) → (A → C) → (B → C) → MatchBool b A B → C
by_bool true A B C one other answers = one answers
by_bool false A B C one other answers = other answers

calls_moves : (call : Call) (old new : Machine) (visit new_visit : Visit) (reply : Reply) → Calls call old visit reply new new_visit → MovesRunning old new
calls_moves call old new visit new_visit reply answers =
    by_bool (is_quit call) (Quits old visit reply new new_visit) (MatchOption old.halt (Runs call old visit reply new new_visit) (λ cause. Tells (halt_err cause) old visit reply new new_visit)) (MovesRunning old new)
    (λ quits. inl quits.1)
    (by_halt old.halt (Runs call old visit reply new new_visit) (λ cause. Tells (halt_err cause) old visit reply new new_visit) (MovesRunning old new)
    (λ running runs. from_running old new running (replies_moves call old new visit.seats new_visit.seats reply runs.0)) (λ cause tells. inl tells.1))
    answers

hears_moves : (line : Option (List ℕ)) (old new : Machine) (visit new_visit : Visit) (reply : Reply) → Hears line old visit reply new new_visit → MovesRunning old new
hears_moves line old new visit new_visit reply (inl bad) = inl bad.2.1
hears_moves line old new visit new_visit reply (inr asked) = calls_moves asked.0 old new visit new_visit reply asked.2

going_moves : (line : Option (List ℕ)) (old new : Machine) (visit new_visit : Visit) (told reply : Reply) → (Tells told old visit reply new new_visit ⊎ Hears line old visit reply new new_visit) → MovesRunning old new
going_moves line old new visit new_visit told reply (inl wanted) = inl wanted.1
going_moves line old new visit new_visit told reply (inr hears) = hears_moves line old new visit new_visit reply hears

pub step_moves : (old new : Machine) (visit new_visit : Visit) (line : Option (List ℕ)) (reply : Reply) → Step old visit line reply new new_visit → MovesRunning old new
step_moves old new visit new_visit line reply step =
    by_bool visit.ended (Tells silent old visit reply new new_visit) (Tells no_memory old visit reply new new_visit ⊎ Hears line old visit reply new new_visit) (MovesRunning old new)
    (λ tells. inl tells.1) (going_moves line old new visit new_visit no_memory reply) step

-- ---- the session's end

quit_is : (call : Call) → is_quit call ≡ true → call ≡ calls.Quit
quit_is calls.Quit is = refl
quit_is call is = absurd (cc)

-- a line that ends a session asks for QUIT
abbrev EndsByQuit : Option (List ℕ) → Visit → Visit → Type 0
EndsByQuit line visit new_visit = (new_visit.ended ≡ visit.ended) ⊎ AsksFor line calls.Quit

calls_end : (b : Bool) (line : Option (List ℕ)) (call : Call) (old new : Machine) (visit new_visit : Visit) (reply : Reply) → is_quit call ≡ b → AsksFor line call
    → MatchBool b (Quits old visit reply new new_visit) (MatchOption old.halt (Runs call old visit reply new new_visit) (λ cause. Tells (halt_err cause) old visit reply new new_visit)) → EndsByQuit line visit new_visit
calls_end true line call old new visit new_visit reply is asks answers = inr (subst (λ (c : Call). AsksFor line c) (quit_is call is) asks)
calls_end false line call old new visit new_visit reply is asks answers =
    by_halt old.halt (Runs call old visit reply new new_visit) (λ cause. Tells (halt_err cause) old visit reply new new_visit) (EndsByQuit line visit new_visit)
    (λ running runs. inl runs.1) (λ cause tells. inl (ap (λ (v : Visit). v.ended) tells.2)) answers

hears_end : (line : Option (List ℕ)) (old new : Machine) (visit new_visit : Visit) (reply : Reply) → Hears line old visit reply new new_visit → EndsByQuit line visit new_visit
hears_end line old new visit new_visit reply (inl bad) = inl (ap (λ (v : Visit). v.ended) bad.2.2)
hears_end line old new visit new_visit reply (inr asked) = calls_end (is_quit asked.0) line asked.0 old new visit new_visit reply refl asked.1 asked.2

going_end : (line : Option (List ℕ)) (old new : Machine) (visit new_visit : Visit) (told reply : Reply) → (Tells told old visit reply new new_visit ⊎ Hears line old visit reply new new_visit) → EndsByQuit line visit new_visit
going_end line old new visit new_visit told reply (inl wanted) = inl (ap (λ (v : Visit). v.ended) wanted.2)
going_end line old new visit new_visit told reply (inr hears) = hears_end line old new visit new_visit reply hears

pub step_ends : (old new : Machine) (visit new_visit : Visit) (line : Option (List ℕ)) (reply : Reply) → Step old visit line reply new new_visit → (new_visit.ended ≡ visit.ended) ⊎ AsksFor line calls.Quit
step_ends old new visit new_visit line reply step =
    by_bool visit.ended (Tells silent old visit reply new new_visit) (Tells no_memory old visit reply new new_visit ⊎ Hears line old visit reply new new_visit) (EndsByQuit line visit new_visit)
    (λ tells. inl (ap (λ (v : Visit). v.ended) tells.2)) (going_end line old new visit new_visit no_memory reply) step
