-- What a reply means for the machine that a yard stands for.
use Rattle.std.proofs.Common.{◌≡◌, ℕ, List, length, Bool, IsTrue, true, Option, Some, None, Result, Ok, Err, refl, sym, ap, ◌∙◌, subst, inl, inr, slice_get, MatchOption}
use Rattle.ct_definitions.specs.declared.definition.FileDef.{FileDef}
use Rattle.ct_definitions.specs.declared.store.File.{File}
use Rattle.ct_definitions.specs.declared.change.Change.{Change}
use Rattle.ct_definitions.specs.declared.change.Change.TheVariants.{Make, Add}
use Rattle.ct_definitions.specs.Changes.{State, allows}
use Rattle.ct_definitions.specs.Histories.{last_number}
use Rattle.ct_line.specs.declared.call.Call.TheVariants as calls
use Rattle.ct_line.specs.declared.call.NewFile.{NewFile}
use Rattle.ct_line.specs.declared.call.Walk.{Walk}
use Rattle.ct_line.specs.declared.call.Search.{Search}
use Rattle.ct_yard.specs.Telling.{Telling}
use Rattle.ct_yard.specs.declared.yard.Yard.{Yard}
use Rattle.ct_yard.specs.declared.yard.CommitFault.{CommitFault}
use Rattle.ct_yard.specs.declared.yard.CommitFault.TheVariants.{Memory as NoRoom, Halted}
use Rattle.ct_yard.specs.Machine.{Machine, Commits, state_of}
use Rattle.ct_yard.specs.Yards.{StandsFor, KeptThrough}
use Rattle.ct_isam.specs.declared.session.Seat.{Seat}
use Rattle.ct_isam.specs.declared.reply.Reply.{Reply as Told}
use Rattle.ct_isam.specs.Replies.{Reply, number, halt_err}
use Rattle.ct_isam.specs.Seats.{with_current}
use Rattle.ct_isam.specs.Searches.{Outcome, refused, finds, file_named, in_index, walk_at, search_at}
use Rattle.ct_isam.specs.Looking.{IsShown, Looks}
use Rattle.ct_isam.specs.Calls.{described, create_refusal, add_refusal, Tells, Writes, Shows, Adds, AddsTo, Creates, Replies}
use Rattle.ct_isam.specs.Places.{IsRefusedBy, IsUnnamed}
use Rattle.ct_isam.specs.Serving.{ServesBy, Serves, AddsAs}
use Rattle.ct_isam.specs.Told.{reply_of}
use Rattle.ct_isam.specs.Making.{told_of}
use Rattle.ct_isam.proofs.Described.{allows_make}

at_none : (reason : Option Reply) (A : Type 0) (B : Reply → Type 0) → reason ≡ None → A → MatchOption reason A B
at_none None A B none a = a
at_none (Some refusal) A B none a = absurd (cc)

at_some : (reason : Option Reply) (refusal : Reply) (A : Type 0) (B : Reply → Type 0) → reason ≡ Some refusal → B refusal → MatchOption reason A B
at_some None refusal A B some b = absurd (cc)
at_some (Some other) refusal A B some b = let same : other ≡ refusal = cc in subst B (sym same) b

-- ---- searches

shown : (outcome : Outcome) (machine : Machine) (seats : List Seat) (reply : Reply) (new_seats : List Seat) → IsShown outcome seats reply new_seats → Shows outcome machine seats reply machine new_seats
shown (refused refusal) machine seats reply new_seats h = (h.0, refl, h.1)
shown (finds row seat) machine seats reply new_seats h = (h.0, refl, h.1)

pub walk_replies : (walk : Walk) (name index : List ℕ) (state : State) (machine : Machine) (seats : List Seat) (reply : Reply) (new_seats : List Seat) → state_of machine ≡ state
    → Looks (in_index state name index (walk_at walk seats)) seats reply new_seats → Replies (calls.Walk walk name index) machine seats reply machine new_seats
walk_replies walk name index state machine seats reply new_seats same (inl memory) = inl (memory.0, refl, memory.1)
walk_replies walk name index state machine seats reply new_seats same (inr h) =
    inr (subst (λ (s : State). Shows (in_index s name index (walk_at walk seats)) machine seats reply machine new_seats) (sym same)
    (shown (in_index state name index (walk_at walk seats)) machine seats reply new_seats h))

pub search_replies : (kind : Search) (name index target : List ℕ) (state : State) (machine : Machine) (seats : List Seat) (reply : Reply) (new_seats : List Seat) → state_of machine ≡ state
    → Looks (in_index state name index (search_at kind target seats)) seats reply new_seats → Replies (calls.Search kind name index target) machine seats reply machine new_seats
search_replies kind name index target state machine seats reply new_seats same (inl memory) = inl (memory.0, refl, memory.1)
search_replies kind name index target state machine seats reply new_seats same (inr h) =
    inr (subst (λ (s : State). Shows (in_index s name index (search_at kind target seats)) machine seats reply machine new_seats) (sym same)
    (shown (in_index state name index (search_at kind target seats)) machine seats reply new_seats h))

-- ---- a record added

-- a commit that adds it, with what the session then has
pub adds : (f num : ℕ) (image : List ℕ) (machine next : Machine) (seats new_seats : List Seat) (n : ℕ) → allows (state_of machine) (Add f num image) ≡ true
    → Commits machine (Add f num image) (Ok n) next → new_seats ≡ with_current f (record { num = num; image = image }) seats
    → AddsAs f num image machine seats (number num) next new_seats
adds f num image machine next seats new_seats n allowed commits kept = inr (allowed, inl (record { reply_is = refl; committed = commits.1; session = kept }))

pub adds_not : (f num : ℕ) (image : List ℕ) (machine next : Machine) (seats new_seats : List Seat) (fault : CommitFault) → allows (state_of machine) (Add f num image) ≡ true
    → Commits machine (Add f num image) (Err fault) next → new_seats ≡ seats
    → AddsAs f num image machine seats (reply_of new_seats (told_of fault)) next new_seats
adds_not f num image machine next seats new_seats NoRoom allowed commits kept = inl (refl, commits, kept)
adds_not f num image machine next seats new_seats (Halted cause) allowed commits kept = inr (allowed, inr (record { cause = cause; reply_is = refl; halted = commits; session = kept }))

add_replies : (name image : List ℕ) (f num : ℕ) (found : File) (machine next : Machine) (seats : List Seat) (reply : Reply) (new_seats : List Seat)
    → file_named name (state_of machine) ≡ Some f → slice_get (state_of machine) f ≡ Some found → add_refusal image found ≡ None
    → AddsAs f num image machine seats reply next new_seats → Replies (calls.Add name image) machine seats reply next new_seats
add_replies name image f num found machine next seats reply new_seats named at fine (inl memory) = inl memory
add_replies name image f num found machine next seats reply new_seats named at fine (inr writes) =
    inr (subst (λ (o : Option ℕ). Adds o image machine seats reply next new_seats) (sym named)
    (subst (λ (o : Option File). AddsTo f image o machine seats reply next new_seats) (sym at)
    (at_none (add_refusal image found) ((n : ℕ) × Writes (Add f n image) n machine seats (with_current f (record { num = n; image = image }) seats) reply next new_seats)
    (λ refusal. Tells refusal machine seats reply next new_seats) fine (num, writes))))

add_refused : (name image : List ℕ) (f : ℕ) (found : File) (machine : Machine) (seats : List Seat) (reply : Told)
    → file_named name (state_of machine) ≡ Some f → slice_get (state_of machine) f ≡ Some found → IsRefusedBy (add_refusal image found) reply
    → Replies (calls.Add name image) machine seats (reply_of seats reply) machine seats
add_refused name image f found machine seats reply named at (inl memory) = inl (ap (reply_of seats) memory, refl, refl)
add_refused name image f found machine seats reply named at (inr reason) =
    inr (subst (λ (o : Option ℕ). Adds o image machine seats (reply_of seats reply) machine seats) (sym named)
    (subst (λ (o : Option File). AddsTo f image o machine seats (reply_of seats reply) machine seats) (sym at)
    (at_some (add_refusal image found) (reply_of seats reply) ((n : ℕ) × Writes (Add f n image) n machine seats (with_current f (record { num = n; image = image }) seats) (reply_of seats reply) machine seats)
    (λ refusal. Tells refusal machine seats (reply_of seats reply) machine seats) (reason seats) (refl, refl, refl))))

-- ---- a file made

create_replies : (file : NewFile) (def : FileDef) (machine next : Machine) (seats : List Seat) (reply : Reply) → described file ≡ def → create_refusal (state_of machine) def ≡ None
    → Writes (Make (length (state_of machine)) def) (last_number next.history) machine seats seats reply next seats → Replies (calls.Create file) machine seats reply next seats
create_replies file def machine next seats reply same fine writes =
    inr (subst (λ (d : FileDef). Creates d machine seats reply next seats) (sym same)
    (at_none (create_refusal (state_of machine) def) (Writes (Make (length (state_of machine)) def) (last_number next.history) machine seats seats reply next seats)
    (λ refusal. Tells refusal machine seats reply next seats) fine writes))

pub made : (file : NewFile) (def : FileDef) (machine next : Machine) (seats : List Seat) (n : ℕ) → described file ≡ def → create_refusal (state_of machine) def ≡ None
    → Commits machine (Make (length (state_of machine)) def) (Ok n) next → Replies (calls.Create file) machine seats (number n) next seats
made file def machine next seats n same fine commits =
    create_replies file def machine next seats (number n) same fine
    (allows_make (state_of machine) def fine, inl (record { reply_is = ap number commits.0; committed = commits.1; session = refl }))

pub made_not : (file : NewFile) (def : FileDef) (machine next : Machine) (seats : List Seat) (fault : CommitFault) → described file ≡ def → create_refusal (state_of machine) def ≡ None
    → Commits machine (Make (length (state_of machine)) def) (Err fault) next → Replies (calls.Create file) machine seats (reply_of seats (told_of fault)) next seats
made_not file def machine next seats NoRoom same fine commits = inl (refl, commits, refl)
made_not file def machine next seats (Halted cause) same fine commits =
    create_replies file def machine next seats (halt_err cause) same fine
    (allows_make (state_of machine) def fine, inr (record { cause = cause; reply_is = refl; halted = commits; session = refl }))

-- ---- the yards that stand for the machines

module _ {P L : Type 0} (disk : Telling L) where
  -- a call that leaves the store as it was
  pub still_serves : (acts : Machine → List Seat → Reply → Machine → List Seat → Type 0) (yard : Yard P L) (seats : List Seat) (reply : Reply) (new_seats : List Seat)
      → ((machine : Machine) → state_of machine ≡ yard.state → last_number machine.history ≡ yard.front → acts machine seats reply machine new_seats)
      → ServesBy disk acts yard seats reply yard new_seats
  still_serves acts yard seats reply new_seats answers founded front machine told stands running =
      (machine, answers machine (sym (stands.state running)) (sym stands.number), stands, record { idle = λ _. refl; moments = inl refl })

  -- a call that commits a change
  pub commit_serves : (acts : Machine → List Seat → Reply → Machine → List Seat → Type 0) (change : Change) (outcome : Result ℕ CommitFault) (old new : Yard P L) (seats : List Seat) (reply : Reply) (new_seats : List Seat)
      → ((machine next : Machine) → state_of machine ≡ old.state → Commits machine change outcome next → acts machine seats reply next new_seats)
      → ((founded : Bool) (front : List ℕ) (machine : Machine) → (IsTrue founded → IsTrue disk.tells) → StandsFor founded disk front machine old → (next : Machine) × Commits machine change outcome next × StandsFor founded disk front next new × KeptThrough founded disk front machine old.log.device next new.log.device)
      → ServesBy disk acts old seats reply new new_seats
  commit_serves acts change outcome old new seats reply new_seats answers commits founded front machine told stands running =
      let done = commits founded front machine told stands in
      (done.0, answers machine done.0 (sym (stands.state running)) done.1, done.2, done.3)

  -- one that acts as another does
  pub serves_as : (acts others : Machine → List Seat → Reply → Machine → List Seat → Type 0) (old new : Yard P L) (seats : List Seat) (reply : Reply) (new_seats : List Seat)
      → ((machine next : Machine) → state_of machine ≡ old.state → acts machine seats reply next new_seats → others machine seats reply next new_seats)
      → ServesBy disk acts old seats reply new new_seats → ServesBy disk others old seats reply new new_seats
  serves_as acts others old new seats reply new_seats more serves founded front machine told stands running =
      let done = serves founded front machine told stands running in
      (done.0, more machine done.0 (sym (stands.state running)) done.1, done.2, done.3)

  pub refused_serves : (yard : Yard P L) (name image : List ℕ) (f : ℕ) (found : File) (seats : List Seat) (reply : Told)
      → file_named name yard.state ≡ Some f → slice_get yard.state f ≡ Some found → IsRefusedBy (add_refusal image found) reply
      → Serves disk (calls.Add name image) yard seats (reply_of seats reply) yard seats
  refused_serves yard name image f found seats reply named at why =
      still_serves (Replies (calls.Add name image)) yard seats (reply_of seats reply) seats
      (λ machine same front. add_refused name image f found machine seats reply (ap (file_named name) same ∙ named) (ap (λ (s : State). slice_get s f) same ∙ at) why)

  pub added_serves : (old new : Yard P L) (name image : List ℕ) (f num : ℕ) (found : File) (seats : List Seat) (reply : Reply) (new_seats : List Seat)
      → file_named name old.state ≡ Some f → slice_get old.state f ≡ Some found → add_refusal image found ≡ None
      → ServesBy disk (AddsAs f num image) old seats reply new new_seats
      → Serves disk (calls.Add name image) old seats reply new new_seats
  added_serves old new name image f num found seats reply new_seats named at fine serves =
      serves_as (AddsAs f num image) (Replies (calls.Add name image)) old new seats reply new_seats
      (λ machine next same acts. add_replies name image f num found machine next seats reply new_seats (ap (file_named name) same ∙ named) (ap (λ (s : State). slice_get s f) same ∙ at) fine acts) serves

  pub walk_serves : (yard : Yard P L) (walk : Walk) (name index : List ℕ) (seats : List Seat) (reply : Reply) (new_seats : List Seat) → Looks (in_index yard.state name index (walk_at walk seats)) seats reply new_seats
      → Serves disk (calls.Walk walk name index) yard seats reply yard new_seats
  walk_serves yard walk name index seats reply new_seats looks =
      still_serves (Replies (calls.Walk walk name index)) yard seats reply new_seats (λ machine same front. walk_replies walk name index yard.state machine seats reply new_seats same looks)

  pub search_serves : (yard : Yard P L) (kind : Search) (name index target : List ℕ) (seats : List Seat) (reply : Reply) (new_seats : List Seat) → Looks (in_index yard.state name index (search_at kind target seats)) seats reply new_seats
      → Serves disk (calls.Search kind name index target) yard seats reply yard new_seats
  search_serves yard kind name index target seats reply new_seats looks =
      still_serves (Replies (calls.Search kind name index target)) yard seats reply new_seats (λ machine same front. search_replies kind name index target yard.state machine seats reply new_seats same looks)
