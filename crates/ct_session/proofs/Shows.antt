-- No call answers a record that is longer than a record may be.
use Rattle.std.proofs.Common.{◌≡◌, inl, inr, ℕ, List, length, Bool, true, false, not, cond, Option, Some, None, refl, sym, subst, MatchOption, slice_get}
use Rattle.std.specs.Prelude.{nat_lt}
use Rattle.ct_definitions.specs.declared.definition.FileDef.{FileDef}
use Rattle.ct_definitions.specs.declared.store.File.{File}
use Rattle.ct_definitions.specs.declared.store.TheConstants.{MOST_FILES}
use Rattle.ct_definitions.specs.declared.change.Change.{Change}
use Rattle.ct_definitions.specs.declared.change.Change.TheVariants.{Make, Add}
use Rattle.ct_definitions.specs.Changes.{has_name}
use Rattle.ct_definitions.specs.Validity.{is_valid}
use Rattle.ct_definitions.specs.Room.{has_fitting_len}
use Rattle.ct_definitions.specs.Histories.{last_number}
use Rattle.ct_model.specs.Fitting.{are_fitting}
use Rattle.ct_line.specs.declared.call.Call.{Call}
use Rattle.ct_line.specs.declared.call.Call.TheVariants as calls
use Rattle.ct_yard.specs.Machine.{Machine, state_of}
use Rattle.ct_isam.specs.declared.session.Seat.{Seat}
use Rattle.ct_isam.specs.Calls.{Replies, Answers, Creates, Adds, AddsTo, Writes, Tells, Shows, described, create_refusal, add_refusal, is_duplicate}
use Rattle.ct_isam.specs.Replies.{Reply, ok, number, unbuilt, no_file, exists, bad_def, bad_len, file_full, kdup_err, no_memory}
use Rattle.ct_isam.specs.Searches.{Outcome, refused, finds, file_named, in_index, walk_by, walk_finder, search_by, sought_key}
use Rattle.ct_isam.specs.Seats.{seat_of, with_current}
use Rattle.ct_session.specs.Replies.{IsShort}
use Rattle.ct_session.proofs.Shortness.{ComesShort, index_short, walk_short, search_short}

told_short : (told reply : Reply) → IsShort told → reply ≡ told → IsShort reply
told_short told reply short same = subst (λ (r : Reply). IsShort r) (sym same) short

shows_short : (outcome : Outcome) (old new : Machine) (seats new_seats : List Seat) (reply : Reply) → ComesShort outcome → Shows outcome old seats reply new new_seats → IsShort reply
shows_short (refused refusal) old new seats new_seats reply short shows = told_short refusal reply short shows.0
shows_short (finds row seat) old new seats new_seats reply short shows = subst (λ (r : Reply). IsShort r) (sym shows.0) short

writes_short : (change : Change) (n : ℕ) (old new : Machine) (seats then_seats new_seats : List Seat) (reply : Reply) → Writes change n old seats then_seats reply new new_seats → IsShort reply
writes_short change n old new seats then_seats new_seats reply writes = elim writes.1 [
  | inl done ↦ told_short (number n) reply tt done.reply_is
  | inr halted ↦ subst (λ (r : Reply). IsShort r) (sym halted.reply_is) tt
]

refusal_short : (refusal : Option Reply) (A : Type 0) (old new : Machine) (seats new_seats : List Seat) (reply : Reply) → ((r : Reply) → refusal ≡ Some r → IsShort r) → (A → IsShort reply)
    → MatchOption refusal A (λ r. Tells r old seats reply new new_seats) → IsShort reply
refusal_short None A old new seats new_seats reply shorts done answers = done answers
refusal_short (Some r) A old new seats new_seats reply shorts done answers = told_short r reply (shorts r refl) answers.0

-- why no file is made
create_refusals : (named valid room : Bool) (r : Reply) → cond named (Some exists) (cond (not valid) (Some bad_def) (cond room None (Some file_full))) ≡ Some r → IsShort r
create_refusals true valid room r is = told_short exists r tt (sym (cc))
create_refusals false false room r is = told_short bad_def r tt (sym (cc))
create_refusals false true true r is = absurd (cc)
create_refusals false true false r is = told_short file_full r tt (sym (cc))

creates_short : (def : FileDef) (old new : Machine) (seats new_seats : List Seat) (reply : Reply) → Creates def old seats reply new new_seats → IsShort reply
creates_short def old new seats new_seats reply answers =
    refusal_short (create_refusal (state_of old) def) (Writes (Make (length (state_of old)) def) (last_number new.history) old seats seats reply new new_seats) old new seats new_seats reply
    (create_refusals (has_name (state_of old) def.name) (is_valid def) (nat_lt (length (state_of old)) MOST_FILES))
    (writes_short (Make (length (state_of old)) def) (last_number new.history) old new seats seats new_seats reply) answers

-- why a file takes no record
add_refusals : (fits taken : Bool) (r : Reply) → cond (not fits) (Some bad_len) (cond taken (Some kdup_err) None) ≡ Some r → IsShort r
add_refusals false taken r is = told_short bad_len r tt (sym (cc))
add_refusals true true r is = told_short kdup_err r tt (sym (cc))
add_refusals true false r is = absurd (cc)

adds_to_short : (f : ℕ) (image : List ℕ) (file : Option File) (old new : Machine) (seats new_seats : List Seat) (reply : Reply) → AddsTo f image file old seats reply new new_seats → IsShort reply
adds_to_short f image None old new seats new_seats reply answers = told_short no_file reply tt answers.0
adds_to_short f image (Some file) old new seats new_seats reply answers =
    refusal_short (add_refusal image file) ((num : ℕ) × Writes (Add f num image) num old seats (with_current f (record { num = num; image = image }) seats) reply new new_seats) old new seats new_seats reply
    (add_refusals (has_fitting_len file.def.kind (length image)) (is_duplicate image file))
    (λ added. writes_short (Add f added.0 image) added.0 old new seats (with_current f (record { num = added.0; image = image }) seats) new_seats reply added.1) answers

adds_short : (f : Option ℕ) (image : List ℕ) (old new : Machine) (seats new_seats : List Seat) (reply : Reply) → Adds f image old seats reply new new_seats → IsShort reply
adds_short None image old new seats new_seats reply answers = told_short no_file reply tt answers.0
adds_short (Some f) image old new seats new_seats reply answers = adds_to_short f image (slice_get (state_of old) f) old new seats new_seats reply answers

answers_short : (call : Call) (old new : Machine) (seats new_seats : List Seat) (reply : Reply) → are_fitting (state_of old) ≡ true → Answers call old seats reply new new_seats → IsShort reply
answers_short (calls.Create file) old new seats new_seats reply fitting answers = creates_short (described file) old new seats new_seats reply answers
answers_short (calls.Add file image) old new seats new_seats reply fitting answers = adds_short (file_named file (state_of old)) image old new seats new_seats reply answers
answers_short (calls.Walk walk file index) old new seats new_seats reply fitting answers =
    shows_short (in_index (state_of old) file index (λ f found i def. walk_by (walk_finder walk def i (seat_of f seats)) def found.records (seat_of f seats))) old new seats new_seats reply
    (index_short (state_of old) file index (λ f found i def. walk_by (walk_finder walk def i (seat_of f seats)) def found.records (seat_of f seats)) fitting
    (λ f found i def fits. walk_short (walk_finder walk def i (seat_of f seats)) def found (seat_of f seats) fits)) answers
answers_short (calls.Search search file index target) old new seats new_seats reply fitting answers =
    shows_short (in_index (state_of old) file index (λ f found i def. search_by search (sought_key search def target) def i found.records (seat_of f seats))) old new seats new_seats reply
    (index_short (state_of old) file index (λ f found i def. search_by search (sought_key search def target) def i found.records (seat_of f seats)) fitting
    (λ f found i def fits. search_short search (sought_key search def target) def i found (seat_of f seats) fits)) answers
answers_short calls.Front old new seats new_seats reply fitting answers = told_short (number (last_number old.history)) reply tt answers.0
answers_short calls.Quit old new seats new_seats reply fitting answers = told_short ok reply tt answers.0
answers_short calls.Begin old new seats new_seats reply fitting answers = told_short unbuilt reply tt answers.0
answers_short calls.Commit old new seats new_seats reply fitting answers = told_short unbuilt reply tt answers.0
answers_short calls.Abort old new seats new_seats reply fitting answers = told_short unbuilt reply tt answers.0
answers_short calls.Save old new seats new_seats reply fitting answers = told_short unbuilt reply tt answers.0
answers_short (calls.Restore savepoint) old new seats new_seats reply fitting answers = told_short unbuilt reply tt answers.0
answers_short (calls.Lock mode) old new seats new_seats reply fitting answers = told_short unbuilt reply tt answers.0
answers_short (calls.Rewrite file image) old new seats new_seats reply fitting answers = told_short unbuilt reply tt answers.0
answers_short (calls.Delete file) old new seats new_seats reply fitting answers = told_short unbuilt reply tt answers.0
answers_short calls.Checkpoint old new seats new_seats reply fitting answers = told_short unbuilt reply tt answers.0
answers_short (calls.Dump script) old new seats new_seats reply fitting answers = told_short unbuilt reply tt answers.0

-- the reply to any call
pub replies_short : (call : Call) (old new : Machine) (seats new_seats : List Seat) (reply : Reply) → are_fitting (state_of old) ≡ true → Replies call old seats reply new new_seats → IsShort reply
replies_short call old new seats new_seats reply fitting (inl wanted) = told_short no_memory reply tt wanted.0
replies_short call old new seats new_seats reply fitting (inr answers) = answers_short call old new seats new_seats reply fitting answers
