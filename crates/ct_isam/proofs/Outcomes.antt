-- What refusals and finds mean for the outcome of a search.
use Rattle.std.proofs.Common.{◌≡◌, ℕ, ◌+◌, ◌-◌, ◌≤◌, List, [], ◌∷◌, length, Bool, true, false, ◌||◌, Option, Some, None, Result, Ok, Err, refl, sym, ap, ◌∙◌, subst, inl, inr, eqb, ltb, leb, arith}
use Rattle.std.specs.List.{list_all}
use Rattle.std.proofs.lemmas.Bool.{leb-true, eq-eqb, ne_eqb, le-ltb, and_parts}
use Rattle.std.proofs.lemmas.Bool.Decides.{nat_tests}
use Rattle.std.proofs.lemmas.List.Sums.{sum_by-cons}
use Rattle.std.proofs.lemmas.Option.{get_or_from_slice_get, slice_get_within}
use Rattle.ct_definitions.specs.declared.definition.IndexDef.{IndexDef}
use Rattle.ct_definitions.specs.declared.definition.Mode.{Mode}
use Rattle.ct_definitions.specs.declared.definition.Mode.TheVariants.{Reg, Ureg, Int, Sgn}
use Rattle.ct_definitions.specs.declared.definition.Seg.{Seg}
use Rattle.ct_definitions.specs.declared.definition.TheConstants.{LONGEST_KEY}
use Rattle.ct_definitions.specs.declared.store.Row.{Row}
use Rattle.ct_definitions.specs.Pairs.{Pair, pairs_of}
use Rattle.ct_definitions.specs.Room.{has_fitting_len}
use Rattle.ct_definitions.specs.Validity.{key_len, is_valid_index, is_valid_seg, least_len, takes_len}
use Rattle.ct_key.specs.Target.{is_refused, ends_in_number, target_from, target_bytes}
use Rattle.ct_line.specs.declared.call.Search.{Search}
use Rattle.ct_line.specs.declared.call.Search.TheVariants as searches
use Rattle.ct_model.specs.Fitting.{reads_keys}
use Rattle.ct_model.proofs.KeysRead.{list_all-get_or, reads_keys-at}
use Rattle.ct_isam.specs.declared.places.Place.{Place}
use Rattle.ct_isam.specs.declared.session.KeySet.{KeySet}
use Rattle.ct_isam.specs.declared.session.Seat.{Seat}
use Rattle.ct_isam.specs.declared.reply.Reply.{Reply as Told}
use Rattle.ct_isam.specs.declared.reply.Reply.TheVariants as told
use Rattle.ct_isam.specs.Replies.{Reply}
use Rattle.ct_isam.specs.Seats.{seat_of, with_seat}
use Rattle.ct_isam.specs.Searches.{Finder, Outcome, refused, finds, row_of, walk_by, search_by, outcome_of, key_finder, seat_for, whole_key, next_in_set, next_of_set}
use Rattle.ct_isam.specs.Places.{IsIndex, IsRefusal}
use Rattle.ct_isam.specs.Looking.{IsFoundBy, number_of, row_numbered, seat_with, set_of, IsShown, Looks}
use Rattle.ct_isam.specs.Told.{reply_of, found_current}
use Rattle.ct_isam.proofs.Seats.{seat_of-file, seat_of-with_seat, with_file}

by_number : (pair : Option Pair) (rows : List Row) → row_of pair rows ≡ row_numbered (number_of pair) rows
by_number None rows = refl
by_number (Some pair) rows = refl

-- a refusal shown
pub refusal_looks : (outcome : Outcome) (reply : Told) (seats : List Seat) → IsRefusal outcome reply → Looks outcome seats (reply_of seats reply) seats
refusal_looks outcome reply seats (inl memory) = inl (ap (reply_of seats) memory, refl)
refusal_looks outcome reply seats (inr e) = inr (subst (λ (o : Outcome). IsShown o seats (reply_of seats reply) seats) (sym (e seats)) (refl, refl))

-- another name for the outcome
pub looks_alike : (outcome other : Outcome) (seats : List Seat) (reply : Reply) (new_seats : List Seat) → outcome ≡ other → Looks other seats reply new_seats → Looks outcome seats reply new_seats
looks_alike outcome other seats reply new_seats same looks = subst (λ (o : Outcome). Looks o seats reply new_seats) (sym same) looks

-- a record found and kept
pub found_looks : (file : ℕ) (set : Option KeySet) (num : Option ℕ) (rows : List Row) (row : Row) (seats new_seats : List Seat) → row_numbered num rows ≡ Some row
    → new_seats ≡ with_seat (record (seat_with set (seat_of file seats)) { current = Some row }) seats
    → Looks (outcome_of (row_numbered num rows) (seat_with set (seat_of file seats))) seats (reply_of new_seats (told.Found file)) new_seats
found_looks file set num rows row seats new_seats there kept =
    let new : Seat = record (seat_with set (seat_of file seats)) { current = Some row } in
    let own : new.file ≡ file = with_file set (seat_of file seats) (Some row) ∙ seat_of-file file seats in
    let same : seat_of file new_seats ≡ new = ap (seat_of file) kept ∙ seat_of-with_seat file new seats own in
    looks_alike (outcome_of (row_numbered num rows) (seat_with set (seat_of file seats))) (finds row new) seats (reply_of new_seats (told.Found file)) new_seats
    (ap (λ (r : Option Row). outcome_of r (seat_with set (seat_of file seats))) there)
    (inr (ap (λ (s : Seat). found_current s.current) same, kept))

-- the next pair of a set, where the session has one of the index and a record
pub set_found : (place : ℕ) (kept : Option KeySet) (set : KeySet) (current : Option Pair) (pair : Pair) (index : IndexDef) (rows : List Row) (result : Result (Option ℕ) Told) → kept ≡ Some set → set.index ≡ place → current ≡ Some pair
    → IsFoundBy (Some (next_in_set set.front pair)) index rows result → IsFoundBy (next_of_set place kept current) index rows result
set_found place kept set current pair index rows result is_kept same is_current h =
    let both : next_of_set place kept current ≡ next_of_set place (Some set) (Some pair) = ap (λ (k : Option KeySet). next_of_set place k current) is_kept ∙ ap (λ (p : Option Pair). next_of_set place (Some set) p) is_current in
    let found_so : next_of_set place (Some set) (Some pair) ≡ Some (next_in_set set.front pair) = rw (eq-eqb set.index place same) refl in
    subst (λ (f : Option Finder). IsFoundBy f index rows result) (sym (both ∙ found_so)) h

-- ---- keys

-- an index of a file is valid
pub valid_index : (place : Place) → IsIndex place → is_valid_index (least_len place.found.now.def.kind) place.def.now ≡ true
valid_index place held =
    let indexes = place.found.now.def.indexes in
    let all : list_all (is_valid_index (least_len place.found.now.def.kind)) indexes ≡ true = let fitting = held.fitting in grind arith in
    subst (λ (index : IndexDef). is_valid_index (least_len place.found.now.def.kind) index ≡ true) (get_or_from_slice_get indexes place.index place.def.now place.def.now held.def)
    (list_all-get_or (is_valid_index (least_len place.found.now.def.kind)) indexes place.index place.def.now all (slice_get_within indexes place.index place.def.now held.def))

-- its keys are not too long
pub short_keys : (place : Place) → IsIndex place → key_len place.def.now.segs ≤ LONGEST_KEY
short_keys place held = let valid = valid_index place held in leb-true _ _ (and_parts _ _ valid).1

-- and it has a key in each image of a length that the file allows
pub reads : (place : Place) (len : ℕ) → IsIndex place → has_fitting_len place.found.now.def.kind len ≡ true → list_all (is_valid_seg len) place.def.now.segs ≡ true
reads place len held fits =
    let indexes = place.found.now.def.indexes in
    let both : reads_keys place.def.now len ≡ true = subst (λ (index : IndexDef). reads_keys index len ≡ true) (get_or_from_slice_get indexes place.index place.def.now place.def.now held.def)
    (reads_keys-at place.found.now place.index place.def.now len held.fitting (slice_get_within indexes place.index place.def.now held.def) fits) in
    (and_parts _ _ both).0

-- ---- whole targets

some_len : (mode : Mode) (len : ℕ) → takes_len mode len ≡ true → 1 ≤ len
some_len Reg len takes = grind (arith, nat_tests)
some_len Ureg len takes = grind (arith, nat_tests)
some_len Int len takes = grind (arith, nat_tests)
some_len Sgn len takes = grind (arith, nat_tests)

some_key : (least : ℕ) (segs : List Seg) → leb 1 (length segs) ≡ true → list_all (is_valid_seg least) segs ≡ true → 1 ≤ key_len segs
some_key least [] some all = absurd (cc)
some_key least (seg ∷ segs) some all =
    let one : 1 ≤ seg.len = some_len seg.mode seg.len (and_parts _ _ (and_parts _ _ all).0).0 in
    let whole : key_len (seg ∷ segs) ≡ seg.len + key_len segs = sum_by-cons (λ (s : Seg). s.len) seg segs in
    omega arith

ends_behind : (seg : Seg) (segs : List Seg) (len : ℕ) → seg.len ≤ len → ends_in_number (seg ∷ segs) len ≡ ends_in_number segs (len - seg.len)
ends_behind seg segs len past = rw (le-ltb len seg.len past) refl

ends_whole : (segs : List Seg) → ends_in_number segs (key_len segs) ≡ false
ends_whole [] = refl
ends_whole (seg ∷ segs) =
    let whole : key_len (seg ∷ segs) ≡ seg.len + key_len segs = sum_by-cons (λ (s : Seg). s.len) seg segs in
    let rest : key_len (seg ∷ segs) - seg.len ≡ key_len segs = omega arith in
    ends_behind seg segs (key_len (seg ∷ segs)) (omega arith) ∙ ap (ends_in_number segs) rest ∙ ends_whole segs

not_refused : (len whole : ℕ) (ends : Bool) → 1 ≤ len → len ≤ whole → ends ≡ false → (eqb len 0 || ltb whole len || ends) ≡ false
not_refused len whole ends some short e = rw (ne_eqb len 0 (λ none. omega arith), le-ltb whole len short, e) refl

-- a target of the length of keys may always be sought
pub whole_target : (place : Place) (target : List ℕ) → IsIndex place → length target ≡ key_len place.def.now.segs → target_from place.def.now.segs target ≡ Some (target_bytes place.def.now.segs target)
whole_target place target held same =
    let segs = place.def.now.segs in
    let valid = valid_index place held in
    let parts = and_parts _ _ (and_parts _ _ valid).0 in
    let some : 1 ≤ key_len segs = some_key (least_len place.found.now.def.kind) segs (and_parts _ _ (and_parts _ _ parts.0).1).0 parts.1 in
    let free : is_refused segs target ≡ false = not_refused (length target) (key_len segs) (ends_in_number segs (length target)) (omega arith) (omega arith) (ap (ends_in_number segs) same ∙ ends_whole segs) in
    rw free refl

pub whole_key-same : (place : Place) (target : List ℕ) → IsIndex place → length target ≡ key_len place.def.now.segs → whole_key place.def.now target ≡ target_from place.def.now.segs target
whole_key-same place target held same = rw (eq-eqb _ _ same) (sym (whole_target place target held same))
