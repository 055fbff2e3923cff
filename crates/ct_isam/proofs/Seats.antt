-- How the seats of a session are found, changed and put back.
use Rattle.std.proofs.Common.{◌≡◌, ℕ, zero, suc, ◌<◌, ◌≤◌, List, [], ◌∷◌, ◌++◌, length, set, get_or, Bool, true, false, cond, Option, Some, None, refl, sym, ap, ◌∙◌, eqb, find, arith}
use Rattle.std.specs.List.{position, position_or_len}
use Rattle.std.proofs.lemmas.Bool.{eqb-true, eq-eqb, ltb-false}
use Rattle.std.proofs.lemmas.List.Quantifiers.{position-Some}
use Rattle.std.proofs.lemmas.List.Sums.{fails_before_first}
use Rattle.ct_definitions.specs.declared.store.Row.{Row}
use Rattle.ct_isam.specs.declared.session.KeySet.{KeySet}
use Rattle.ct_isam.specs.declared.session.Seat.{Seat}
use Rattle.ct_isam.specs.Seats.{unused_seat, seat_of, with_seat, with_current}
use Rattle.ct_isam.specs.Looking.{seat_with}
use Rattle.ct_isam.specs.Undoing.{with_old}

-- whether a seat is a file's
abbrev pub is_of : ℕ → Seat → Bool
is_of file seat = eqb seat.file file

found_by : (b : Bool) (seat wanted rest : Seat) (found : Option Seat) → cond b (Some seat) found ≡ Some wanted → (found ≡ Some wanted → rest ≡ wanted) → cond b seat rest ≡ wanted
found_by true seat wanted rest found e more = cc
found_by false seat wanted rest found e more = more e

-- the seat that is found by its file is that file's
pub found_seat : (file : ℕ) (seats : List Seat) (seat : Seat) → find (is_of file) seats ≡ Some seat → seat_of file seats ≡ seat
found_seat file [] seat e = absurd (cc)
found_seat file (s ∷ seats) seat e = found_by (is_of file s) s seat (seat_of file seats) (find (is_of file) seats) e (found_seat file seats seat)

lost_by : (b : Bool) (seat wanted rest : Seat) (found : Option Seat) → cond b (Some seat) found ≡ None → (found ≡ None → rest ≡ wanted) → cond b seat rest ≡ wanted
lost_by true seat wanted rest found e more = absurd (cc)
lost_by false seat wanted rest found e more = more e

-- where none is found the file has not been used
pub no_seat : (file : ℕ) (seats : List Seat) → find (is_of file) seats ≡ None → seat_of file seats ≡ unused_seat file
no_seat file [] e = refl
no_seat file (s ∷ seats) e = lost_by (is_of file s) s (unused_seat file) (seat_of file seats) (find (is_of file) seats) e (no_seat file seats)

file_by : (file : ℕ) (seat rest : Seat) (b : Bool) → is_of file seat ≡ b → rest.file ≡ file → (cond b seat rest).file ≡ file
file_by file seat rest true e h = eqb-true _ _ e
file_by file seat rest false e h = h

-- a file's seat is of that file
pub seat_of-file : (file : ℕ) (seats : List Seat) → (seat_of file seats).file ≡ file
seat_of-file file [] = refl
seat_of-file file (s ∷ seats) = file_by file s (seat_of file seats) (is_of file s) refl (seat_of-file file seats)

own : (file : ℕ) (new : Seat) (seats : List Seat) → new.file ≡ file → seat_of file (new ∷ seats) ≡ new
own file new seats same = rw (eq-eqb new.file file same) refl

other : (file : ℕ) (seat : Seat) (seats : List Seat) → is_of file seat ≡ false → seat_of file (seat ∷ seats) ≡ seat_of file seats
other file seat seats e = rw e refl

again_by : (file : ℕ) (new seat : Seat) (seats more : List Seat) (b : Bool) → is_of file seat ≡ b → new.file ≡ file → seat_of file more ≡ new → seat_of file (cond b (new ∷ seats) (seat ∷ more)) ≡ new
again_by file new seat seats more true e same h = own file new seats same
again_by file new seat seats more false e same h = other file seat more e ∙ h

-- the seat that was put is the file's
pub seat_of-with_seat : (file : ℕ) (new : Seat) (seats : List Seat) → new.file ≡ file → seat_of file (with_seat new seats) ≡ new
seat_of-with_seat file new [] same = own file new [] same
seat_of-with_seat file new (s ∷ seats) same =
    again_by file new s seats (with_seat new seats) (is_of new.file s) (ap (λ (f : ℕ). eqb s.file f) (sym same)) same (seat_of-with_seat file new seats same)

-- the seat at a file's first place is its own
pub seat_at : (file : ℕ) (seats : List Seat) (i : ℕ) (d : Seat) → i < length seats → is_of file (get_or seats i d) ≡ true → ((k : ℕ) → k < i → is_of file (get_or seats k d) ≡ false) → seat_of file seats ≡ get_or seats i d
seat_at file [] i d within here before = absurd (omega arith)
seat_at file (s ∷ seats) zero d within here before = rw here refl
seat_at file (s ∷ seats) (suc i) d within here before =
    let first : is_of file s ≡ false = before zero (omega arith) in
    rw first (seat_at file seats i d (omega arith) here (λ k below. before (suc k) (omega arith)))

-- another seat is put there
pub put_at : (new : Seat) (seats : List Seat) (i : ℕ) (d : Seat) → i < length seats → is_of new.file (get_or seats i d) ≡ true → ((k : ℕ) → k < i → is_of new.file (get_or seats k d) ≡ false) → with_seat new seats ≡ set seats i new
put_at new [] i d within here before = absurd (omega arith)
put_at new (s ∷ seats) zero d within here before = rw here refl
put_at new (s ∷ seats) (suc i) d within here before =
    let first : is_of new.file s ≡ false = before zero (omega arith) in
    rw first (ap (λ (more : List Seat). s ∷ more) (put_at new seats i d (omega arith) here (λ k below. before (suc k) (omega arith))))

-- another record is put there
pub old_at : (file : ℕ) (current : Option Row) (seats : List Seat) (i : ℕ) (d : Seat) → i < length seats → is_of file (get_or seats i d) ≡ true → ((k : ℕ) → k < i → is_of file (get_or seats k d) ≡ false)
    → with_old file current seats ≡ set seats i (record (get_or seats i d) { current = current })
old_at file current [] i d within here before = absurd (omega arith)
old_at file current (s ∷ seats) zero d within here before = rw here refl
old_at file current (s ∷ seats) (suc i) d within here before =
    let first : is_of file s ≡ false = before zero (omega arith) in
    rw first (ap (λ (more : List Seat). s ∷ more) (old_at file current seats i d (omega arith) here (λ k below. before (suc k) (omega arith))))

-- the old record put back there gives the old seats
pub back_at : (file : ℕ) (current : Option Row) (seats : List Seat) (i : ℕ) (d : Seat) → i < length seats → is_of file (get_or seats i d) ≡ true → ((k : ℕ) → k < i → is_of file (get_or seats k d) ≡ false)
    → with_old file (get_or seats i d).current (set seats i (record (get_or seats i d) { current = current })) ≡ seats
back_at file current [] i d within here before = absurd (omega arith)
back_at file current (s ∷ seats) zero d within here before = rw here refl
back_at file current (s ∷ seats) (suc i) d within here before =
    let first : is_of file s ≡ false = before zero (omega arith) in
    rw first (ap (λ (more : List Seat). s ∷ more) (back_at file current seats i d (omega arith) here (λ k below. before (suc k) (omega arith))))

-- where no seat is the file's, it has not been used
pub unseated : (file : ℕ) (seats : List Seat) (d : Seat) → ((k : ℕ) → k < length seats → is_of file (get_or seats k d) ≡ false) → seat_of file seats ≡ unused_seat file
unseated file [] d none = refl
unseated file (s ∷ seats) d none =
    let first : is_of file s ≡ false = none zero (omega arith) in
    rw first (unseated file seats d (λ k below. none (suc k) (omega arith)))

-- a seat is put at the end
pub put_behind : (new : Seat) (seats : List Seat) (d : Seat) → ((k : ℕ) → k < length seats → is_of new.file (get_or seats k d) ≡ false) → with_seat new seats ≡ seats ++ new ∷ []
put_behind new [] d none = refl
put_behind new (s ∷ seats) d none =
    let first : is_of new.file s ≡ false = none zero (omega arith) in
    rw first (ap (λ (more : List Seat). s ∷ more) (put_behind new seats d (λ k below. none (suc k) (omega arith))))

-- and no record is put there
pub old_nowhere : (file : ℕ) (current : Option Row) (seats : List Seat) (d : Seat) → ((k : ℕ) → k < length seats → is_of file (get_or seats k d) ≡ false) → with_old file current seats ≡ seats
old_nowhere file current [] d none = refl
old_nowhere file current (s ∷ seats) d none =
    let first : is_of file s ≡ false = none zero (omega arith) in
    rw first (ap (λ (more : List Seat). s ∷ more) (old_nowhere file current seats d (λ k below. none (suc k) (omega arith))))

none_by : (b : Bool) (n : ℕ) → cond b (Some n) None ≡ None → b ≡ false
none_by true n e = absurd (cc)
none_by false n e = refl

-- where no place is found, no seat is the file's
pub nowhere : (file : ℕ) (seats : List Seat) (d : Seat) → position (is_of file) seats ≡ None → (k : ℕ) → k < length seats → is_of file (get_or seats k d) ≡ false
nowhere file seats d e k within =
    let past : length seats ≤ position_or_len (is_of file) seats = ltb-false _ _ (none_by _ _ e) in
    fails_before_first (is_of file) seats k d (omega arith)

-- ---- what the session's calls come to

-- a record and a set leave a seat's file
pub with_file : (set : Option KeySet) (seat : Seat) (row : Option Row) → (record (seat_with set seat) { current = row }).file ≡ seat.file
with_file None seat row = refl
with_file (Some s) seat row = refl

-- a record kept in a file's seat
pub kept_there : (file : ℕ) (set' : Option KeySet) (row : Row) (seats : List Seat) (place : ℕ) (d : Seat) → position (is_of file) seats ≡ Some place
    → with_seat (record (seat_with set' (seat_of file seats)) { current = Some row }) seats ≡ set seats place (record (seat_with set' (get_or seats place d)) { current = Some row })
kept_there file set' row seats place d found =
    let there = position-Some (is_of file) seats place d found in
    let same : seat_of file seats ≡ get_or seats place d = seat_at file seats place d there.0 there.1 there.2 in
    let new : Seat = record (seat_with set' (get_or seats place d)) { current = Some row } in
    let of_file : new.file ≡ file = with_file set' (get_or seats place d) (Some row) ∙ eqb-true _ _ there.1 in
    ap (λ (s : Seat). with_seat (record (seat_with set' s) { current = Some row }) seats) same
    ∙ put_at new seats place d there.0 (ap (λ (f : ℕ). is_of f (get_or seats place d)) of_file ∙ there.1) (λ k below. ap (λ (f : ℕ). is_of f (get_or seats k d)) of_file ∙ there.2 k below)

with_unused : (file : ℕ) (set' : Option KeySet) (row : Row) → record (seat_with set' (unused_seat file)) { current = Some row } ≡ record { file = file; current = Some row; set = set' }
with_unused file None row = refl
with_unused file (Some s) row = refl

-- and in a new one
pub kept_anew : (file : ℕ) (set' : Option KeySet) (row : Row) (seats : List Seat) → position (is_of file) seats ≡ None
    → with_seat (record (seat_with set' (seat_of file seats)) { current = Some row }) seats ≡ seats ++ record { file = file; current = Some row; set = set' } ∷ []
kept_anew file set' row seats none =
    let new : Seat = record { file = file; current = Some row; set = set' } in
    ap (λ (s : Seat). with_seat (record (seat_with set' s) { current = Some row }) seats) (unseated file seats new (nowhere file seats new none))
    ∙ ap (λ (s : Seat). with_seat s seats) (with_unused file set' row)
    ∙ put_behind new seats new (nowhere file seats new none)

-- the same at a seat that was read at the place, and at the fields that the code wrote
pub exchanged : (file : ℕ) (row : Row) (inside now : List Seat) (place : ℕ) (d : Seat) (written : Option Row) → position (is_of file) now ≡ Some place → inside ≡ now → d ≡ get_or inside place d → written ≡ Some row
    → set inside place (record { file = d.file; current = written; set = d.set }) ≡ with_current file row now
exchanged file row inside now place d written found view at wrote =
    ap (λ (o : Option Row). set inside place (record { file = d.file; current = o; set = d.set })) wrote
    ∙ ap (λ (s : Seat). set inside place (record s { current = Some row })) at
    ∙ ap (λ (all : List Seat). set all place (record (get_or all place d) { current = Some row })) view
    ∙ sym (kept_there file None row now place d found)

pub exchanged_back : (file : ℕ) (row : Row) (inside now : List Seat) (place : ℕ) (d : Seat) (written before : Option Row) → position (is_of file) now ≡ Some place → inside ≡ now → d ≡ get_or inside place d → written ≡ Some row → before ≡ d.current
    → with_old file before (set inside place (record { file = d.file; current = written; set = d.set })) ≡ now
exchanged_back file row inside now place d written before found view at wrote was =
    let there = position-Some (is_of file) now place d found in
    ap (λ (o : Option Row). with_old file o (set inside place (record { file = d.file; current = written; set = d.set }))) was
    ∙ ap (λ (o : Option Row). with_old file d.current (set inside place (record { file = d.file; current = o; set = d.set }))) wrote
    ∙ ap (λ (s : Seat). with_old file s.current (set inside place (record s { current = Some row }))) at
    ∙ ap (λ (all : List Seat). with_old file (get_or all place d).current (set all place (record (get_or all place d) { current = Some row }))) view
    ∙ back_at file (Some row) now place d there.0 there.1 there.2

pub kept_in : (file : ℕ) (set' : Option KeySet) (row : Row) (inside now : List Seat) (place : ℕ) (d kept : Seat) → position (is_of file) now ≡ Some place → inside ≡ now → d ≡ get_or inside place d → kept ≡ record (seat_with set' d) { current = Some row }
    → set inside place kept ≡ with_seat (record (seat_with set' (seat_of file now)) { current = Some row }) now
kept_in file set' row inside now place d kept found view at is =
    ap (λ (s : Seat). set inside place s) is
    ∙ ap (λ (s : Seat). set inside place (record (seat_with set' s) { current = Some row })) at
    ∙ ap (λ (all : List Seat). set all place (record (seat_with set' (get_or all place d)) { current = Some row })) view
    ∙ sym (kept_there file set' row now place d found)

pub pushed : (file : ℕ) (set' : Option KeySet) (row : Row) (inside now new : List Seat) → position (is_of file) now ≡ None → inside ≡ now → new ≡ inside ++ record { file = file; current = Some row; set = set' } ∷ []
    → new ≡ with_seat (record (seat_with set' (seat_of file now)) { current = Some row }) now
pushed file set' row inside now new none view is =
    is ∙ ap (λ (all : List Seat). all ++ record { file = file; current = Some row; set = set' } ∷ []) view ∙ sym (kept_anew file set' row now none)

pub put_old : (file : ℕ) (current : Option Row) (inside now : List Seat) (place : ℕ) (d : Seat) → position (is_of file) now ≡ Some place → inside ≡ now → d ≡ get_or inside place d
    → set inside place (record { file = d.file; current = current; set = d.set }) ≡ with_old file current now
put_old file current inside now place d found view at =
    let there = position-Some (is_of file) now place d found in
    ap (λ (s : Seat). set inside place (record s { current = current })) at
    ∙ ap (λ (all : List Seat). set all place (record (get_or all place d) { current = current })) view
    ∙ sym (old_at file current now place d there.0 there.1 there.2)
