-- A change that is allowed can be taken back, and that gives the state again.
use Rattle.std.proofs.Common.{subst, true≢false, length-take-le, fold, reverse, ◌≡◌, ℕ, zero, suc, ◌+◌, ◌≤◌, true, not, ◌&&◌, ◌==◌, nat_le, is_none, List, [], ◌∷◌, ◌++◌, length, take, slice_get, Some, option_map, bytes_eq, refl, sym, ap, ◌∙◌, length-append, arith}
use mathlib.Core.List.{reverse-cons}
use Rattle.std.specs.List.{list_all}
use Rattle.std.specs.Cmp.Lexicographic.{bytes_decides}
use Rattle.std.proofs.lemmas.Bool.{eqb-true, and_parts, and_from, eq-eqb, le-leb}
use Rattle.std.proofs.lemmas.List.Sums.{fold-append}
use Rattle.std.proofs.lemmas.Option.{same_Some, none-some}
use Rattle.ct_definitions.specs.declared.definition.FileDef.{FileDef}
use Rattle.ct_definitions.specs.declared.store.Row.{Row}
use Rattle.ct_definitions.specs.declared.store.File.{File}
use Rattle.ct_definitions.specs.declared.change.Change.{Change}
use Rattle.ct_definitions.specs.declared.change.Change.TheVariants.{Make, Add, Rewrite, Delete}
use Rattle.ct_definitions.specs.Room.{has_fitting_len, row_at, image_at, is_image, block_of, use_beside}
use Rattle.ct_definitions.specs.Changes.{State, allows, changed, allows_back, changed_back, inverse_of, passes, is_empty, in_file, with_records, with_row, with_image, without_row, may_stand}
use Rattle.ct_definitions.specs.Histories.{after_changes, allows_all}
use Rattle.ct_definitions.specs.Reached.{rise_above, IsFileInOrder, IsInOrder}
use Rattle.ct_laws.specs.Allowed.{LastIsEmpty}
use Rattle.ct_laws.proofs.Keys.{collide, collide_own, are_apart_own_keys}
use Rattle.ct_laws.proofs.Rows.{num-row_at, row_at_none, list_all-row_at, row_at-with_row_same, row_at-with_image_same, row_at-without_row_same, list_all-with_image, list_all-without_row, sum_by-with_image, sum_by-without_row, without_row-with_row, with_row-without_row, with_image-with_image}
use Rattle.ct_laws.proofs.Room.{use_beside_own, use_beside_one, room_from}
use Rattle.ct_laws.proofs.States.{slice_get-in_file_same, in_file-in_file, in_file_unchanged, passes_from, passes_parts}
use Rattle.ct_laws.proofs.Order.{IsInOrder-changed, IsInOrder-front, MayStand, may_stand_from, CanMake-from, MayAdd-from, MayRewrite-from, MayDelete-from, AreInOrder-at}

-- ---- one file

-- the record that was found
pub same_row : (num : ℕ) (old : List ℕ) (row : Row) (rows : List Row) → row_at num rows ≡ Some row → bytes_eq row.image old ≡ true → row ≡ record { num = num; image = old }
same_row num old row rows one was = λ i. record { num = num-row_at num row rows one i; image = (bytes_decides row.image old).0 was i }

pub is_image_from : (num : ℕ) (image : List ℕ) (rows : List Row) → row_at num rows ≡ Some (record { num = num; image = image }) → is_image image (image_at num rows) ≡ true
is_image_from num image rows h =
    ap (λ found. is_image image (option_map (λ (row : Row). row.image) found)) h ∙ (bytes_decides image image).1 refl

-- a record that stands in a file in order may stand again after it had another image
pub MayStand-with_image : (file : File) (num : ℕ) (new old : List ℕ) → IsFileInOrder file → row_at num file.records ≡ Some (record { num = num; image = old }) → MayStand (with_records file (with_image num new file.records)) (record { num = num; image = old })
MayStand-with_image file num new old h one = record {
  fits = list_all-row_at (λ x. has_fitting_len file.def.kind (length x.image)) num row file.records h.lengths one;
  free = list_all-with_image (λ b. not (collide file.def.indexes row b)) num new file.records (ap not (collide_own file.def.indexes row (record { num = num; image = new }) refl)) (list_all-row_at (λ a. list_all (λ b. not (collide file.def.indexes a b)) file.records) num row file.records (sym (are_apart_own_keys file) ∙ h.own_keys) one);
  room = room_from num old (with_image num new file.records) (omega (arith, sum_by-with_image (use_beside num) num new row file.records one, use_beside_own num row refl, use_beside_own num (record { num = num; image = new }) refl, use_beside_one num 0 row file.records h.rising one, h.room (block_of num)));
}
  where
    row : Row
    row = record { num = num; image = old }

-- and after it was taken away
pub MayStand-without_row : (file : File) (num : ℕ) (old : List ℕ) → IsFileInOrder file → row_at num file.records ≡ Some (record { num = num; image = old }) → MayStand (with_records file (without_row num file.records)) (record { num = num; image = old })
MayStand-without_row file num old h one = record {
  fits = list_all-row_at (λ x. has_fitting_len file.def.kind (length x.image)) num row file.records h.lengths one;
  free = list_all-without_row (λ b. not (collide file.def.indexes row b)) num file.records (list_all-row_at (λ a. list_all (λ b. not (collide file.def.indexes a b)) file.records) num row file.records (sym (are_apart_own_keys file) ∙ h.own_keys) one);
  room = room_from num old (without_row num file.records) (omega (arith, sum_by-without_row (use_beside num) num row file.records one, use_beside_own num row refl, use_beside_one num 0 row file.records h.rising one, h.room (block_of num)));
}
  where
    row : Row
    row = record { num = num; image = old }

-- numbers in a file in order begin at 1
pub num_from_one : (num : ℕ) (row : Row) (rows : List Row) → rise_above 0 rows ≡ true → row_at num rows ≡ Some row → 1 ≤ num
num_from_one zero row rows h one = absurd (none-some row (sym (row_at_none 0 0 rows h (omega arith)) ∙ one))
num_from_one (suc num) row rows h one = omega arith

-- ---- the last file

slice_get-push : (state : State) (f : File) → slice_get (state ++ f ∷ []) (length state) ≡ Some f
slice_get-push [] f = refl
slice_get-push (x ∷ state) f = slice_get-push state f

take-push : (state : State) (f : File) → take (length state) (state ++ f ∷ []) ≡ state
take-push [] f = refl
take-push (x ∷ state) f = ap (λ s. x ∷ s) (take-push state f)

-- ---- each change

-- the file of a change has the records that the change makes
pub found_after : (state : State) (file : ℕ) (change : List Row → List Row) (f : File) → slice_get state file ≡ Some f → slice_get (in_file state file change) file ≡ Some (with_records f (change f.records))
found_after state file change f h = slice_get-in_file_same state file change ∙ ap (option_map (λ g. with_records g (change g.records))) h

-- one change of the records of a file and then another give the state again where they give the records again
pub in_file_back : (state : State) (file : ℕ) (first second : List Row → List Row) (f : File) → slice_get state file ≡ Some f → second (first f.records) ≡ f.records → in_file (in_file state file first) file second ≡ state
in_file_back state file first second f h k = in_file-in_file state file first second ∙ in_file_unchanged state file (λ rows. second (first rows)) f h k

pub make_back_allowed : (state : State) (file : ℕ) (def : FileDef) → allows state (Make file def) ≡ true → allows_back (changed state (Make file def)) (Make file def) ≡ true
make_back_allowed state file def k =
    let m = CanMake-from state file def k in
    let f : File = record { def = def; records = [] } in
    and_from (length (state ++ f ∷ []) == file + 1) (passes (slice_get (state ++ f ∷ []) file) (λ g. is_empty g.records))
    (eq-eqb (length (state ++ f ∷ [])) (file + 1) (omega (arith, length-append state (f ∷ []), m.next)))
    (passes_from (slice_get (state ++ f ∷ []) file) (λ g. is_empty g.records) f (ap (slice_get (state ++ f ∷ [])) m.next ∙ slice_get-push state f) refl)

pub make_back : (state : State) (file : ℕ) (def : FileDef) → allows state (Make file def) ≡ true → changed_back (changed state (Make file def)) (Make file def) ≡ state
make_back state file def k =
    let f : File = record { def = def; records = [] } in
    ap (λ n. take n (state ++ f ∷ [])) (CanMake-from state file def k).next ∙ take-push state f

pub add_back_allowed : (state : State) (file num : ℕ) (new : List ℕ) → allows state (Add file num new) ≡ true → allows (changed state (Add file num new)) (Delete file num new) ≡ true
add_back_allowed state file num new k =
    let row : Row = record { num = num; image = new } in
    let m = MayAdd-from state file row k in
    passes_from (slice_get (in_file state file (with_row row)) file) (λ f. is_image new (image_at num f.records)) (with_records m.f (with_row row m.f.records)) (found_after state file (with_row row) m.f m.found)
    (is_image_from num new (with_row row m.f.records) (row_at-with_row_same row m.f.records m.none))

pub add_back : (state : State) (file num : ℕ) (new : List ℕ) → allows state (Add file num new) ≡ true → changed (changed state (Add file num new)) (Delete file num new) ≡ state
add_back state file num new k =
    let row : Row = record { num = num; image = new } in
    let m = MayAdd-from state file row k in
    in_file_back state file (with_row row) (without_row num) m.f m.found (without_row-with_row row m.f.records m.none)

pub rewrite_back_allowed : (state : State) (file num : ℕ) (old new : List ℕ) → IsInOrder state → allows state (Rewrite file num old new) ≡ true → allows (changed state (Rewrite file num old new)) (Rewrite file num new old) ≡ true
rewrite_back_allowed state file num old new h k =
    let m = MayRewrite-from state file old (record { num = num; image = new }) k in
    let is = same_row num old m.row m.f.records m.one m.was in
    let after = with_records m.f (with_image num new m.f.records) in
    passes_from (slice_get (in_file state file (with_image num new)) file) (λ f. is_image new (image_at num f.records) && may_stand f num old) after (found_after state file (with_image num new) m.f m.found)
    (and_from (is_image new (image_at num after.records)) (may_stand after num old)
    (is_image_from num new after.records (row_at-with_image_same num new m.f.records ∙ ap (option_map (λ (row : Row). record { num = num; image = new })) m.one))
    (may_stand_from after (record { num = num; image = old }) (MayStand-with_image m.f num new old (AreInOrder-at state file m.f h.files m.found) (m.one ∙ ap Some is))))

pub rewrite_back : (state : State) (file num : ℕ) (old new : List ℕ) → allows state (Rewrite file num old new) ≡ true → changed (changed state (Rewrite file num old new)) (Rewrite file num new old) ≡ state
rewrite_back state file num old new k =
    let m = MayRewrite-from state file old (record { num = num; image = new }) k in
    let is = same_row num old m.row m.f.records m.one m.was in
    in_file_back state file (with_image num new) (with_image num old) m.f m.found (with_image-with_image num new (record { num = num; image = old }) m.f.records (m.one ∙ ap Some is))

pub delete_back_allowed : (state : State) (file num : ℕ) (old : List ℕ) → IsInOrder state → allows state (Delete file num old) ≡ true → allows (changed state (Delete file num old)) (Add file num old) ≡ true
delete_back_allowed state file num old h k =
    let m = MayDelete-from state file num old k in
    let is = same_row num old m.row m.f.records m.one m.was in
    let order = AreInOrder-at state file m.f h.files m.found in
    let after = with_records m.f (without_row num m.f.records) in
    passes_from (slice_get (in_file state file (without_row num)) file) (λ f. nat_le 1 num && is_none (image_at num f.records) && may_stand f num old) after (found_after state file (without_row num) m.f m.found)
    (and_from (nat_le 1 num && is_none (image_at num after.records)) (may_stand after num old)
    (and_from (nat_le 1 num) (is_none (image_at num after.records))
    (le-leb 1 num (num_from_one num m.row m.f.records order.rising m.one))
    (ap (λ found. is_none (option_map (λ (row : Row). row.image) found)) (row_at-without_row_same num 0 m.f.records order.rising)))
    (may_stand_from after (record { num = num; image = old }) (MayStand-without_row m.f num old order (m.one ∙ ap Some is))))

pub delete_back : (state : State) (file num : ℕ) (old : List ℕ) → IsInOrder state → allows state (Delete file num old) ≡ true → changed (changed state (Delete file num old)) (Add file num old) ≡ state
delete_back state file num old h k =
    let m = MayDelete-from state file num old k in
    let is = same_row num old m.row m.f.records m.one m.was in
    in_file_back state file (without_row num) (with_row (record { num = num; image = old })) m.f m.found (with_row-without_row 0 (record { num = num; image = old }) m.f.records (AreInOrder-at state file m.f h.files m.found).rising (m.one ∙ ap Some is))

-- ---- any change

pub back_allowed : (state : State) (change : Change) → IsInOrder state → allows state change ≡ true → allows_back (changed state change) change ≡ true
back_allowed state (Make file def) h k = make_back_allowed state file def k
back_allowed state (Add file num new) h k = add_back_allowed state file num new k
back_allowed state (Rewrite file num old new) h k = rewrite_back_allowed state file num old new h k
back_allowed state (Delete file num old) h k = delete_back_allowed state file num old h k

pub back_undoes : (state : State) (change : Change) → IsInOrder state → allows state change ≡ true → changed_back (changed state change) change ≡ state
back_undoes state (Make file def) h k = make_back state file def k
back_undoes state (Add file num new) h k = add_back state file num new k
back_undoes state (Rewrite file num old new) h k = rewrite_back state file num old new k
back_undoes state (Delete file num old) h k = delete_back state file num old h k

-- taking back is the inverse change where there is one
pub back_is_inverse : (state : State) (change inverse : Change) → inverse_of change ≡ Some inverse → (allows_back state change ≡ allows state inverse) × (changed_back state change ≡ changed state inverse)
back_is_inverse state (Make file def) inverse e = absurd (none-some inverse e)
back_is_inverse state (Add file num new) inverse e = (ap (allows state) (same_Some (Delete file num new) inverse e), ap (changed state) (same_Some (Delete file num new) inverse e))
back_is_inverse state (Rewrite file num old new) inverse e = (ap (allows state) (same_Some (Rewrite file num new old) inverse e), ap (changed state) (same_Some (Rewrite file num new old) inverse e))
back_is_inverse state (Delete file num old) inverse e = (ap (allows state) (same_Some (Add file num old) inverse e), ap (changed state) (same_Some (Add file num old) inverse e))

pub inverse_allowed : (state : State) (change inverse : Change) → IsInOrder state → allows state change ≡ true → inverse_of change ≡ Some inverse → allows (changed state change) inverse ≡ true
inverse_allowed state change inverse h k e = sym (back_is_inverse (changed state change) change inverse e).0 ∙ back_allowed state change h k

pub inverse_undoes : (state : State) (change inverse : Change) → IsInOrder state → allows state change ≡ true → inverse_of change ≡ Some inverse → changed (changed state change) inverse ≡ state
inverse_undoes state change inverse h k e = sym (back_is_inverse (changed state change) change inverse e).1 ∙ back_undoes state change h k

-- ---- many changes

-- taking the last change back first
pub all_back : (state : State) (changes : List Change) → IsInOrder state → allows_all state changes ≡ true → fold changed_back (after_changes state changes) (reverse changes) ≡ state
all_back state [] h k = refl
all_back state (change ∷ changes) h k =
    let a = and_parts (allows state change) (allows_all (changed state change) changes) k in
    let next : State = changed state change in
    let rest = all_back next changes (IsInOrder-changed state change h a.0) a.1 in
    ap (fold changed_back (after_changes next changes)) (reverse-cons change changes)
    ∙ fold-append changed_back (after_changes next changes) (reverse changes) (change ∷ [])
    ∙ ap (λ s. changed_back s change) rest
    ∙ back_undoes state change h a.0

-- ---- what can be taken back

front_and_last : (n : ℕ) (state : State) (f : File) → length state ≡ n + 1 → slice_get state n ≡ Some f → state ≡ take n state ++ f ∷ []
front_and_last zero [] f len last = absurd (none-some f last)
front_and_last zero (x ∷ []) f len last = ap (λ y. y ∷ []) (same_Some x f last)
front_and_last zero (x ∷ y ∷ state) f len last = absurd (omega arith)
front_and_last (suc n) [] f len last = absurd (none-some f last)
front_and_last (suc n) (x ∷ state) f len last = ap (λ s. x ∷ s) (front_and_last n state f (omega arith) last)

no_records : (rows : List Row) → is_empty rows ≡ true → rows ≡ []
no_records [] h = refl
no_records (row ∷ rows) h = absurd (true≢false (sym h))

length-take-front : (n : ℕ) (state : State) → length state ≡ n + 1 → length (take n state) ≡ n
length-take-front n state len = length-take-le n state (omega arith)

-- a Make can be taken back where its file is the last one and empty
pub LastIsEmpty-from : (state : State) (file : ℕ) (def : FileDef) → allows_back state (Make file def) ≡ true → LastIsEmpty file state (changed_back state (Make file def))
LastIsEmpty-from state file def h =
    let a = and_parts (length state == file + 1) (passes (slice_get state file) (λ f. is_empty f.records)) h in
    let len = eqb-true (length state) (file + 1) a.0 in
    let p = passes_parts (slice_get state file) (λ f. is_empty f.records) a.1 in
    record { last = p.0; number = length-take-front file state len; joined = front_and_last file state p.0 len p.1; none = no_records p.0.records p.2 }

-- whoever undoes an inverse does the change again
pub inverse_of_inverse : (change inverse : Change) → inverse_of change ≡ Some inverse → inverse_of inverse ≡ Some change
inverse_of_inverse (Make file def) inverse e = absurd (none-some inverse e)
inverse_of_inverse (Add file num new) inverse e = sym (ap inverse_of (same_Some (Delete file num new) inverse e))
inverse_of_inverse (Rewrite file num old new) inverse e = sym (ap inverse_of (same_Some (Rewrite file num new old) inverse e))
inverse_of_inverse (Delete file num old) inverse e = sym (ap inverse_of (same_Some (Add file num old) inverse e))

pub IsInOrder-changed_back : (state : State) (change : Change) → IsInOrder state → allows_back state change ≡ true → IsInOrder (changed_back state change)
IsInOrder-changed_back state (Make file def) h k =
    let l = LastIsEmpty-from state file def k in
    IsInOrder-front (take file state) l.last (subst (λ s. IsInOrder s) l.joined h)
IsInOrder-changed_back state (Add file num new) h k = IsInOrder-changed state (Delete file num new) h k
IsInOrder-changed_back state (Rewrite file num old new) h k = IsInOrder-changed state (Rewrite file num new old) h k
IsInOrder-changed_back state (Delete file num old) h k = IsInOrder-changed state (Add file num old) h k

pub again_allowed : (state : State) (change inverse : Change) → IsInOrder state → allows_back state change ≡ true → inverse_of change ≡ Some inverse → allows (changed_back state change) change ≡ true
again_allowed state change inverse h k e =
    let b = back_is_inverse state change inverse e in
    ap (λ s. allows s change) b.1 ∙ inverse_allowed state inverse change h (sym b.0 ∙ k) (inverse_of_inverse change inverse e)

pub again_made : (state : State) (change inverse : Change) → IsInOrder state → allows_back state change ≡ true → inverse_of change ≡ Some inverse → changed (changed_back state change) change ≡ state
again_made state change inverse h k e =
    let b = back_is_inverse state change inverse e in
    ap (λ s. changed s change) b.1 ∙ inverse_undoes state inverse change h (sym b.0 ∙ k) (inverse_of_inverse change inverse e)
