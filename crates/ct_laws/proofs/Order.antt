-- A change that is allowed keeps a state in order, and what each allowed change says.
use Rattle.std.proofs.Common.{length-append, ◌||◌, ◌≡◌, ℕ, zero, suc, ◌≤◌, Bool, true, false, not, ◌&&◌, nat_le, is_none, List, [], ◌∷◌, ◌++◌, length, slice_get, Option, Some, None, option_map, bytes_eq, refl, sym, ◌∙◌, subst, arith}
use Rattle.std.specs.List.{list_all}
use Rattle.std.proofs.lemmas.Bool.{and_parts, and_from, leb-true}
use Rattle.std.proofs.lemmas.Option.{same_Some}
use Rattle.std.proofs.lemmas.Cmp.{nat_list_eq_equiv}
use Rattle.std.proofs.lemmas.Bool.Decides.{nat_tests}
use Rattle.ct_definitions.specs.declared.definition.FileDef.{FileDef}
use Rattle.ct_definitions.specs.declared.store.Row.{Row}
use Rattle.ct_definitions.specs.declared.store.File.{File}
use Rattle.ct_definitions.specs.declared.change.Change.{Change}
use Rattle.ct_definitions.specs.declared.change.Change.TheVariants.{Make, Add, Rewrite, Delete}
use Rattle.ct_definitions.specs.Validity.{is_valid}
use Rattle.ct_definitions.specs.Room.{has_fitting_len, row_at, image_at, is_image, has_room}
use Rattle.ct_definitions.specs.Changes.{State, allows, changed, in_file, with_records, with_row, with_image, without_row, may_stand, has_taken_key, has_name}
use Rattle.ct_definitions.specs.Reached.{IsFileInOrder, AreInOrder, have_own_names, IsInOrder}
use Rattle.ct_laws.specs.Allowed.{CanMake}
use Rattle.ct_laws.proofs.Keys.{collide, are_apart_own_keys, not-has_taken_key, are_apart_kept, are_apart_fewer}
use Rattle.ct_laws.proofs.Rows.{num-row_at, list_all-with_row, list_all-with_image, list_all-without_row, rise_above-with_row, rise_above-with_image, rise_above-without_row}
use Rattle.ct_laws.proofs.Room.{room-with_row, room-with_image, room-without_row}
use Rattle.ct_laws.proofs.States.{passes_parts, length-in_file, have_own_names-in_file}

-- ---- what the tests of a change say

-- what it takes for an image to stand under a number
pub record MayStand (file : File) (new : Row) : Type 0 where
  pub fits : has_fitting_len file.def.kind (length new.image) ≡ true
  pub free : list_all (λ b. not (collide file.def.indexes new b)) file.records ≡ true
  pub room : has_room new.num new.image file.records ≡ true

pub MayStand-from : (file : File) (new : Row) → may_stand file new.num new.image ≡ true → MayStand file new
MayStand-from file new h =
    let a = and_parts (has_fitting_len file.def.kind (length new.image) && not (has_taken_key file new.num new.image)) (has_room new.num new.image file.records) h in
    let b = and_parts (has_fitting_len file.def.kind (length new.image)) (not (has_taken_key file new.num new.image)) a.0 in
    record { fits = b.0; free = sym (not-has_taken_key file new) ∙ b.1; room = a.1 }

pub may_stand_from : (file : File) (new : Row) → MayStand file new → may_stand file new.num new.image ≡ true
may_stand_from file new h =
    and_from (has_fitting_len file.def.kind (length new.image) && not (has_taken_key file new.num new.image)) (has_room new.num new.image file.records)
    (and_from (has_fitting_len file.def.kind (length new.image)) (not (has_taken_key file new.num new.image)) h.fits (not-has_taken_key file new ∙ h.free))
    h.room

-- the record whose image was found
pub row_from_image : (num : ℕ) (old : List ℕ) (rows : List Row) → is_image old (image_at num rows) ≡ true → (row : Row) × (row_at num rows ≡ Some row) × (bytes_eq row.image old ≡ true)
row_from_image num old rows h = by (row_at num rows) refl h
  where
    by : (found : Option Row) → row_at num rows ≡ found → is_image old (option_map (λ row. row.image) found) ≡ true → (row : Row) × (row_at num rows ≡ Some row) × (bytes_eq row.image old ≡ true)
    by None e k = grind arith
    by (Some row) e k = (row, e, k)

-- no record where no image was found
pub row_at_none_from_image : (num : ℕ) (rows : List Row) → is_none (image_at num rows) ≡ true → row_at num rows ≡ None
row_at_none_from_image num rows h = by (row_at num rows) h
  where
    by : (found : Option Row) → is_none (option_map (λ row. row.image) found) ≡ true → found ≡ None
    by None k = refl
    by (Some row) k = grind arith

-- ---- one file

pub IsFileInOrder-empty : (def : FileDef) → is_valid def ≡ true → IsFileInOrder (record { def = def; records = [] })
IsFileInOrder-empty def h = record { valid = h; rising = refl; lengths = refl; own_keys = refl; room = λ block. omega arith }

pub IsFileInOrder-with_row : (file : File) (new : Row) → IsFileInOrder file → 1 ≤ new.num → row_at new.num file.records ≡ None → MayStand file new → IsFileInOrder (with_records file (with_row new file.records))
IsFileInOrder-with_row file new h low none may = record {
  valid = h.valid;
  rising = rise_above-with_row 0 new file.records h.rising (omega arith) none;
  lengths = kept (λ row. has_fitting_len file.def.kind (length row.image)) may.fits h.lengths;
  own_keys = are_apart_own_keys (with_records file (with_row new file.records)) ∙ are_apart_kept file.def.indexes new file.records (with_row new file.records) kept (sym (are_apart_own_keys file) ∙ h.own_keys) may.free;
  room = room-with_row new file.records none may.room h.room;
}
  where
    kept : (p : Row → Bool) → p new ≡ true → list_all p file.records ≡ true → list_all p (with_row new file.records) ≡ true
    kept p a b = list_all-with_row p new file.records ∙ and_from (p new) (list_all p file.records) a b

pub IsFileInOrder-with_image : (file : File) (new row : Row) → IsFileInOrder file → row_at new.num file.records ≡ Some row → MayStand file new → IsFileInOrder (with_records file (with_image new.num new.image file.records))
IsFileInOrder-with_image file new row h one may = record {
  valid = h.valid;
  rising = rise_above-with_image 0 new.num new.image file.records ∙ h.rising;
  lengths = kept (λ row. has_fitting_len file.def.kind (length row.image)) may.fits h.lengths;
  own_keys = are_apart_own_keys (with_records file (with_image new.num new.image file.records)) ∙ are_apart_kept file.def.indexes new file.records (with_image new.num new.image file.records) kept (sym (are_apart_own_keys file) ∙ h.own_keys) may.free;
  room = room-with_image 0 new row file.records h.rising (num-row_at new.num row file.records one) one may.room h.room;
}
  where
    kept : (p : Row → Bool) → p new ≡ true → list_all p file.records ≡ true → list_all p (with_image new.num new.image file.records) ≡ true
    kept p a b = list_all-with_image p new.num new.image file.records a b

pub IsFileInOrder-without_row : (file : File) (num : ℕ) (row : Row) → IsFileInOrder file → row_at num file.records ≡ Some row → IsFileInOrder (with_records file (without_row num file.records))
IsFileInOrder-without_row file num row h one = record {
  valid = h.valid;
  rising = rise_above-without_row 0 num file.records h.rising;
  lengths = kept (λ row. has_fitting_len file.def.kind (length row.image)) h.lengths;
  own_keys = are_apart_own_keys (with_records file (without_row num file.records)) ∙ are_apart_fewer file.def.indexes file.records (without_row num file.records) kept (sym (are_apart_own_keys file) ∙ h.own_keys);
  room = room-without_row num row file.records one h.room;
}
  where
    kept : (p : Row → Bool) → list_all p file.records ≡ true → list_all p (without_row num file.records) ≡ true
    kept p a = list_all-without_row p num file.records a

-- ---- the files of a state

pub AreInOrder-at : (state : State) (file : ℕ) (f : File) → AreInOrder state → slice_get state file ≡ Some f → IsFileInOrder f
AreInOrder-at [] file f h k = grind arith
AreInOrder-at (x ∷ state) zero f h k = subst (λ y. IsFileInOrder y) (same_Some x f k) h.0
AreInOrder-at (x ∷ state) (suc file) f h k = AreInOrder-at state file f h.1 k

pub AreInOrder-in_file : (state : State) (file : ℕ) (change : List Row → List Row) → AreInOrder state → ((f : File) → slice_get state file ≡ Some f → IsFileInOrder (with_records f (change f.records))) → AreInOrder (in_file state file change)
AreInOrder-in_file [] file change h k = h
AreInOrder-in_file (x ∷ state) zero change h k = (k x refl, h.1)
AreInOrder-in_file (x ∷ state) (suc file) change h k = (h.0, AreInOrder-in_file state file change h.1 k)

pub AreInOrder-push : (state : State) (f : File) → AreInOrder state → IsFileInOrder f → AreInOrder (state ++ f ∷ [])
AreInOrder-push [] f h k = (k, tt)
AreInOrder-push (x ∷ state) f h k = (h.0, AreInOrder-push state f h.1 k)

has_name-push : (state : State) (f : File) (name : List ℕ) → has_name (state ++ f ∷ []) name ≡ (has_name state name || bytes_eq f.def.name name)
has_name-push [] f name = grind arith
has_name-push (x ∷ state) f name = grind (arith, has_name-push state f name)

pub have_own_names-push : (state : State) (f : File) → have_own_names state ≡ true → has_name state f.def.name ≡ false → have_own_names (state ++ f ∷ []) ≡ true
have_own_names-push [] f h k = refl
have_own_names-push (x ∷ state) f h k = grind (arith, has_name-push state f x.def.name, nat_list_eq_equiv.symm x.def.name f.def.name, have_own_names-push state f)

-- without the last file
pub AreInOrder-front : (state : State) (f : File) → AreInOrder (state ++ f ∷ []) → AreInOrder state
AreInOrder-front [] f h = tt
AreInOrder-front (x ∷ state) f h = (h.0, AreInOrder-front state f h.1)

pub have_own_names-front : (state : State) (f : File) → have_own_names (state ++ f ∷ []) ≡ true → have_own_names state ≡ true
have_own_names-front [] f h = refl
have_own_names-front (x ∷ state) f h = grind (arith, has_name-push state f x.def.name, have_own_names-front state f)

pub IsInOrder-front : (state : State) (f : File) → IsInOrder (state ++ f ∷ []) → IsInOrder state
IsInOrder-front state f h = record {
  files = AreInOrder-front state f h.files;
  names = have_own_names-front state f h.names;
  few = omega (arith, length-append state (f ∷ []), h.few);
}

pub IsInOrder-in_file : (state : State) (file : ℕ) (change : List Row → List Row) (f : File) → IsInOrder state → slice_get state file ≡ Some f → (IsFileInOrder f → IsFileInOrder (with_records f (change f.records))) → IsInOrder (in_file state file change)
IsInOrder-in_file state file change f h found k = record {
  files = AreInOrder-in_file state file change h.files (λ g e. subst (λ (y : File). IsFileInOrder (with_records y (change y.records))) (same_Some f g (sym found ∙ e)) (k (AreInOrder-at state file f h.files found)));
  names = have_own_names-in_file state file change ∙ h.names;
  few = omega (arith, length-in_file state file change, h.few);
}

-- ---- each change

-- what an allowed Make says
pub CanMake-from : (state : State) (file : ℕ) (def : FileDef) → allows state (Make file def) ≡ true → CanMake state file def
CanMake-from state file def h = record { next = grind (arith, nat_tests); few = grind (arith, nat_tests); valid = grind (arith, nat_tests); name = grind (arith, nat_tests) }

-- what an allowed Add says
pub record MayAdd (state : State) (file : ℕ) (new : Row) : Type 0 where
  pub f : File
  pub found : slice_get state file ≡ Some f
  pub low : 1 ≤ new.num
  pub none : row_at new.num f.records ≡ None
  pub may : MayStand f new

pub MayAdd-from : (state : State) (file : ℕ) (new : Row) → allows state (Add file new.num new.image) ≡ true → MayAdd state file new
MayAdd-from state file new h =
    let test : File → Bool = λ f. nat_le 1 new.num && is_none (image_at new.num f.records) && may_stand f new.num new.image in
    let p = passes_parts (slice_get state file) test h in
    let a = and_parts (nat_le 1 new.num && is_none (image_at new.num p.0.records)) (may_stand p.0 new.num new.image) p.2 in
    let b = and_parts (nat_le 1 new.num) (is_none (image_at new.num p.0.records)) a.0 in
    record { f = p.0; found = p.1; low = leb-true 1 new.num b.0; none = row_at_none_from_image new.num p.0.records b.1; may = MayStand-from p.0 new a.1 }

-- what an allowed Rewrite says
pub record MayRewrite (state : State) (file : ℕ) (old : List ℕ) (new : Row) : Type 0 where
  pub f : File
  pub row : Row
  pub found : slice_get state file ≡ Some f
  pub one : row_at new.num f.records ≡ Some row
  pub was : bytes_eq row.image old ≡ true
  pub may : MayStand f new

pub MayRewrite-from : (state : State) (file : ℕ) (old : List ℕ) (new : Row) → allows state (Rewrite file new.num old new.image) ≡ true → MayRewrite state file old new
MayRewrite-from state file old new h =
    let test : File → Bool = λ f. is_image old (image_at new.num f.records) && may_stand f new.num new.image in
    let p = passes_parts (slice_get state file) test h in
    let a = and_parts (is_image old (image_at new.num p.0.records)) (may_stand p.0 new.num new.image) p.2 in
    let r = row_from_image new.num old p.0.records a.0 in
    record { f = p.0; row = r.0; found = p.1; one = r.1; was = r.2; may = MayStand-from p.0 new a.1 }

-- what an allowed Delete says
pub record MayDelete (state : State) (file num : ℕ) (old : List ℕ) : Type 0 where
  pub f : File
  pub row : Row
  pub found : slice_get state file ≡ Some f
  pub one : row_at num f.records ≡ Some row
  pub was : bytes_eq row.image old ≡ true

pub MayDelete-from : (state : State) (file num : ℕ) (old : List ℕ) → allows state (Delete file num old) ≡ true → MayDelete state file num old
MayDelete-from state file num old h =
    let test : File → Bool = λ f. is_image old (image_at num f.records) in
    let p = passes_parts (slice_get state file) test h in
    let r = row_from_image num old p.0.records p.2 in
    record { f = p.0; row = r.0; found = p.1; one = r.1; was = r.2 }

pub IsInOrder-empty : IsInOrder []
IsInOrder-empty = record { files = tt; names = refl; few = omega arith }

pub IsInOrder-changed : (state : State) (change : Change) → IsInOrder state → allows state change ≡ true → IsInOrder (changed state change)
IsInOrder-changed state (Make file def) h k =
    let m = CanMake-from state file def k in
    let f : File = record { def = def; records = [] } in
    record {
      files = AreInOrder-push state f h.files (IsFileInOrder-empty def m.valid);
      names = have_own_names-push state f h.names m.name;
      few = omega (arith, length-append state (f ∷ []), m.next, m.few);
    }
IsInOrder-changed state (Add file num new) h k =
    let row : Row = record { num = num; image = new } in
    let m = MayAdd-from state file row k in
    IsInOrder-in_file state file (with_row row) m.f h m.found (λ o. IsFileInOrder-with_row m.f row o m.low m.none m.may)
IsInOrder-changed state (Rewrite file num old new) h k =
    let row : Row = record { num = num; image = new } in
    let m = MayRewrite-from state file old row k in
    IsInOrder-in_file state file (with_image num new) m.f h m.found (λ o. IsFileInOrder-with_image m.f row m.row o m.one m.may)
IsInOrder-changed state (Delete file num old) h k =
    let m = MayDelete-from state file num old k in
    IsInOrder-in_file state file (without_row num) m.f h m.found (λ o. IsFileInOrder-without_row m.f num m.row o m.one)
