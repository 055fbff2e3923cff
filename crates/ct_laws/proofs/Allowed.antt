-- On a state in order a change is allowed exactly where it can be made and leaves no key twice and room in each block.
use Rattle.std.proofs.Common.{◌≡◌, ◌↔◌, ℕ, Bool, true, not, ◌&&◌, ◌==◌, nat_le, nat_lt, is_none, List, length, slice_get, Some, None, option_map, refl, sym, ap, ◌∙◌}
use Rattle.std.specs.List.{list_all}
use Rattle.std.proofs.lemmas.Bool.{and_parts, and_from, eq-eqb, lt-ltb, le-leb}
use Rattle.ct_definitions.specs.declared.definition.FileDef.{FileDef}
use Rattle.ct_definitions.specs.declared.store.Row.{Row}
use Rattle.ct_definitions.specs.declared.store.File.{File}
use Rattle.ct_definitions.specs.declared.store.TheConstants.{MOST_FILES}
use Rattle.ct_definitions.specs.declared.change.Change.TheVariants.{Make, Add, Rewrite, Delete}
use Rattle.ct_definitions.specs.Validity.{is_valid}
use Rattle.ct_definitions.specs.Room.{has_fitting_len, row_at, image_at, is_image}
use Rattle.ct_definitions.specs.Changes.{State, allows, has_name, with_records, with_row, with_image, may_stand}
use Rattle.ct_definitions.specs.Reached.{IsFileInOrder, IsInOrder}
use Rattle.ct_laws.specs.Allowed.{HasKeysOnce, HasRoom, CanMake, CanAdd, CanRewrite, CanDelete}
use Rattle.ct_laws.proofs.Keys.{HasKeysOnce-from, apart_from_HasKeysOnce, collide, collide_own, are_apart_own_keys}
use Rattle.ct_laws.proofs.Rows.{list_all-row_at, list_all-with_row, list_all-with_image, row_at-with_row_same, row_at-with_image_same, with_image-with_image}
use Rattle.ct_laws.proofs.Room.{room_from-with_row, room_from-with_image}
use Rattle.ct_laws.proofs.States.{passes_from}
use Rattle.ct_laws.proofs.Order.{MayStand, may_stand_from, CanMake-from, MayAdd-from, MayRewrite-from, MayDelete-from, AreInOrder-at, IsFileInOrder-with_row, IsFileInOrder-with_image}
use Rattle.ct_laws.proofs.Undo.{same_row, is_image_from}

-- a record collides with none of those among which it stands and no key stands twice
free_among : (file : File) (num : ℕ) (row : Row) → HasKeysOnce file → row_at num file.records ≡ Some row → list_all (λ b. not (collide file.def.indexes row b)) file.records ≡ true
free_among file num row keys one = list_all-row_at (λ a. list_all (λ b. not (collide file.def.indexes a b)) file.records) num row file.records (apart_from_HasKeysOnce file keys) one

-- what a file may have as one record more may stand in the file without it
pub MayStand-from_with_row : (file : File) (new : Row) → row_at new.num file.records ≡ None → has_fitting_len file.def.kind (length new.image) ≡ true → HasKeysOnce (with_records file (with_row new file.records)) → HasRoom (with_records file (with_row new file.records)) → MayStand file new
MayStand-from_with_row file new none fits keys room =
    let p : Row → Bool = λ b. not (collide file.def.indexes new b) in
    record {
      fits = fits;
      free = (and_parts (p new) (list_all p file.records) (sym (list_all-with_row p new file.records) ∙ free_among (with_records file (with_row new file.records)) new.num new keys (row_at-with_row_same new file.records none))).1;
      room = room_from-with_row new file.records none room;
    }

-- and so may what it may have as another image of a record
pub MayStand-from_with_image : (file : File) (num : ℕ) (old new : List ℕ) → IsFileInOrder file → row_at num file.records ≡ Some (record { num = num; image = old }) → has_fitting_len file.def.kind (length new) ≡ true → HasKeysOnce (with_records file (with_image num new file.records)) → HasRoom (with_records file (with_image num new file.records)) → MayStand file (record { num = num; image = new })
MayStand-from_with_image file num old new order one fits keys room =
    let was : Row = record { num = num; image = old } in
    let row : Row = record { num = num; image = new } in
    let p : Row → Bool = λ b. not (collide file.def.indexes row b) in
    let now : row_at num (with_image num new file.records) ≡ Some row = row_at-with_image_same num new file.records ∙ ap (option_map (λ (x : Row). row)) one in
    record {
      fits = fits;
      free = ap (list_all p) (sym (with_image-with_image num new was file.records one)) ∙ list_all-with_image p num old (with_image num new file.records) (ap not (collide_own file.def.indexes row was refl)) (free_among (with_records file (with_image num new file.records)) num row keys now);
      room = room_from-with_image 0 row was file.records order.rising refl one room;
    }

-- in a file in order no key stands twice
pub HasKeysOnce-in_order : (file : File) → IsFileInOrder file → HasKeysOnce file
HasKeysOnce-in_order file h = HasKeysOnce-from file (sym (are_apart_own_keys file) ∙ h.own_keys)

pub make_allowed : (state : State) (file : ℕ) (def : FileDef) → (allows state (Make file def) ≡ true) ↔ CanMake state file def
make_allowed state file def = (CanMake-from state file def, back)
  where
    back : CanMake state file def → allows state (Make file def) ≡ true
    back m =
        and_from (file == length state && nat_lt file MOST_FILES && is_valid def) (not (has_name state def.name))
        (and_from (file == length state && nat_lt file MOST_FILES) (is_valid def) (and_from (file == length state) (nat_lt file MOST_FILES) (eq-eqb file (length state) m.next) (lt-ltb file MOST_FILES m.few)) m.valid)
        (ap not m.name)

pub add_allowed : (state : State) (file num : ℕ) (new : List ℕ) → IsInOrder state → (allows state (Add file num new) ≡ true) ↔ CanAdd state file num new
add_allowed state file num new h = (there, back)
  where
    row : Row
    row = record { num = num; image = new }

    there : allows state (Add file num new) ≡ true → CanAdd state file num new
    there k =
        let m = MayAdd-from state file row k in
        let after = IsFileInOrder-with_row m.f row (AreInOrder-at state file m.f h.files m.found) m.low m.none m.may in
        record { f = m.f; found = m.found; number = m.low; free = m.none; fits = m.may.fits; keys = HasKeysOnce-in_order (with_records m.f (with_row row m.f.records)) after; room = after.room }

    back : CanAdd state file num new → allows state (Add file num new) ≡ true
    back m =
        passes_from (slice_get state file) (λ f. nat_le 1 num && is_none (image_at num f.records) && may_stand f num new) m.f m.found
        (and_from (nat_le 1 num && is_none (image_at num m.f.records)) (may_stand m.f num new)
        (and_from (nat_le 1 num) (is_none (image_at num m.f.records)) (le-leb 1 num m.number) (ap (λ found. is_none (option_map (λ (x : Row). x.image) found)) m.free))
        (may_stand_from m.f row (MayStand-from_with_row m.f row m.free m.fits m.keys m.room)))

pub rewrite_allowed : (state : State) (file num : ℕ) (old new : List ℕ) → IsInOrder state → (allows state (Rewrite file num old new) ≡ true) ↔ CanRewrite state file num old new
rewrite_allowed state file num old new h = (there, back)
  where
    row : Row
    row = record { num = num; image = new }

    there : allows state (Rewrite file num old new) ≡ true → CanRewrite state file num old new
    there k =
        let m = MayRewrite-from state file old row k in
        let after = IsFileInOrder-with_image m.f row m.row (AreInOrder-at state file m.f h.files m.found) m.one m.may in
        record { f = m.f; found = m.found; stands = m.one ∙ ap Some (same_row num old m.row m.f.records m.one m.was); fits = m.may.fits; keys = HasKeysOnce-in_order (with_records m.f (with_image num new m.f.records)) after; room = after.room }

    back : CanRewrite state file num old new → allows state (Rewrite file num old new) ≡ true
    back m =
        passes_from (slice_get state file) (λ f. is_image old (image_at num f.records) && may_stand f num new) m.f m.found
        (and_from (is_image old (image_at num m.f.records)) (may_stand m.f num new) (is_image_from num old m.f.records m.stands)
        (may_stand_from m.f row (MayStand-from_with_image m.f num old new (AreInOrder-at state file m.f h.files m.found) m.stands m.fits m.keys m.room)))

pub delete_allowed : (state : State) (file num : ℕ) (old : List ℕ) → (allows state (Delete file num old) ≡ true) ↔ CanDelete state file num old
delete_allowed state file num old = (there, back)
  where
    there : allows state (Delete file num old) ≡ true → CanDelete state file num old
    there k =
        let m = MayDelete-from state file num old k in
        record { f = m.f; found = m.found; stands = m.one ∙ ap Some (same_row num old m.row m.f.records m.one m.was) }

    back : CanDelete state file num old → allows state (Delete file num old) ≡ true
    back m = passes_from (slice_get state file) (λ f. is_image old (image_at num f.records)) m.f m.found (is_image_from num old m.f.records m.stands)
