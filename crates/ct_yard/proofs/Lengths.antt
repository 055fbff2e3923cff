-- How long a group of one allowed change is, and that its fields hold it.
use Rattle.std.proofs.Common.{◌≡◌, ◌<◌, ◌≤◌, ◌+◌, ◌*◌, ℕ, zero, suc, List, [], ◌∷◌, ◌++◌, length, slice_get, slice_index_or, Bool, true, false, not, ◌&&◌, ◌==◌, cond, nat_lt, nat_le, is_none, Option, Some, None, option_map, refl, sym, ap, ◌∙◌, subst, arith, length-append}
use Rattle.std.specs.Prelude.{All, flat_map}
use Rattle.std.specs.List.{list_all, AllByRecursion}
use Rattle.std.specs.Int.{w16, w32, w64, to_le_bytes}
use Rattle.std.proofs.lemmas.Bool.{and_parts, leb-true}
use Rattle.std.proofs.lemmas.Bool.Decides.{nat_tests}
use Rattle.std.proofs.lemmas.Slice.Eq.{bytes_eq-Decides}
use Rattle.ct_codec.specs.Formats.{flag}
use Rattle.ct_definitions.specs.declared.definition.Seg.{Seg}
use Rattle.ct_definitions.specs.declared.definition.Kind.{Kind}
use Rattle.ct_definitions.specs.declared.definition.Kind.TheVariants.{Fixed, Variable}
use Rattle.ct_definitions.specs.declared.definition.IndexDef.{IndexDef}
use Rattle.ct_definitions.specs.declared.definition.FileDef.{FileDef}
use Rattle.ct_definitions.specs.declared.definition.TheConstants.{LONGEST_NAME, LONGEST_IMAGE, LONGEST_KEY, MOST_INDEXES, MOST_SEGMENTS}
use Rattle.ct_definitions.specs.declared.store.Row.{Row}
use Rattle.ct_definitions.specs.declared.store.File.{File}
use Rattle.ct_definitions.specs.declared.store.TheConstants.{MOST_FILES}
use Rattle.ct_definitions.specs.declared.change.Change.{Change}
use Rattle.ct_definitions.specs.declared.change.Change.TheVariants.{Make, Add, Rewrite, Delete}
use Rattle.ct_definitions.specs.declared.change.Transaction.{Transaction}
use Rattle.ct_definitions.specs.Validity.{is_between, is_name_byte, is_name, is_valid_kind, least_len, is_valid_seg, key_len, is_valid_index, have_own_names, is_valid}
use Rattle.ct_definitions.specs.Room.{has_fitting_len, row_at, image_at, is_image, has_room}
use Rattle.ct_definitions.specs.Changes.{State, allows, passes, has_name, has_taken_key, may_stand}
use Rattle.ct_change_codec.specs.DefinitionFormat.{mode_codec, seg_codec, null_codec, index_codec, kind_codec, definition_codec, IndexLengthsFit, DefinitionLengthsFit}
use Rattle.ct_change_codec.specs.ChangeFormat.{make_codec, add_codec, rewrite_codec, delete_codec, change_codec, LengthsFit}
use Rattle.ct_group.specs.Commit.{changes_text, commit_text, FitsCommit}
use Rattle.ct_model.specs.Fitting.{is_fitting, are_fitting}
use Rattle.ct_yard.specs.Writes.{HasOne}

-- ---- what is joined

parts_most : (a b : List ℕ) (m n : ℕ) → length a ≤ m → length b ≤ n → length (a ++ b) ≤ m + n
parts_most a b m n h k = omega (arith, length-append a b)

-- items one behind the other, each of them short
items_most : {X : Type 0} (text : X → List ℕ) (p : X → Bool) (bound : ℕ → ℕ) (most : ℕ) → ((n : ℕ) → most + bound n ≤ bound (suc n)) → ((x : X) → p x ≡ true → length (text x) ≤ most)
    → (xs : List X) → list_all p xs ≡ true → length (flat_map text xs) ≤ bound (length xs)
items_most text p bound most grows each [] all = let e : length (flat_map text []) ≡ 0 = refl in omega (arith, e)
items_most text p bound most grows each (x ∷ xs) all =
    let both = and_parts (p x) (list_all p xs) all in
    let rest = items_most text p bound most grows each xs both.1 in
    let step : most + bound (length xs) ≤ bound (length (x ∷ xs)) = grows (length xs) in
    let own = each x both.0 in
    omega (arith, own, rest, step, length-append (text x) (flat_map text xs))

-- ---- a definition

between_most : (low high n : ℕ) → is_between low high n ≡ true → n ≤ high
between_most low high n h = leb-true n high (and_parts (nat_le low n) (nat_le n high) h).1

name_most : (name : List ℕ) → is_name name ≡ true → length name ≤ 32
name_most name h = between_most 1 LONGEST_NAME (length name) (and_parts (is_between 1 LONGEST_NAME (length name)) (list_all is_name_byte name) h).0

flag_most : (b : Bool) → length (flag.text b) ≤ 1
flag_most b = let e : length (flag.text b) ≡ 1 = refl in omega (arith, e)

seg_most : (seg : Seg) → length (seg_codec.text seg) ≤ 6
unfolding seg_codec mode_codec
seg_most seg = let e : length (seg_codec.text seg) ≡ 6 = refl in omega (arith, e)

null_most : (null : Option ℕ) → length (null_codec.text null) ≤ 2
unfolding null_codec
null_most None = let e : length (null_codec.text None) ≡ 2 = refl in omega (arith, e)
null_most (Some b) = let e : length (null_codec.text (Some b)) ≡ 2 = refl in omega (arith, e)

kind_most : (kind : Kind) → length (kind_codec.text kind) ≤ 9
unfolding kind_codec
kind_most (Fixed len) = let e : length (kind_codec.text (Fixed len)) ≡ 9 = refl in omega (arith, e)
kind_most (Variable low high) = let e : length (kind_codec.text (Variable low high)) ≡ 9 = refl in omega (arith, e)

record IsSmallIndex (index : IndexDef) : Type 0 where
  name : length index.name ≤ 32
  count : length index.segs ≤ 8

small_index : (least : ℕ) (index : IndexDef) → is_valid_index least index ≡ true → IsSmallIndex index
small_index least index h =
    let first = is_name index.name in
    let second = is_between 1 MOST_SEGMENTS (length index.segs) in
    let third = list_all (is_valid_seg least) index.segs in
    let a = and_parts (first && second && third) (nat_le (key_len index.segs) LONGEST_KEY) h in
    let b = and_parts (first && second) third a.0 in
    let d = and_parts first second b.0 in
    record { name = name_most index.name d.0; count = between_most 1 MOST_SEGMENTS (length index.segs) d.1 }

all_true : {X : Type 0} (xs : List X) → list_all (λ x. true) xs ≡ true
all_true [] = refl
all_true (x ∷ xs) = all_true xs

index_most : (index : IndexDef) → IsSmallIndex index → length (index_codec.text index) ≤ 85
unfolding index_codec
index_most index small =
    let tail = length index.segs ∷ flat_map seg_codec.text index.segs in
    let null = null_codec.text index.null in
    let mark = flag.text (not index.unique) in
    let items : length (flat_map seg_codec.text index.segs) ≤ length index.segs * 6 = items_most seg_codec.text (λ seg. true) (λ n. n * 6) 6 (λ n. omega arith) (λ seg _. seg_most seg) index.segs (all_true index.segs) in
    let tail_most : length tail ≤ 49 = omega (arith, items, small.count) in
    let name : length (length index.name ∷ index.name) ≤ 33 = omega (arith, small.name) in
    parts_most (length index.name ∷ index.name) (mark ++ (null ++ tail)) 33 52 name (parts_most mark (null ++ tail) 1 51 (flag_most (not index.unique)) (parts_most null tail 2 49 (null_most index.null) tail_most))

record IsSmall (def : FileDef) : Type 0 where
  name : length def.name ≤ 32
  kind : is_valid_kind def.kind ≡ true
  count : length def.indexes ≤ 8
  indexes : list_all (is_valid_index (least_len def.kind)) def.indexes ≡ true

small : (def : FileDef) → is_valid def ≡ true → IsSmall def
small def h =
    let first = is_name def.name in
    let second = is_valid_kind def.kind in
    let third = is_between 1 MOST_INDEXES (length def.indexes) in
    let fourth = list_all (is_valid_index (least_len def.kind)) def.indexes in
    let a = and_parts (first && second && third && fourth) (have_own_names def.indexes) h in
    let b = and_parts (first && second && third) fourth a.0 in
    let d = and_parts (first && second) third b.0 in
    let e = and_parts first second d.0 in
    record { name = name_most def.name e.0; kind = e.1; count = between_most 1 MOST_INDEXES (length def.indexes) d.1; indexes = b.1 }

definition_most : (def : FileDef) → IsSmall def → length (definition_codec.text def) ≤ 723
unfolding definition_codec
definition_most def small =
    let tail = length def.indexes ∷ flat_map index_codec.text def.indexes in
    let kind = kind_codec.text def.kind in
    let items : length (flat_map index_codec.text def.indexes) ≤ length def.indexes * 85 =
    items_most index_codec.text (is_valid_index (least_len def.kind)) (λ n. n * 85) 85 (λ n. omega arith) (λ index valid. index_most index (small_index (least_len def.kind) index valid)) def.indexes small.indexes in
    let tail_most : length tail ≤ 681 = omega (arith, items, small.count) in
    let name : length (length def.name ∷ def.name) ≤ 33 = omega (arith, small.name) in
    parts_most (length def.name ∷ def.name) (kind ++ tail) 33 690 name (parts_most kind tail 9 681 (kind_most def.kind) tail_most)

index_fits : (index : IndexDef) → IsSmallIndex index → IndexLengthsFit index
index_fits index small = (omega (arith, small.name), omega (arith, small.count))

indexes_fit : (least : ℕ) (indexes : List IndexDef) → list_all (is_valid_index least) indexes ≡ true → All IndexLengthsFit indexes
indexes_fit least [] all = λ k d within. absurd (omega arith)
indexes_fit least (index ∷ indexes) all =
    let both = and_parts (is_valid_index least index) (list_all (is_valid_index least) indexes) all in
    one_more (index_fits index (small_index least index both.0)) (indexes_fit least indexes both.1)
  where
    one_more : IndexLengthsFit index → All IndexLengthsFit indexes → (k : ℕ) (d : IndexDef) → k < length (index ∷ indexes) → IndexLengthsFit (slice_index_or (index ∷ indexes) k d)
    one_more own rest zero d within = own
    one_more own rest (suc k) d within = rest k d (omega arith)

definition_fits : (def : FileDef) → IsSmall def → DefinitionLengthsFit def
definition_fits def small = record { name = omega (arith, small.name); count = omega (arith, small.count); indexes = indexes_fit (least_len def.kind) def.indexes small.indexes }

-- ---- an image

image_most : (kind : Kind) (len : ℕ) → is_valid_kind kind ≡ true → has_fitting_len kind len ≡ true → len ≤ 3840
image_most (Fixed fixed) len valid fits =
    let high = between_most 1 LONGEST_IMAGE fixed valid in
    let same : len ≡ fixed = grind (arith, nat_tests) in
    omega (arith, high, same)
image_most (Variable low high) len valid fits =
    let top = leb-true high LONGEST_IMAGE (and_parts (nat_le 1 low && nat_le low high) (nat_le high LONGEST_IMAGE) valid).1 in
    let own = leb-true len high (and_parts (nat_le low len) (nat_le len high) fits).1 in
    omega (arith, top, own)

record Passes (found : Option File) (test : File → Bool) : Type 0 where
  file : File
  is : found ≡ Some file
  passed : test file ≡ true

passing : (found : Option File) (test : File → Bool) → passes found test ≡ true → Passes found test
passing None test h = let none : ⊥ = cc h in absurd none
passing (Some file) test h = record { file = file; is = refl; passed = h }

fitting_at : (state : State) (place : ℕ) (file : File) → are_fitting state ≡ true → slice_get state place ≡ Some file → is_fitting file ≡ true
fitting_at [] place file all is = let none : ⊥ = cc is in absurd none
fitting_at (f ∷ state) zero file all is =
    let own = (and_parts (is_fitting f) (are_fitting state) all).0 in
    let same : f ≡ file = cc is in
    subst (λ x. is_fitting x ≡ true) same own
fitting_at (f ∷ state) (suc place) file all is = fitting_at state place file (and_parts (is_fitting f) (are_fitting state) all).1 is

record IsFit (file : File) : Type 0 where
  valid : is_valid_kind file.def.kind ≡ true
  images : list_all (λ row. has_fitting_len file.def.kind (length row.image)) file.records ≡ true

fit : (file : File) → is_fitting file ≡ true → IsFit file
fit file h =
    let both = and_parts (is_valid file.def) (list_all (λ row. has_fitting_len file.def.kind (length row.image)) file.records) h in
    let def = small file.def both.0 in
    record { valid = def.kind; images = both.1 }

-- an image that is there has a length of its file
image_fits : (kind : Kind) (num : ℕ) (old : List ℕ) (rows : List Row) → list_all (λ row. has_fitting_len kind (length row.image)) rows ≡ true → is_image old (image_at num rows) ≡ true → has_fitting_len kind (length old) ≡ true
image_fits kind num old [] all h = let none : ⊥ = cc h in absurd none
image_fits kind num old (row ∷ rows) all h =
    let both = and_parts (has_fitting_len kind (length row.image)) (list_all (λ row. has_fitting_len kind (length row.image)) rows) all in
    here (row.num == num) (row_at num rows) both.0 (image_fits kind num old rows both.1) h
  where
    here : (b : Bool) (found : Option Row) → has_fitting_len kind (length row.image) ≡ true → (is_image old (option_map (λ row. row.image) found) ≡ true → has_fitting_len kind (length old) ≡ true)
        → is_image old (option_map (λ row. row.image) (cond b (Some row) found)) ≡ true → has_fitting_len kind (length old) ≡ true
    here true found own rest h = subst (λ l. has_fitting_len kind (length l) ≡ true) ((bytes_eq-Decides row.image old).0 h) own
    here false found own rest h = rest h

new_most : (file : File) (num : ℕ) (new : List ℕ) → IsFit file → may_stand file num new ≡ true → length new ≤ 3840
new_most file num new is h =
    let length_fits = has_fitting_len file.def.kind (length new) in
    let free = not (has_taken_key file num new) in
    let a = and_parts (length_fits && free) (has_room num new file.records) h in
    let b = and_parts length_fits free a.0 in
    image_most file.def.kind (length new) is.valid b.0

old_most : (file : File) (num : ℕ) (old : List ℕ) → IsFit file → is_image old (image_at num file.records) ≡ true → length old ≤ 3840
old_most file num old is h = image_most file.def.kind (length old) is.valid (image_fits file.def.kind num old file.records is.images h)

-- ---- a change

record IsShort (change : Change) : Type 0 where
  fits : LengthsFit change
  most : length (change_codec.text change) ≤ 7699

make_short : (file : ℕ) (def : FileDef) → IsSmall def → IsShort (Make file def)
unfolding change_codec make_codec
make_short file def small = record {
  fits = definition_fits def small;
  most = let body = definition_codec.text def in
      let head : length (1 ∷ to_le_bytes w16 file) ≡ 3 = refl in
      let whole : length ((1 ∷ to_le_bytes w16 file) ++ body) ≤ 3 + 723 = parts_most (1 ∷ to_le_bytes w16 file) body 3 723 (omega (arith, head)) (definition_most def small) in
      let most : length ((1 ∷ to_le_bytes w16 file) ++ body) ≤ 7699 = omega (arith, whole) in
      most;
}

add_short : (file num : ℕ) (new : List ℕ) → length new ≤ 3840 → IsShort (Add file num new)
unfolding change_codec add_codec
add_short file num new h = record {
  fits = omega (arith, h);
  most = let first = 2 ∷ (to_le_bytes w16 file ++ (to_le_bytes w64 num ++ to_le_bytes w32 (length new))) in
      let head : length first ≡ 15 = refl in
      let most : length (first ++ new) ≤ 7699 = omega (arith, head, h, length-append first new) in
      most;
}

delete_short : (file num : ℕ) (old : List ℕ) → length old ≤ 3840 → IsShort (Delete file num old)
unfolding change_codec delete_codec
delete_short file num old h = record {
  fits = omega (arith, h);
  most = let first = 4 ∷ (to_le_bytes w16 file ++ (to_le_bytes w64 num ++ to_le_bytes w32 (length old))) in
      let head : length first ≡ 15 = refl in
      let most : length (first ++ old) ≤ 7699 = omega (arith, head, h, length-append first old) in
      most;
}

rewrite_short : (file num : ℕ) (old new : List ℕ) → length old ≤ 3840 → length new ≤ 3840 → IsShort (Rewrite file num old new)
unfolding change_codec rewrite_codec
rewrite_short file num old new h k = record {
  fits = (omega (arith, h), omega (arith, k));
  most = let first = 3 ∷ (to_le_bytes w16 file ++ (to_le_bytes w64 num ++ to_le_bytes w32 (length old))) in
      let second = to_le_bytes w32 (length new) in
      let head : length first ≡ 15 = refl in
      let field : length second ≡ 4 = refl in
      let most : length (first ++ (old ++ (second ++ new))) ≤ 7699 = omega (arith, head, field, h, k, length-append first (old ++ (second ++ new)), length-append old (second ++ new), length-append second new) in
      most;
}

change_short : (state : State) (change : Change) → are_fitting state ≡ true → allows state change ≡ true → IsShort change
change_short state (Make file def) all h =
    let a = and_parts (file == length state && nat_lt file MOST_FILES && is_valid def) (not (has_name state def.name)) h in
    let b = and_parts (file == length state && nat_lt file MOST_FILES) (is_valid def) a.0 in
    make_short file def (small def b.1)
change_short state (Add file num new) all h =
    let p = passing (slice_get state file) (λ f. nat_le 1 num && is_none (image_at num f.records) && may_stand f num new) h in
    let is = fit p.file (fitting_at state file p.file all p.is) in
    add_short file num new (new_most p.file num new is (and_parts (nat_le 1 num && is_none (image_at num p.file.records)) (may_stand p.file num new) p.passed).1)
change_short state (Rewrite file num old new) all h =
    let p = passing (slice_get state file) (λ f. is_image old (image_at num f.records) && may_stand f num new) h in
    let is = fit p.file (fitting_at state file p.file all p.is) in
    let both = and_parts (is_image old (image_at num p.file.records)) (may_stand p.file num new) p.passed in
    rewrite_short file num old new (old_most p.file num old is both.0) (new_most p.file num new is both.1)
change_short state (Delete file num old) all h =
    let p = passing (slice_get state file) (λ f. is_image old (image_at num f.records)) h in
    let is = fit p.file (fitting_at state file p.file all p.is) in
    delete_short file num old (old_most p.file num old is p.passed)

-- ---- a group

text_of_one : (t : Transaction) (change : Change) → t.changes ≡ change ∷ [] → length (changes_text t.changes) ≡ length (change_codec.text change)
text_of_one t change one = ap (λ changes. length (changes_text changes)) one ∙ (let e = length-append (change_codec.text change) [] in omega (arith, e))

pub one_fits : (state : State) (t : Transaction) → are_fitting state ≡ true → HasOne state t → FitsCommit t
one_fits state t all one =
    let short = change_short state one.change all one.allowed in
    let e = text_of_one t one.change one.changes in
    let n : length t.changes ≡ 1 = ap (λ (changes : List Change). length changes) one.changes in
    record {
      lengths = subst (λ changes. AllByRecursion LengthsFit changes) (sym one.changes) (short.fits, tt);
      few = omega (arith, n);
      short = omega (arith, e, short.most);
    }

length-commit_text : (t : Transaction) → length (commit_text t) ≡ 20 + length (changes_text t.changes)
unfolding commit_text
length-commit_text t = omega arith

pub one_some : (t : Transaction) → 0 < length (commit_text t)
one_some t = omega (arith, length-commit_text t)

pub one_short : (state : State) (t : Transaction) → are_fitting state ≡ true → HasOne state t → length (commit_text t) ≤ 8000
one_short state t all one =
    let short = change_short state one.change all one.allowed in
    omega (arith, length-commit_text t, text_of_one t one.change one.changes, short.most)
