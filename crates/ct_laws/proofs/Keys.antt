-- Records that have the same key in a unique index, seen as a relation between two records.
use Rattle.std.proofs.Common.{◌↔◌, zero, suc, Contains, true≢false, subst, ◌≡◌, ℕ, Bool, true, false, not, ◌&&◌, ◌||◌, ◌==◌, List, [], ◌∷◌, Option, Some, None, refl, sym, ap, ap₂, ◌∙◌, arith}
use Rattle.std.specs.List.{list_all, list_any}
use Rattle.std.specs.Cmp.Lexicographic.{bytes_decides}
use Rattle.std.proofs.lemmas.Bool.{and_parts, and_from, eqb-true, eq-eqb}
use Rattle.std.proofs.lemmas.List.Elements.{Contains-append_right}
use Rattle.std.proofs.lemmas.Bool.Decides.{nat_tests}
use Rattle.std.proofs.lemmas.Cmp.{nat_eq_equiv, nat_list_eq_equiv}
use Rattle.ct_definitions.specs.declared.definition.IndexDef.{IndexDef}
use Rattle.ct_definitions.specs.declared.store.Row.{Row}
use Rattle.ct_definitions.specs.declared.store.File.{File}
use Rattle.ct_definitions.specs.Keys.{key_of}
use Rattle.ct_definitions.specs.Changes.{is_same_key, has_key_of, is_taken_in, has_taken_key}
use Rattle.ct_laws.specs.Allowed.{HasKeysOnce}
use Rattle.ct_laws.proofs.Tests.{not-list_any, list_any-or, list_any_same, list_all_from}

-- whether two records of different numbers have the same key in a unique index
abbrev pub collide : List IndexDef → Row → Row → Bool
collide indexes a b = list_any (λ index. index.unique && has_key_of index a.num a.image b) indexes

-- whether no two of the records do
abbrev pub are_apart : List IndexDef → List Row → Bool
are_apart indexes rows = list_all (λ a. list_all (λ b. not (collide indexes a b)) rows) rows

pub is_same_key_comm : (a b : Option (List ℕ)) → is_same_key a b ≡ is_same_key b a
is_same_key_comm None None = refl
is_same_key_comm None (Some b) = refl
is_same_key_comm (Some a) None = refl
is_same_key_comm (Some a) (Some b) = nat_list_eq_equiv.symm a b

pub has_key_of_comm : (index : IndexDef) (a b : Row) → has_key_of index a.num a.image b ≡ has_key_of index b.num b.image a
has_key_of_comm index a b = ap₂ (λ x y. not x && y) (nat_eq_equiv.symm b.num a.num) (is_same_key_comm (key_of index a.image) (key_of index b.image))

pub collide_comm : (indexes : List IndexDef) (a b : Row) → collide indexes a b ≡ collide indexes b a
collide_comm indexes a b = list_any_same (λ index. index.unique && has_key_of index a.num a.image b) (λ index. index.unique && has_key_of index b.num b.image a) (λ index. ap (λ x. index.unique && x) (has_key_of_comm index a b)) indexes

-- a record does not collide with one of its own number
pub collide_own : (indexes : List IndexDef) (a b : Row) → a.num ≡ b.num → collide indexes a b ≡ false
collide_own [] a b h = refl
collide_own (index ∷ indexes) a b h = grind (arith, nat_tests, collide_own indexes a b)

taken_by_none : (indexes : List IndexDef) (num : ℕ) (image : List ℕ) → list_any (is_taken_in num image []) indexes ≡ false
taken_by_none [] num image = refl
taken_by_none (index ∷ indexes) num image = grind (arith, taken_by_none indexes num image)

parts_of_or : (unique one rest : Bool) → (unique && (one || rest)) ≡ ((unique && one) || (unique && rest))
parts_of_or true one rest = refl
parts_of_or false one rest = refl

pub taken_by_any : (indexes : List IndexDef) (new : Row) (rows : List Row) → list_any (is_taken_in new.num new.image rows) indexes ≡ list_any (collide indexes new) rows
taken_by_any indexes new [] = taken_by_none indexes new.num new.image
taken_by_any indexes new (row ∷ rows) =
    list_any-or (λ index. index.unique && has_key_of index new.num new.image row) (is_taken_in new.num new.image rows) (is_taken_in new.num new.image (row ∷ rows)) (λ index. parts_of_or index.unique (has_key_of index new.num new.image row) (list_any (has_key_of index new.num new.image) rows)) indexes
    ∙ ap (λ x. collide indexes new row || x) (taken_by_any indexes new rows)

-- no key of the record is taken where it collides with no record
pub not-has_taken_key : (file : File) (new : Row) → not (has_taken_key file new.num new.image) ≡ list_all (λ b. not (collide file.def.indexes new b)) file.records
not-has_taken_key file new = ap not (taken_by_any file.def.indexes new file.records) ∙ not-list_any (collide file.def.indexes new) file.records

list_all_same : {X : Type 0} (p q : X → Bool) → ((x : X) → p x ≡ q x) → (xs : List X) → list_all p xs ≡ list_all q xs
list_all_same p q h [] = refl
list_all_same p q h (x ∷ xs) = ap₂ (λ a b. a && b) (h x) (list_all_same p q h xs)

pub are_apart_own_keys : (file : File) → list_all (λ row. not (has_taken_key file row.num row.image)) file.records ≡ are_apart file.def.indexes file.records
are_apart_own_keys file = list_all_same (λ row. not (has_taken_key file row.num row.image)) (λ a. list_all (λ b. not (collide file.def.indexes a b)) file.records) (λ row. not-has_taken_key file row) file.records

-- records stay apart where what holds of a new record and of each old one holds of each afterwards
pub are_apart_kept : (indexes : List IndexDef) (new : Row) (old rows : List Row) → ((p : Row → Bool) → p new ≡ true → list_all p old ≡ true → list_all p rows ≡ true) → are_apart indexes old ≡ true → list_all (λ b. not (collide indexes new b)) old ≡ true → are_apart indexes rows ≡ true
are_apart_kept indexes new old rows kept apart free =
    kept (λ a. list_all (λ b. not (collide indexes a b)) rows)
    (kept (λ b. not (collide indexes new b)) (ap not (collide_own indexes new new refl)) free)
    (list_all_from (λ a. not (collide indexes new a)) (λ a. list_all (λ b. not (collide indexes a b)) old) (λ a. list_all (λ b. not (collide indexes a b)) rows) (λ a h k. kept (λ b. not (collide indexes a b)) (ap not (collide_comm indexes a new) ∙ h) k) old free apart)

-- the same where no record is new
pub are_apart_fewer : (indexes : List IndexDef) (old rows : List Row) → ((p : Row → Bool) → list_all p old ≡ true → list_all p rows ≡ true) → are_apart indexes old ≡ true → are_apart indexes rows ≡ true
are_apart_fewer indexes old rows kept apart =
    kept (λ a. list_all (λ b. not (collide indexes a b)) rows)
    (list_all_from (λ a. list_all (λ b. not (collide indexes a b)) old) (λ a. list_all (λ b. not (collide indexes a b)) old) (λ a. list_all (λ b. not (collide indexes a b)) rows) (λ a h k. kept (λ b. not (collide indexes a b)) k) old apart apart)

-- ---- in plain words

-- a test of each element, by the elements that a list contains
list_all-Contains : {X : Type 0} (p : X → Bool) (xs : List X) → list_all p xs ≡ true → (x : X) → Contains xs x → p x ≡ true
list_all-Contains p [] h x in' = absurd (omega (arith, in'.1))
list_all-Contains p (y ∷ xs) h x (zero, l, e) = subst (λ z. p z ≡ true) e (and_parts (p y) (list_all p xs) h).0
list_all-Contains p (y ∷ xs) h x (suc k, l, e) = list_all-Contains p xs (and_parts (p y) (list_all p xs) h).1 x (k, omega arith, e)

list_all-from_Contains : {X : Type 0} (p : X → Bool) (xs : List X) → ((x : X) → Contains xs x → p x ≡ true) → list_all p xs ≡ true
list_all-from_Contains p [] h = refl
list_all-from_Contains p (y ∷ xs) h = and_from (p y) (list_all p xs) (h y (0, omega arith, refl)) (list_all-from_Contains p xs (λ x in'. h x (Contains-append_right (y ∷ []) xs x in')))

is_same_key_from : (a b : Option (List ℕ)) → is_same_key a b ≡ true → (key : List ℕ) × (a ≡ Some key) × (b ≡ Some key)
is_same_key_from None b h = absurd (true≢false (sym h))
is_same_key_from (Some a) None h = absurd (true≢false (sym h))
is_same_key_from (Some a) (Some b) h = (a, refl, ap Some (sym ((bytes_decides a b).0 h)))

is_same_key_at : (a b : Option (List ℕ)) (key : List ℕ) → a ≡ Some key → b ≡ Some key → is_same_key a b ≡ true
is_same_key_at a b key e f = ap₂ is_same_key e f ∙ (bytes_decides key key).1 refl

same_num_from : (unique same_num same_key : Bool) → not (unique && (not same_num && same_key)) ≡ true → unique ≡ true → same_key ≡ true → same_num ≡ true
same_num_from true true same_key h u k = refl
same_num_from true false true h u k = h
same_num_from true false false h u k = k
same_num_from false true same_key h u k = refl
same_num_from false false same_key h u k = u

none_from : (unique same_num same_key : Bool) → (unique ≡ true → same_key ≡ true → same_num ≡ true) → not (unique && (not same_num && same_key)) ≡ true
none_from true true same_key h = refl
none_from true false true h = h refl refl
none_from true false false h = refl
none_from false same_num same_key h = refl

pub HasKeysOnce-from : (file : File) → are_apart file.def.indexes file.records ≡ true → HasKeysOnce file
HasKeysOnce-from file h = λ index a b key in_indexes unique in_a in_b is_a is_b.
    let indexes = file.def.indexes in
    let for_a = list_all-Contains (λ a. list_all (λ b. not (collide indexes a b)) file.records) file.records h a in_a in
    let for_b = list_all-Contains (λ b. not (collide indexes a b)) file.records for_a b in_b in
    let p : IndexDef → Bool = λ index. index.unique && has_key_of index a.num a.image b in
    let for_index = list_all-Contains (λ index. not (p index)) indexes (sym (not-list_any p indexes) ∙ for_b) index in_indexes in
    let same = same_num_from index.unique (b.num == a.num) (is_same_key (key_of index a.image) (key_of index b.image)) for_index unique (is_same_key_at (key_of index a.image) (key_of index b.image) key is_a is_b) in
    sym (eqb-true b.num a.num same)

pub apart_from_HasKeysOnce : (file : File) → HasKeysOnce file → are_apart file.def.indexes file.records ≡ true
apart_from_HasKeysOnce file h =
    let indexes = file.def.indexes in
    list_all-from_Contains (λ a. list_all (λ b. not (collide indexes a b)) file.records) file.records
    (λ a in_a. list_all-from_Contains (λ b. not (collide indexes a b)) file.records
    (λ b in_b.
    let p : IndexDef → Bool = λ index. index.unique && has_key_of index a.num a.image b in
    not-list_any p indexes
    ∙ list_all-from_Contains (λ index. not (p index)) indexes
    (λ index in_indexes. none_from index.unique (b.num == a.num) (is_same_key (key_of index a.image) (key_of index b.image))
    (λ unique same.
    let k = is_same_key_from (key_of index a.image) (key_of index b.image) same in
    eq-eqb b.num a.num (sym (h index a b k.0 in_indexes unique in_a in_b k.1 k.2))))))

-- the test of each record, in plain words
pub own_keys_once : (file : File) → (list_all (λ row. not (has_taken_key file row.num row.image)) file.records ≡ true) ↔ HasKeysOnce file
own_keys_once file = (λ h. HasKeysOnce-from file (sym (are_apart_own_keys file) ∙ h), λ h. are_apart_own_keys file ∙ apart_from_HasKeysOnce file h)
