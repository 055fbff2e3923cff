-- Numbers that are too great for a definition make it not valid, and why a file is not made.
use Rattle.std.proofs.Common.{◌≡◌, ◌⊎◌, ℕ, zero, suc, ◌+◌, ◌<◌, ◌≤◌, List, [], ◌∷◌, length, map, get_or, Bool, true, false, not, ◌&&◌, Some, None, if◌then◌else◌, refl, inl, inr, leb, ltb, arith}
use Rattle.std.specs.List.{list_all}
use Rattle.std.proofs.lemmas.Bool.{lt-leb, lt-ltb, le-ltb, eq-eqb, and_left, and_right, cases_Bool}
use Rattle.std.proofs.lemmas.Bool.Decides.{nat_tests}
use Rattle.ct_definitions.specs.declared.definition.FileDef.{FileDef}
use Rattle.ct_definitions.specs.declared.definition.IndexDef.{IndexDef}
use Rattle.ct_definitions.specs.declared.definition.Kind.{Kind}
use Rattle.ct_definitions.specs.declared.definition.Kind.TheVariants.{Fixed, Variable}
use Rattle.ct_definitions.specs.declared.definition.Seg.{Seg}
use Rattle.ct_definitions.specs.declared.definition.TheConstants.{LONGEST_IMAGE}
use Rattle.ct_definitions.specs.declared.store.TheConstants.{MOST_FILES}
use Rattle.ct_definitions.specs.declared.change.Change.TheVariants.{Make}
use Rattle.ct_definitions.specs.Changes.{State, allows, has_name}
use Rattle.ct_definitions.specs.Validity.{is_valid, is_valid_kind, is_valid_seg, is_valid_index, least_len, takes_len}
use Rattle.ct_isam.specs.declared.creating.Undescribed.{Undescribed}
use Rattle.ct_isam.specs.declared.creating.Undescribed.TheVariants.{TooGreat, Memory}
use Rattle.ct_isam.specs.Making.{IfTooGreat}
use Rattle.ct_isam.specs.Calls.{create_refusal}
use Rattle.ct_isam.specs.Replies.{exists, bad_def, file_full}

-- one that is not valid makes a list not valid
pub not_all : {X Y : Type 0} (f : X → Y) (p : Y → Bool) (xs : List X) (i : ℕ) (d : X) → i < length xs → p (f (get_or xs i d)) ≡ false → list_all p (map f xs) ≡ false
not_all f p [] i d within fails = absurd (omega arith)
not_all f p (x ∷ xs) zero d within fails = and_left (p (f x)) (list_all p (map f xs)) fails
not_all f p (x ∷ xs) (suc i) d within fails = and_right (p (f x)) (list_all p (map f xs)) (not_all f p xs i d (omega arith) fails)

-- what follows where a number is too great
pub too_great_by : (why : Undescribed) (A B : Type 0) → (A → B) → IfTooGreat why A → IfTooGreat why B
too_great_by TooGreat A B more h = more h
too_great_by Memory A B more h = tt

-- ---- why a file is not made

pub there : (state : State) (def : FileDef) → has_name state def.name ≡ true → create_refusal state def ≡ Some exists
there state def named = rw named refl

pub full : (state : State) (def : FileDef) → has_name state def.name ≡ false → is_valid def ≡ true → MOST_FILES ≤ length state → create_refusal state def ≡ Some file_full
full state def named valid many = rw (named, valid, le-ltb (length state) MOST_FILES many) refl

pub new : (state : State) (def : FileDef) → has_name state def.name ≡ false → is_valid def ≡ true → length state < MOST_FILES → create_refusal state def ≡ None
new state def named valid few = rw (named, valid, lt-ltb (length state) MOST_FILES few) refl

by_tests : (named valid few : Bool) → (if named then Some exists else (if not valid then Some bad_def else (if few then None else Some file_full))) ≡ None → (named ≡ false) × (valid ≡ true) × (few ≡ true)
by_tests true valid few none = absurd (cc)
by_tests false false few none = absurd (cc)
by_tests false true false none = absurd (cc)
by_tests false true true none = (refl, refl, refl)

-- what is known where nothing refuses
pub may_make : (state : State) (def : FileDef) → create_refusal state def ≡ None → (has_name state def.name ≡ false) × (is_valid def ≡ true) × (ltb (length state) MOST_FILES ≡ true)
may_make state def none = by_tests (has_name state def.name) (is_valid def) (ltb (length state) MOST_FILES) none

pub allows_make : (state : State) (def : FileDef) → create_refusal state def ≡ None → allows state (Make (length state) def) ≡ true
allows_make state def none =
    let parts = may_make state def none in
    rw (eq-eqb (length state) (length state) refl, parts.2, parts.1, parts.0) refl
