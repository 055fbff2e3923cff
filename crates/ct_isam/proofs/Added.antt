-- Why a record is refused, and duplicates under a number that no record has.
use Rattle.std.proofs.Common.{◌≡◌, ℕ, ◌<◌, ◌≤◌, List, [], ◌∷◌, length, Bool, true, false, not, cond, ◌&&◌, ◌||◌, Option, Some, None, is_none, refl, sym, ap, subst, ◌∙◌, eqb, find, option_map, slice_get, arith}
use Rattle.std.specs.List.{list_any}
use Rattle.std.proofs.lemmas.Bool.{and_parts}
use Rattle.std.proofs.lemmas.Bool.Decides.{nat_tests}
use Rattle.std.proofs.lemmas.Option.{slice_get_within}
use Rattle.ct_definitions.specs.declared.definition.IndexDef.{IndexDef}
use Rattle.ct_definitions.specs.declared.definition.Kind.{Kind}
use Rattle.ct_definitions.specs.declared.definition.Kind.TheVariants.{Fixed, Variable}
use Rattle.ct_definitions.specs.declared.definition.TheConstants.{LONGEST_IMAGE}
use Rattle.ct_definitions.specs.Validity.{is_valid_kind}
use Rattle.ct_model.specs.Fitting.{is_fitting, takes_len_in}
use Rattle.ct_model.specs.Free.{IsFree}
use Rattle.ct_model.specs.Stored.{records_at, records_in}
use Rattle.ct_definitions.specs.declared.store.Row.{Row}
use Rattle.ct_definitions.specs.declared.store.File.{File}
use Rattle.ct_definitions.specs.Keys.{key_of}
use Rattle.ct_definitions.specs.Room.{image_at, has_fitting_len}
use Rattle.ct_definitions.specs.Changes.{State, is_same_key, is_taken_in, has_taken_key, passes}
use Rattle.ct_isam.specs.Calls.{is_key_in, is_duplicate, add_refusal}
use Rattle.ct_isam.specs.Replies.{bad_len, kdup_err}

no_row_by : (b : Bool) (row : Row) (P : Row → Bool) (rest all : Bool) (found : Option Row)
    → is_none (option_map (λ (r : Row). r.image) (cond b (Some row) found)) ≡ true
    → (is_none (option_map (λ (r : Row). r.image) found) ≡ true → rest ≡ all)
    → ((not b && P row) || rest) ≡ (P row || all)
no_row_by true row P rest all found none more = absurd (cc)
no_row_by false row P rest all found none more = ap (λ (r : Bool). P row || r) (more none)

-- where no record has the number, each is another
no_row : (num : ℕ) (rows : List Row) (P : Row → Bool) → is_none (image_at num rows) ≡ true
    → list_any (λ row. not (eqb row.num num) && P row) rows ≡ list_any P rows
no_row num [] P none = refl
no_row num (row ∷ rows) P none =
    no_row_by (eqb row.num num) row P (list_any (λ r. not (eqb r.num num) && P r) rows) (list_any P rows) (find (λ r. eqb r.num num) rows) none (no_row num rows P)

taken_in : (num : ℕ) (image : List ℕ) (rows : List Row) (indexes : List IndexDef) → is_none (image_at num rows) ≡ true
    → list_any (is_taken_in num image rows) indexes ≡ list_any (is_key_in rows image) indexes
taken_in num image rows [] none = refl
taken_in num image rows (index ∷ indexes) none =
    ap (λ (b : Bool). (index.unique && b) || list_any (is_taken_in num image rows) indexes) (no_row num rows (λ row. is_same_key (key_of index image) (key_of index row.image)) none)
    ∙ ap (λ (b : Bool). is_key_in rows image index || b) (taken_in num image rows indexes none)

-- under a number that no record has, a taken key is a duplicate
pub taken_is_duplicate : (file : File) (num : ℕ) (image : List ℕ) → is_none (image_at num file.records) ≡ true → has_taken_key file num image ≡ is_duplicate image file
taken_is_duplicate file num image none = taken_in num image file.records file.def.indexes none

-- the three answers
pub fine : (image : List ℕ) (file : File) → has_fitting_len file.def.kind (length image) ≡ true → is_duplicate image file ≡ false → add_refusal image file ≡ None
fine image file fits fresh = rw (fits, fresh) refl

pub duplicate : (image : List ℕ) (file : File) → has_fitting_len file.def.kind (length image) ≡ true → is_duplicate image file ≡ true → add_refusal image file ≡ Some kdup_err
duplicate image file fits there = rw (fits, there) refl

-- ---- a file of the state

-- the file is one of the state's
pub there : (state : State) (f : ℕ) (file : File) → slice_get state f ≡ Some file → f < length state
there state f file at = slice_get_within state f file at

-- its images may have the length
pub takes : (state : State) (f : ℕ) (file : File) (len : ℕ) → slice_get state f ≡ Some file → has_fitting_len file.def.kind len ≡ true → takes_len_in (slice_get state f) len ≡ true
takes state f file len at fits = ap (λ (o : Option File). takes_len_in o len) at ∙ fits

-- a number that is free there
pub free_there : (state : State) (f : ℕ) (file : File) (num len : ℕ) → slice_get state f ≡ Some file → IsFree num len (records_at state f) → IsFree num len file.records
free_there state f file num len at free = subst (λ (o : Option File). IsFree num len (records_in o)) at free

-- a key that is taken there
pub taken_there : (state : State) (f : ℕ) (file : File) (num : ℕ) (image : List ℕ) (taken : Bool) → slice_get state f ≡ Some file → taken ≡ passes (slice_get state f) (λ g. has_taken_key g num image) → has_taken_key file num image ≡ taken
taken_there state f file num image taken at is = sym (is ∙ ap (λ (o : Option File). passes o (λ g. has_taken_key g num image)) at)
