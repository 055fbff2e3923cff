-- A record that a search finds is no longer than a record may be.
use Rattle.std.proofs.Common.{◌≡◌, ℕ, zero, suc, ◌≤◌, List, [], ◌∷◌, length, Bool, true, false, ◌&&◌, Option, Some, None, refl, sym, ap, ◌∙◌, arith, slice_get, leb}
use Rattle.std.proofs.lemmas.Bool.{leb-true, eqb-true}
use Rattle.ct_definitions.specs.declared.definition.Kind.{Kind}
use Rattle.ct_definitions.specs.declared.definition.Kind.TheVariants.{Fixed, Variable}
use Rattle.ct_definitions.specs.declared.definition.IndexDef.{IndexDef}
use Rattle.ct_definitions.specs.declared.definition.TheConstants.{LONGEST_IMAGE}
use Rattle.ct_definitions.specs.declared.store.Row.{Row}
use Rattle.ct_definitions.specs.declared.store.File.{File}
use Rattle.ct_definitions.specs.Validity.{is_valid, is_valid_kind}
use Rattle.ct_definitions.specs.Room.{has_fitting_len, row_at}
use Rattle.ct_definitions.specs.Changes.{State}
use Rattle.ct_definitions.specs.Pairs.{Pair, pairs_of}
use Rattle.ct_laws.proofs.Rows.{list_all-row_at}
use Rattle.ct_model.specs.Fitting.{is_fitting, are_fitting}
use Rattle.ct_line.specs.declared.call.Search.{Search}
use Rattle.ct_isam.specs.declared.session.Seat.{Seat}
use Rattle.ct_isam.specs.Replies.{no_file, no_index}
use Rattle.ct_isam.specs.Searches.{Outcome, refused, finds, Finder, row_of, found_row, outcome_of, walk_by, search_by, key_finder, seat_for, at_item, at_place, file_named, index_named, in_index}
use Rattle.ct_session.specs.Replies.{IsShort}

pub and_first : (a b : Bool) → (a && b) ≡ true → a ≡ true
and_first true b both = refl
and_first false b both = both

pub and_second : (a b : Bool) → (a && b) ≡ true → b ≡ true
and_second true b both = both
and_second false b both = absurd (cc)

-- a length that a valid kind allows
kind_short : (kind : Kind) (len : ℕ) → is_valid_kind kind ≡ true → has_fitting_len kind len ≡ true → len ≤ LONGEST_IMAGE
kind_short (Fixed fixed) len valid fits =
    let same : len ≡ fixed = eqb-true len fixed fits in
    let most : fixed ≤ LONGEST_IMAGE = leb-true fixed LONGEST_IMAGE (and_second (leb 1 fixed) (leb fixed LONGEST_IMAGE) valid) in
    omega arith
kind_short (Variable min max) len valid fits =
    let most : max ≤ LONGEST_IMAGE = leb-true max LONGEST_IMAGE (and_second (leb 1 min && leb min max) (leb max LONGEST_IMAGE) valid) in
    let within : len ≤ max = leb-true len max (and_second (leb min len) (leb len max) fits) in
    omega arith

-- a record of a fitting file
row_short : (file : File) (num : ℕ) (row : Row) → is_fitting file ≡ true → row_at num file.records ≡ Some row → length row.image ≤ LONGEST_IMAGE
row_short file num row fitting at =
    let valid : is_valid file.def ≡ true = and_first _ _ fitting in
    kind_short file.def.kind (length row.image) (and_second _ _ (and_first _ _ (and_first _ _ (and_first _ _ valid))))
    (list_all-row_at (λ r. has_fitting_len file.def.kind (length r.image)) num row file.records (and_second _ _ fitting) at)

-- a refusal has no image, and a record that is found is short
abbrev pub ComesShort : Outcome → Type 0
ComesShort (refused reply) = IsShort reply
ComesShort (finds row seat) = length row.image ≤ LONGEST_IMAGE

outcome_short : (found : Option Row) (seat : Seat) → ((row : Row) → found ≡ Some row → length row.image ≤ LONGEST_IMAGE) → ComesShort (outcome_of found seat)
outcome_short None seat short = tt
outcome_short (Some row) seat short = short row refl

row_of_short : (file : File) (pair : Option Pair) (row : Row) → is_fitting file ≡ true → row_of pair file.records ≡ Some row → length row.image ≤ LONGEST_IMAGE
row_of_short file None row fitting at = absurd (cc)
row_of_short file (Some pair) row fitting at = row_short file pair.num row fitting at

pub walk_short : (finder : Option Finder) (index : IndexDef) (file : File) (seat : Seat) → is_fitting file ≡ true → ComesShort (walk_by finder index file.records seat)
walk_short None index file seat fitting = tt
walk_short (Some finder) index file seat fitting =
    outcome_short (found_row finder index file.records) seat (λ row at. row_of_short file (finder (pairs_of index file.records)) row fitting at)

pub search_short : (search : Search) (key : Option (List ℕ)) (index : IndexDef) (place : ℕ) (file : File) (seat : Seat) → is_fitting file ≡ true → ComesShort (search_by search key index place file.records seat)
search_short search None index place file seat fitting = tt
search_short search (Some key) index place file seat fitting =
    outcome_short (found_row (key_finder search key) index file.records) (seat_for search place key seat)
    (λ row at. row_of_short file (key_finder search key (pairs_of index file.records)) row fitting at)

fitting_at : (state : State) (place : ℕ) (file : File) → are_fitting state ≡ true → slice_get state place ≡ Some file → is_fitting file ≡ true
fitting_at [] place file all at = absurd (cc)
fitting_at (f ∷ state) zero file all at = let same : f ≡ file = cc in ap is_fitting (sym same) ∙ and_first (is_fitting f) (are_fitting state) all
fitting_at (f ∷ state) (suc place) file all at = fitting_at state place file (and_second (is_fitting f) (are_fitting state) all) at

item_short : {A : Type 0} → (place : ℕ) (item : Option A) (refusal : Outcome) (look : ℕ → A → Outcome) → ComesShort refusal → ((a : A) → item ≡ Some a → ComesShort (look place a)) → ComesShort (at_item place item refusal look)
item_short place None refusal look none some = none
item_short place (Some a) refusal look none some = some a refl

place_short : {A : Type 0} → (place : Option ℕ) (items : List A) (refusal : Outcome) (look : ℕ → A → Outcome) → ComesShort refusal → ((n : ℕ) (a : A) → slice_get items n ≡ Some a → ComesShort (look n a)) → ComesShort (at_place place items refusal look)
place_short None items refusal look none some = none
place_short (Some n) items refusal look none some = item_short n (slice_get items n) refusal look none (some n)

-- so is a search in a file and an index of these names
pub index_short : (state : State) (name index : List ℕ) (look : ℕ → File → ℕ → IndexDef → Outcome) → are_fitting state ≡ true
    → ((f : ℕ) (file : File) (i : ℕ) (def : IndexDef) → is_fitting file ≡ true → ComesShort (look f file i def)) → ComesShort (in_index state name index look)
index_short state name index look fitting short =
    place_short (file_named name state) state (refused no_file)
    (λ f file. at_place (index_named index file.def) file.def.indexes (refused no_index) (look f file)) tt
    (λ f file at. place_short (index_named index file.def) file.def.indexes (refused no_index) (look f file) tt (λ i def there. short f file i def (fitting_at state f file fitting at)))
