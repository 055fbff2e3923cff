-- Which ends a run does not have, and the id that a store is made with.
use Rattle.std.proofs.Common.{◌≡◌, ℕ, zero, suc, List, [], ◌∷◌, length, map, slice_index_or, Bool, true, false, not, ◌&&◌, ◌||◌, ◌==◌, IsTrue, refl, sym, ap, ◌∙◌, subst, arith}
use Rattle.std.specs.Prelude.{nat_le, slice_get}
use Rattle.std.specs.List.{list_all, list_any}
use Rattle.std.proofs.lemmas.Bool.{eqb-true}
use Rattle.ct_definitions.specs.Validity.{is_name, is_name_byte, is_between}
use Rattle.ct_definitions.specs.declared.definition.TheConstants.{LONGEST_NAME}
use Rattle.ct_log.specs.Front.{is_id as is_log_id}
use Rattle.ct_log.specs.Reading.{log_bytes}
use Rattle.ct_recover.specs.Opening.{is_closed}
use Rattle.ct_recover.specs.declared.fault.OpenFault.{OpenFault}
use Rattle.ct_recover.specs.declared.fault.OpenFault.TheVariants as Open
use Rattle.ct_words.specs.Commands.{AskCreate, is_id, is_shelf_name, is_option}
use Rattle.ct_tool.specs.declared.ended.Cause.{Cause}
use Rattle.ct_tool.specs.declared.ended.Cause.TheVariants.{Done, Usage, Unbuilt, Undone, NotEmpty, BadLog, BadPage, Limit, Device, Memory, Source, Sink, Long}
use Rattle.ct_tool.specs.Ends.{open_cause}
use Rattle.ct_tool.specs.Causes.{IsOpenCause, IsPutCause, IsSessionCause, IsCreateCause}

pub put_is_not_bad : {A : Type 0} (cause : Cause) (place : ℕ) → IsPutCause cause → cause ≡ BadLog place → A
put_is_not_bad cause place kind same = absurd (subst (λ (c : Cause). IsPutCause c) same kind)

pub session_is_not_bad : {A : Type 0} (cause : Cause) (place : ℕ) → IsSessionCause cause → cause ≡ BadLog place → A
session_is_not_bad cause place kind same = absurd (subst (λ (c : Cause). IsSessionCause c) same kind)

pub create_is_not_bad : {A : Type 0} (cause : Cause) (place : ℕ) → IsCreateCause cause → cause ≡ BadLog place → A
create_is_not_bad cause place kind same = absurd (subst (λ (c : Cause). IsCreateCause c) same kind)

-- only a damaged log ends so
pub opened_bad : (fault : OpenFault) (place : ℕ) → open_cause fault ≡ BadLog place → fault ≡ Open.BadLog place
opened_bad Open.NotEmpty place same = let none : ⊥ = cc same in absurd none
opened_bad Open.Undone place same = let none : ⊥ = cc same in absurd none
opened_bad (Open.BadLog at) place same = let here : at ≡ place = cc same in ap Open.BadLog here
opened_bad Open.Device place same = let none : ⊥ = cc same in absurd none
opened_bad Open.Memory place same = let none : ⊥ = cc same in absurd none

and_left : (a b : Bool) → (a && b) ≡ true → a ≡ true
and_left true b both = refl
and_left false b both = both

and_right : (a b : Bool) → (a && b) ≡ true → b ≡ true
and_right true b both = both
and_right false b both = let none : ⊥ = cc both in absurd none

is_false : (b : Bool) → (b ≡ true → ⊥) → b ≡ false
is_false true none = absurd (none refl)
is_false false none = refl

not_zero : (byte : ℕ) → ((suc byte == 0) || false) ≡ false
not_zero byte = ap (λ (b : Bool). b || false) (is_false (suc byte == 0) (λ same. let none : suc byte ≡ 0 = eqb-true (suc byte) 0 same in omega arith))

-- a name has no zero byte
no_zero : (bytes : List ℕ) → list_all is_name_byte bytes ≡ true → list_any (λ byte. byte == 0) bytes ≡ false
no_zero [] all = refl
no_zero (zero ∷ bytes) all = let none : ⊥ = cc all in absurd none
no_zero (suc byte ∷ bytes) all =
    let rest : list_any (λ x. x == 0) bytes ≡ false = no_zero bytes (and_right (is_name_byte (suc byte)) (list_all is_name_byte bytes) all) in
    ap (λ (b : Bool). (suc byte == 0) || b) rest ∙ not_zero byte

all_three : (a b c : Bool) → a ≡ true → b ≡ true → c ≡ false → (a && b && not c) ≡ true
all_three a b c x y z = rw (x, y, z) refl

-- the id of the words is one of a log
pub log_id : (id : List ℕ) → IsTrue (is_id id) → IsTrue (is_log_id id)
log_id id has =
    let shelf = and_left (is_shelf_name id) (nat_le (length id) 16) has in
    let short = and_right (is_shelf_name id) (nat_le (length id) 16) has in
    let name = and_left (is_name id) (not (is_option id)) shelf in
    let between = and_left (is_between 1 LONGEST_NAME (length id)) (list_all is_name_byte id) name in
    let bytes = and_right (is_between 1 LONGEST_NAME (length id)) (list_all is_name_byte id) name in
    let some = and_left (nat_le 1 (length id)) (nat_le (length id) LONGEST_NAME) between in
    all_three (nat_le 1 (length id)) (nat_le (length id) 16) (list_any (λ byte. byte == 0) id) some short (no_zero id bytes)

pub session_is_not_undone : {A : Type 0} (cause : Cause) → IsSessionCause cause → cause ≡ Undone → A
session_is_not_undone cause kind same = absurd (subst (λ (c : Cause). IsSessionCause c) same kind)

-- whether an opened yard is founded
abbrev pub founded : Bool → List ℕ → ℕ → Bool
founded tells content end = tells && is_closed (slice_get (log_bytes content) end)

pub founded_tells : (tells : Bool) (content : List ℕ) (end : ℕ) → IsTrue (founded tells content end) → IsTrue tells
founded_tells tells content end has = and_left tells (is_closed (slice_get (log_bytes content) end)) has

-- the words that make a store are two, and the second is an id
pub create_words : {S : Type 0} (text : S → List ℕ) (words : List S) (word : S) → AskCreate (map text words) → word ≡ slice_index_or words 1 word
    → (verb : List ℕ) × (map text words ≡ verb ∷ text word ∷ []) × IsTrue (is_id (text word))
create_words text [] word asks is = absurd asks
create_words text (verb ∷ []) word asks is = absurd asks
create_words text (verb ∷ id ∷ []) word asks is =
    let same : word ≡ id = is in
    (text verb, ap (λ (w : List ℕ). text verb ∷ w ∷ []) (sym (ap text same)), subst (λ w. IsTrue (is_id (text w))) (sym same) asks.1)
create_words text (verb ∷ id ∷ more ∷ words) word asks is = absurd asks

-- why no session ran
pub open_why : (fault : OpenFault) → (fault ≡ Open.NotEmpty → ⊥) → IsOpenCause (open_cause fault)
open_why Open.NotEmpty full = full refl
open_why Open.Undone full = tt
open_why (Open.BadLog place) full = tt
open_why Open.Device full = tt
open_why Open.Memory full = tt
