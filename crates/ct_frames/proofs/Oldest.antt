-- The least position from which on a frame is dirty.
use Rattle.std.proofs.Common.{◌≡◌, ◌≤◌, ℕ, zero, suc, min, Bool, true, false, cond, nat_eq, List, [], ◌∷◌, Option, Some, None, option_map, ◌⊎◌, Box, Global, refl, sym, ap, ◌∙◌, subst, inl, inr, arith}
use Rattle.std.specs.Prelude.{IfSome, MatchOption, option_and_then, slice_get}
use Rattle.std.specs.Cmp.{nat_eq_equiv}
use Rattle.std.specs.List.{fold, reduce, filter_map, cons_option}
use Rattle.std.specs.Map.{lookup, values_of}
use Rattle.std.specs.HashMap.{get, values, IsUnique}
use Rattle.std.proofs.lemmas.Bool.{cases_lt}
use Rattle.std.proofs.lemmas.Map.Entries.{hash_map_get_place}
use Rattle.ct_frames.specs.declared.frame.Frame.{Frame}
use Rattle.ct_frames.specs.declared.table.FrameTable.{FrameTable}
use Rattle.ct_frames.specs.Tables.{dirty_at, IsClean, IsLeast}

-- an entry of a table
abbrev Entry : Type 0
Entry = ℕ × Box Frame Global

-- from which position on a boxed frame is dirty
abbrev dirty : Box Frame Global → Option ℕ
dirty boxed = boxed.value.dirty_since

-- the positions from which on boxed frames are dirty
abbrev dirty_positions : List (Box Frame Global) → List ℕ
dirty_positions frames = filter_map dirty frames

-- the same of what a look-up found
abbrev dirty_found : Option (Box Frame Global) → Option ℕ
dirty_found found = option_and_then (λ frame. frame.dirty_since) (option_map (λ boxed. boxed.value) found)

-- none of these is less
abbrev Within : ℕ → List ℕ → Type 0
Within least [] = Unit {0}
Within least (x ∷ xs) = (least ≤ x) × Within least xs

-- one of these is this
abbrev Among : ℕ → List ℕ → Type 0
Among least [] = ⊥
Among least (x ∷ xs) = (least ≡ x) ⊎ Among least xs

-- the least of some numbers
least_fold : (x : ℕ) (xs : List ℕ) → Within (fold min x xs) (x ∷ xs) × Among (fold min x xs) (x ∷ xs)
least_fold x [] = let same : x ≤ x = omega arith in ((same, tt), inl refl)
least_fold x (y ∷ ys) =
    let again = least_fold (min x y) ys in
    let least = fold min (min x y) ys in
    let below : least ≤ min x y = again.0.0 in
    let first : least ≤ x = omega arith in
    let second : least ≤ y = omega arith in
    ((first, (second, again.0.1)), chosen least again.1)
  where
    chosen : (least : ℕ) → Among least (min x y ∷ ys) → Among least (x ∷ y ∷ ys)
    chosen least (inr later) = inr (inr later)
    chosen least (inl is) = elim (cases_lt x y) [
      | inl less ↦ inl (is ∙ (let e : min x y ≡ x = omega arith in e))
      | inr more ↦ inr (inl (is ∙ (let e : min x y ≡ y = omega arith in e)))
    ]

-- the first of some positions, and the others
head_within : (least : ℕ) (first : Option ℕ) (xs : List ℕ) → Within least (cons_option first xs) → IfSome first (λ position. least ≤ position)
head_within least None xs within = tt
head_within least (Some x) xs within = within.0

tail_within : (least : ℕ) (first : Option ℕ) (xs : List ℕ) → Within least (cons_option first xs) → Within least xs
tail_within least None xs within = within
tail_within least (Some x) xs within = within.1

-- no page is dirty from a lesser position on
each_found : (least : ℕ) (entries : List Entry) (page : ℕ) → Within least (dirty_positions (values_of entries)) → IfSome (dirty_found (lookup (nat_eq page) entries)) (λ position. least ≤ position)
each_found least [] page within = tt
each_found least (entry ∷ entries) page within =
    let positions = dirty_positions (values_of entries) in
    elim (nat_eq page entry.0) as (λ is. IfSome (dirty_found (cond is (Some entry.1) (lookup (nat_eq page) entries))) (λ position. least ≤ position)) [
      | true ↦ head_within least (dirty entry.1) positions within
      | false ↦ each_found least entries page (tail_within least (dirty entry.1) positions within)
    ]

-- where there is no position, there is no first one
head_none : (first : Option ℕ) (xs : List ℕ) → cons_option first xs ≡ [] → first ≡ None
head_none None xs none = refl
head_none (Some x) xs none = absurd (elim_cons none)
  where
    elim_cons : x ∷ xs ≡ [] → ⊥
    elim_cons is = cc

tail_none : (first : Option ℕ) (xs : List ℕ) → cons_option first xs ≡ [] → xs ≡ []
tail_none None xs none = none
tail_none (Some x) xs none = absurd (elim_cons none)
  where
    elim_cons : x ∷ xs ≡ [] → ⊥
    elim_cons is = cc

-- where there is no position, no page is dirty
none_found : (entries : List Entry) (page : ℕ) → dirty_positions (values_of entries) ≡ [] → dirty_found (lookup (nat_eq page) entries) ≡ None
none_found [] page none = refl
none_found (entry ∷ entries) page none =
    let positions = dirty_positions (values_of entries) in
    elim (nat_eq page entry.0) as (λ is. dirty_found (cond is (Some entry.1) (lookup (nat_eq page) entries)) ≡ None) [
      | true ↦ head_none (dirty entry.1) positions none
      | false ↦ none_found entries page (tail_none (dirty entry.1) positions none)
    ]

-- an entry that is dirty from this position on
record DirtyEntry (entries : List Entry) (position : ℕ) : Type 0 where
  place : ℕ
  entry : Entry
  at : slice_get entries place ≡ Some entry
  is : dirty entry.1 ≡ Some position

first_or_later : (position : ℕ) (first : Option ℕ) (xs : List ℕ) → Among position (cons_option first xs) → (first ≡ Some position) ⊎ Among position xs
first_or_later position None xs among = inr among
first_or_later position (Some x) xs (inl is) = inl (ap (λ y. Some y) (sym is))
first_or_later position (Some x) xs (inr later) = inr later

dirty_entry : (position : ℕ) (entries : List Entry) → Among position (dirty_positions (values_of entries)) → DirtyEntry entries position
dirty_entry position [] among = absurd among
dirty_entry position (entry ∷ entries) among = elim (first_or_later position (dirty entry.1) (dirty_positions (values_of entries)) among) [
  | inl here ↦ record { place = 0; entry = entry; at = refl; is = here }
  | inr later ↦ (let found = dirty_entry position entries later in record { place = suc found.place; entry = found.entry; at = found.at; is = found.is })
]

-- what the least position of the frames says of the pages
pub oldest_of : (table : FrameTable) (answer : Option ℕ) → IsUnique nat_eq table.frames → answer ≡ reduce min (filter_map (λ boxed. boxed.value.dirty_since) (values table.frames)) → MatchOption answer (IsClean table) (IsLeast table)
oldest_of table answer unique is = subst (λ some. MatchOption some (IsClean table) (IsLeast table)) (sym is) (by_list (dirty_positions (values table.frames)) refl)
  where
    entries : List Entry
    entries = table.frames.entries

    by_list : (positions : List ℕ) → dirty_positions (values table.frames) ≡ positions → MatchOption (reduce min positions) (IsClean table) (IsLeast table)
    by_list [] are = λ page. none_found entries page are
    by_list (x ∷ xs) are =
        let facts = least_fold x xs in
        let least = fold min x xs in
        let found = dirty_entry least entries (subst (λ positions. Among least positions) (sym are) facts.1) in
        record {
          page = found.entry.0;
          has = ap dirty_found (hash_map_get_place nat_eq_equiv table.frames found.place found.entry.0 found.entry.1 unique found.at) ∙ found.is;
          least = λ other. each_found least entries other (subst (λ positions. Within least positions) (sym are) facts.0);
        }
