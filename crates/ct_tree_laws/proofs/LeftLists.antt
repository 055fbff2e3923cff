-- The last pair of a list that is before a target: those that are before it stand first.
use Rattle.std.proofs.Common.{◌≡◌, ℕ, zero, suc, ◌+◌, ◌≤◌, Bool, true, false, not, ◌&&◌, cond, List, [], ◌∷◌, ◌++◌, length, get_or, reverse, refl, sym, ap, ◌∙◌, arith, ⊎_elim, Option, Some, None}
use Rattle.std.specs.Prelude.{find, slice_get}
use Rattle.std.specs.List.{All, prefix_len}
use Rattle.std.specs.Option.{option_or}
use Rattle.std.proofs.lemmas.Bool.{cases_Bool, false≢true, not-true, or_cases, and_parts, cond-true, cond-false, false_from_ne_true}
use Rattle.std.proofs.lemmas.List.{reverse-append}
use Rattle.std.proofs.lemmas.List.Folds.{find-append}
use Rattle.std.proofs.lemmas.List.Elements.{All-nil, All-cons, All-head, All-tail}
use Rattle.ct_definitions.specs.Pairs.{Pair}
use Rattle.ct_node.specs.declared.target.Target.{Target}
use Rattle.ct_node.specs.declared.target.Target.TheVariants.{First, Last, At, Before}
use Rattle.ct_node.specs.Nodes.{IsAscending, is_from}
use Rattle.ct_node.specs.Places.{is_ahead, is_past}
use Rattle.ct_node.proofs.Orders.{below, same, below-trans, below_same, same_below, same_back, above, not_above, before-trans}
use Rattle.ct_node.proofs.Searches.{slice_get-at}
use Rattle.ct_tree_laws.specs.Left.{IsAboveTarget, NoneAhead}
use Rattle.ct_tree_laws.proofs.Chains.{below_le, not_below_itself}

-- what is at a pair or below it is below what is above that pair
pub at_or_below : (a b c : Pair) → below b a ≡ false → below b c ≡ true → below a c ≡ true
at_or_below a b c from up = ⊎_elim
    (λ one. same_below a b c (same_back b a one) up)
    (λ other. below-trans a b c (above b a from other) up)
    (cases_Bool (same b a))

-- what is below a pair that is before a target is before it too
ahead_closed : (or_at : Bool) (target : Target) (a b : Pair) → below a b ≡ true → is_ahead or_at target b ≡ true → is_ahead or_at target a ≡ true
ahead_closed or_at First a b up is = is
ahead_closed or_at Last a b up is = refl
ahead_closed or_at (At other) a b up is = before-trans or_at other a b up is
ahead_closed or_at (Before other) a b up is = before-trans false other a b up is

-- what is before a target is below each bound that is above the target
past_of_ahead : (or_at : Bool) (target : Target) (low pair : Pair) → is_from (Some low) pair ≡ true → is_ahead or_at target pair ≡ true → is_past (Some low) target ≡ true
past_of_ahead or_at First low pair from is = is
past_of_ahead or_at Last low pair from is = refl
past_of_ahead or_at (At other) low pair from is = ap not (false_from_ne_true (below other low) (λ under.
    let up : below other pair ≡ true = below_le other low pair under (not-true (below pair low) from) in
    ⊎_elim
    (λ lower. false≢true (sym (not_above other pair up) ∙ lower))
    (λ one. false≢true (sym (not_below_itself other) ∙ below_same other pair other up (and_parts or_at (same pair other) one).1))
    (or_cases (below pair other) (or_at && same pair other) is)))
past_of_ahead or_at (Before other) low pair from is = ⊎_elim
    (λ lower. at_or_below low pair other (not-true (below pair low) from) lower)
    (λ none. absurd (false≢true none))
    (or_cases (below pair other) (false && same pair other) is)

-- the pairs from a bound on that is above the target are not before it
pub not_ahead_from : (or_at : Bool) (target : Target) (low : Option Pair) (pair : Pair) → IsAboveTarget target low → is_from low pair ≡ true → is_ahead or_at target pair ≡ false
not_ahead_from or_at target None pair begins from = absurd begins
not_ahead_from or_at target (Some low) pair begins from = false_from_ne_true (is_ahead or_at target pair) (λ is. false≢true (sym begins ∙ past_of_ahead or_at target low pair from is))

-- a list from behind ends with its first element
back : {X : Type 0} (x : X) (xs : List X) → reverse (x ∷ xs) ≡ reverse xs ++ x ∷ []
back x xs = reverse-append (x ∷ []) xs

find_back : {X : Type 0} (p : X → Bool) (x : X) (xs : List X) → find p (reverse (x ∷ xs)) ≡ option_or (find p (reverse xs)) (cond (p x) (Some x) None)
find_back p x xs = ap (find p) (back x xs) ∙ find-append p (reverse xs) (x ∷ [])

-- where none passes a test, none does from behind
pub none_back : {X : Type 0} (p : X → Bool) (xs : List X) → All (λ x. p x ≡ false) xs → find p (reverse xs) ≡ None
none_back p [] all = refl
none_back p (x ∷ xs) all =
    find_back p x xs ∙ ap (λ o. option_or o (cond (p x) (Some x) None)) (none_back p xs (All-tail (λ y. p y ≡ false) x xs all)) ∙ cond-false (p x) (Some x) None (All-head (λ y. p y ≡ false) x xs all)

-- the last of the first so many elements
abbrev pub last_of : {X : Type 0} → List X → ℕ → Option X
last_of xs zero = None
last_of xs (suc k) = slice_get xs k

tail_ascends : (x : Pair) (xs : List Pair) → IsAscending (x ∷ xs) → IsAscending xs
tail_ascends x xs order i j d first within = order (suc i) (suc j) d (omega arith) (omega arith)

-- behind a pair that is not before a target none is
none_later : (or_at : Bool) (target : Target) (x : Pair) (xs : List Pair) → IsAscending (x ∷ xs) → is_ahead or_at target x ≡ false → NoneAhead or_at target xs
none_later or_at target x xs order fails k d within =
    let up : below x (get_or xs k d) ≡ true = order 0 (suc k) d (omega arith) (omega arith) in
    false_from_ne_true (is_ahead or_at target (get_or xs k d)) (λ passes. false≢true (sym fails ∙ ahead_closed or_at target x (get_or xs k d) up passes))

-- where none stands before the place of a target, none is before it
pub none_from_place : (or_at : Bool) (target : Target) (xs : List Pair) → IsAscending xs → prefix_len (is_ahead or_at target) xs ≡ 0 → NoneAhead or_at target xs
none_from_place or_at target [] order none = All-nil (λ pair. is_ahead or_at target pair ≡ false)
none_from_place or_at target (x ∷ xs) order none = All-cons (λ pair. is_ahead or_at target pair ≡ false) x xs fails (none_later or_at target x xs order fails)
  where
    fails : is_ahead or_at target x ≡ false
    fails = false_from_ne_true (is_ahead or_at target x) (λ passes.
        let some : 1 + prefix_len (is_ahead or_at target) xs ≡ 0 = sym (cond-true (is_ahead or_at target x) (1 + prefix_len (is_ahead or_at target) xs) 0 passes) ∙ none in
        absurd (omega (arith, some)))

-- the front that passes a test is no longer than the list
pub prefix_short : (p : Pair → Bool) (xs : List Pair) → prefix_len p xs ≤ length xs
prefix_short p [] = omega arith
prefix_short p (x ∷ xs) = by_test (p x) (prefix_short p xs)
  where
    by_test : (test : Bool) → prefix_len p xs ≤ length xs → cond test (1 + prefix_len p xs) 0 ≤ suc (length xs)
    by_test true rest = omega arith
    by_test false rest = omega arith

-- the last pair before a target stands in front of the target's place
pub last_found : (or_at : Bool) (target : Target) (xs : List Pair) → IsAscending xs → find (is_ahead or_at target) (reverse xs) ≡ last_of xs (prefix_len (is_ahead or_at target) xs)
last_found or_at target [] order = refl
last_found or_at target (x ∷ xs) order = by_test (is_ahead or_at target x) refl (last_found or_at target xs (tail_ascends x xs order))
  where
    by_place : (n : ℕ) → prefix_len (is_ahead or_at target) xs ≡ n → is_ahead or_at target x ≡ true → option_or (last_of xs n) (cond (is_ahead or_at target x) (Some x) None) ≡ last_of (x ∷ xs) (suc n)
    by_place zero told passes = cond-true (is_ahead or_at target x) (Some x) None passes
    by_place (suc k) told passes =
        let there : slice_get xs k ≡ Some (get_or xs k x) = slice_get-at xs k x (let short = prefix_short (is_ahead or_at target) xs in omega arith) in
        ap (λ o. option_or o (cond (is_ahead or_at target x) (Some x) None)) there ∙ sym there

    by_test : (test : Bool) → is_ahead or_at target x ≡ test → find (is_ahead or_at target) (reverse xs) ≡ last_of xs (prefix_len (is_ahead or_at target) xs) → find (is_ahead or_at target) (reverse (x ∷ xs)) ≡ last_of (x ∷ xs) (prefix_len (is_ahead or_at target) (x ∷ xs))
    by_test true passes rest =
        let n = prefix_len (is_ahead or_at target) xs in
        let place : prefix_len (is_ahead or_at target) (x ∷ xs) ≡ suc n = cond-true (is_ahead or_at target x) (1 + n) 0 passes ∙ (let next : 1 + n ≡ suc n = omega arith in next) in
        find_back (is_ahead or_at target) x xs ∙ ap (λ o. option_or o (cond (is_ahead or_at target x) (Some x) None)) rest ∙ by_place n refl passes ∙ sym (ap (last_of (x ∷ xs)) place)
    by_test false fails rest =
        find_back (is_ahead or_at target) x xs
        ∙ ap (λ o. option_or o (cond (is_ahead or_at target x) (Some x) None)) (none_back (is_ahead or_at target) xs (none_later or_at target x xs order fails))
        ∙ cond-false (is_ahead or_at target x) (Some x) None fails
        ∙ sym (ap (last_of (x ∷ xs)) (cond-false (is_ahead or_at target x) (1 + prefix_len (is_ahead or_at target) xs) 0 fails))
