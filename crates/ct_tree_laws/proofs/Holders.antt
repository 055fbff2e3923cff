-- Who has a page, after a latch is taken or given back, a page allocated or an edit made.
use Rattle.std.proofs.Common.{◌≡◌, Bool, true, false, ◌||◌, cond, List, [], ◌∷◌, refl, sym, ap, ◌∙◌, filter, inl, inr, ⊎_elim, Some, None}
use Rattle.std.specs.Prelude.{find, ◌⊎◌}
use Rattle.std.specs.List.{list_any}
use Rattle.std.proofs.lemmas.Bool.{cases_Bool, false≢true, or_cases, or_left, or_right}
use Rattle.ct_latch.specs.declared.hold.Hold.{Hold}
use Rattle.ct_latch.specs.Latches.{is_of, with_hold, comes_before}

-- a test that implies another
pub list_any_weaker : {X : Type 0} (p q : X → Bool) (xs : List X) → ((x : X) → p x ≡ true → q x ≡ true) → list_any p xs ≡ true → list_any q xs ≡ true
list_any_weaker p q [] weaker is = is
list_any_weaker p q (x ∷ xs) weaker is = ⊎_elim (λ here. or_left (q x) (list_any q xs) (weaker x here)) (λ there. or_right (q x) (list_any q xs) (list_any_weaker p q xs weaker there)) (or_cases (p x) (list_any p xs) is)

pub same_tests : (a b : Bool) → (a ≡ true → b ≡ true) → (b ≡ true → a ≡ true) → a ≡ b
same_tests true b there back = sym (there refl)
same_tests false true there back = back refl
same_tests false false there back = refl

-- what is left of a list by a filter
pub list_any-filter : {X : Type 0} (p keeps : X → Bool) (xs : List X) → ((x : X) → p x ≡ true → keeps x ≡ true) → list_any p (filter keeps xs) ≡ list_any p xs
list_any-filter p keeps [] kept = refl
list_any-filter p keeps (x ∷ xs) kept = by_test (keeps x) refl (list_any-filter p keeps xs kept)
  where
    by_test : (test : Bool) → keeps x ≡ test → list_any p (filter keeps xs) ≡ list_any p xs → list_any p (cond test (x ∷ filter keeps xs) (filter keeps xs)) ≡ (p x || list_any p xs)
    by_test true is rest = ap (λ b. p x || b) rest
    by_test false is rest =
        let gone : p x ≡ false = ⊎_elim (λ yes. absurd (false≢true (sym is ∙ kept x yes))) (λ no. no) (cases_Bool (p x)) in
        rest ∙ sym (ap (λ b. b || list_any p xs) gone)

pub list_any_filtered : {X : Type 0} (p keeps : X → Bool) (xs : List X) → list_any p (filter keeps xs) ≡ true → (list_any p xs ≡ true)
list_any_filtered p keeps [] is = is
list_any_filtered p keeps (x ∷ xs) is = by_test (list_any_filtered p keeps xs) (keeps x) is
  where
    by_test : (list_any p (filter keeps xs) ≡ true → list_any p xs ≡ true) → (test : Bool) → list_any p (cond test (x ∷ filter keeps xs) (filter keeps xs)) ≡ true → (p x || list_any p xs) ≡ true
    by_test rest true kept = ⊎_elim (λ here. or_left (p x) (list_any p xs) here) (λ there. or_right (p x) (list_any p xs) (rest there)) (or_cases (p x) (list_any p (filter keeps xs)) kept)
    by_test rest false gone = or_right (p x) (list_any p xs) (rest gone)

-- none passes both tests after a filter by the second one
pub list_any_gone : {X : Type 0} (p keeps : X → Bool) (xs : List X) → ((x : X) → p x ≡ true → keeps x ≡ false) → list_any p (filter keeps xs) ≡ false
list_any_gone p keeps [] none = refl
list_any_gone p keeps (x ∷ xs) none = by_test (list_any_gone p keeps xs none) (keeps x) refl
  where
    by_test : list_any p (filter keeps xs) ≡ false → (test : Bool) → keeps x ≡ test → list_any p (cond test (x ∷ filter keeps xs) (filter keeps xs)) ≡ false
    by_test rest true is =
        let not_here : p x ≡ false = ⊎_elim (λ yes. absurd (false≢true (sym (none x yes) ∙ is))) (λ no. no) (cases_Bool (p x)) in
        ap (λ b. b || list_any p (filter keeps xs)) not_here ∙ rest
    by_test rest false is = rest

pub list_any_not_found : {X : Type 0} (p : X → Bool) (xs : List X) → find p xs ≡ None → list_any p xs ≡ false
list_any_not_found p [] is = refl
list_any_not_found p (x ∷ xs) is = by_test (list_any_not_found p xs) (p x) is
  where
    by_test : (find p xs ≡ None → list_any p xs ≡ false) → (test : Bool) → cond test (Some x) (find p xs) ≡ None → (test || list_any p xs) ≡ false
    by_test rest true found = absurd (let no : Some x ≡ None = found in cc)
    by_test rest false found = rest found

-- a hold put where its operation had none on its node
list_any_taken : (p : Hold → Bool) (new : Hold) (holds : List Hold) → ((hold : Hold) → is_of new.node new.op hold ≡ true → p hold ≡ true → p new ≡ true) → list_any p holds ≡ true → list_any p (with_hold new holds) ≡ true
list_any_taken p new [] kept is = absurd (false≢true is)
list_any_taken p new (hold ∷ holds) kept is = first (list_any_taken p new holds kept) (comes_before new.node new.op hold) (is_of new.node new.op hold) refl
  where
    first : (list_any p holds ≡ true → list_any p (with_hold new holds) ≡ true) → (before of : Bool) → is_of new.node new.op hold ≡ of → list_any p (cond before (hold ∷ with_hold new holds) (cond of (new ∷ holds) (new ∷ hold ∷ holds))) ≡ true
    first rest true of told = ⊎_elim (λ here. or_left (p hold) (list_any p (with_hold new holds)) here) (λ there. or_right (p hold) (list_any p (with_hold new holds)) (rest there)) (or_cases (p hold) (list_any p holds) is)
    first rest false true told = ⊎_elim (λ here. or_left (p new) (list_any p holds) (kept hold told here)) (λ there. or_right (p new) (list_any p holds) there) (or_cases (p hold) (list_any p holds) is)
    first rest false false told = or_right (p new) (list_any p (hold ∷ holds)) is

-- a hold is the new one or one from before
list_any_before : (p : Hold → Bool) (new : Hold) (holds : List Hold) → list_any p (with_hold new holds) ≡ true → (p new ≡ true) ⊎ (list_any p holds ≡ true)
list_any_before p new [] is = ⊎_elim (λ here. inl here) (λ there. absurd (false≢true there)) (or_cases (p new) false is)
list_any_before p new (hold ∷ holds) is = first (list_any_before p new holds) (comes_before new.node new.op hold) (is_of new.node new.op hold) is
  where
    first : (list_any p (with_hold new holds) ≡ true → (p new ≡ true) ⊎ (list_any p holds ≡ true)) → (before of : Bool) → list_any p (cond before (hold ∷ with_hold new holds) (cond of (new ∷ holds) (new ∷ hold ∷ holds))) ≡ true → (p new ≡ true) ⊎ ((p hold || list_any p holds) ≡ true)
    first rest true of found = ⊎_elim (λ here. inr (or_left (p hold) (list_any p holds) here)) (λ there. ⊎_elim (λ this. inl this) (λ old. inr (or_right (p hold) (list_any p holds) old)) (rest there)) (or_cases (p hold) (list_any p (with_hold new holds)) found)
    first rest false true found = ⊎_elim (λ here. inl here) (λ there. inr (or_right (p hold) (list_any p holds) there)) (or_cases (p new) (list_any p holds) found)
    first rest false false found = ⊎_elim (λ here. inl here) (λ there. inr there) (or_cases (p new) (list_any p (hold ∷ holds)) found)

pub list_any-with_hold_new : (p : Hold → Bool) (new : Hold) (holds : List Hold) → p new ≡ true → list_any p (with_hold new holds) ≡ true
list_any-with_hold_new p new [] is = or_left (p new) false is
list_any-with_hold_new p new (hold ∷ holds) is = first (list_any-with_hold_new p new holds is) (comes_before new.node new.op hold) (is_of new.node new.op hold)
  where
    first : list_any p (with_hold new holds) ≡ true → (before of : Bool) → list_any p (cond before (hold ∷ with_hold new holds) (cond of (new ∷ holds) (new ∷ hold ∷ holds))) ≡ true
    first rest true of = or_right (p hold) (list_any p (with_hold new holds)) rest
    first rest false true = or_left (p new) (list_any p holds) is
    first rest false false = or_left (p new) (list_any p (hold ∷ holds)) is

-- a test that looks at another node or operation than the new hold's
pub list_any-with_hold_other : (p : Hold → Bool) (new : Hold) (holds : List Hold) → p new ≡ false → ((hold : Hold) → is_of new.node new.op hold ≡ true → p hold ≡ false) → list_any p (with_hold new holds) ≡ list_any p holds
list_any-with_hold_other p new holds not_new apart =
    same_tests (list_any p (with_hold new holds)) (list_any p holds)
    (λ is. ⊎_elim (λ here. absurd (false≢true (sym not_new ∙ here))) (λ old. old) (list_any_before p new holds is))
    (list_any_taken p new holds (λ hold of is. absurd (false≢true (sym (apart hold of) ∙ is))))

pub list_any-with_hold_more : (p : Hold → Bool) (new : Hold) (holds : List Hold) → ((hold : Hold) → is_of new.node new.op hold ≡ true → p hold ≡ true → p new ≡ true) → list_any p holds ≡ true → list_any p (with_hold new holds) ≡ true
list_any-with_hold_more = list_any_taken

pub list_any-with_hold_old : (p : Hold → Bool) (new : Hold) (holds : List Hold) → list_any p (with_hold new holds) ≡ true → (p new ≡ true) ⊎ (list_any p holds ≡ true)
list_any-with_hold_old = list_any_before
