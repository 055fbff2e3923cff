-- Tests of each element of a list.
use Rattle.std.proofs.Common.{◌≡◌, Bool, true, not, ◌||◌, List, [], ◌∷◌, refl, arith}
use Rattle.std.specs.List.{list_all, list_any}

pub not-list_any : {X : Type 0} (p : X → Bool) (xs : List X) → not (list_any p xs) ≡ list_all (λ x. not (p x)) xs
not-list_any p [] = refl
not-list_any p (x ∷ xs) = grind (arith, not-list_any p xs)

-- what follows from two tests of each element
pub list_all_from : {X : Type 0} (p q r : X → Bool) → ((x : X) → p x ≡ true → q x ≡ true → r x ≡ true) → (xs : List X) → list_all p xs ≡ true → list_all q xs ≡ true → list_all r xs ≡ true
list_all_from p q r h [] a b = refl
list_all_from p q r h (x ∷ xs) a b = grind (arith, h x, list_all_from p q r h xs)

pub list_any-or : {X : Type 0} (p q r : X → Bool) → ((x : X) → r x ≡ (p x || q x)) → (xs : List X) → list_any r xs ≡ (list_any p xs || list_any q xs)
list_any-or p q r h [] = refl
list_any-or p q r h (x ∷ xs) = grind (arith, h x, list_any-or p q r h xs)

pub list_any_same : {X : Type 0} (p q : X → Bool) → ((x : X) → p x ≡ q x) → (xs : List X) → list_any p xs ≡ list_any q xs
list_any_same p q h [] = refl
list_any_same p q h (x ∷ xs) = grind (arith, h x, list_any_same p q h xs)
