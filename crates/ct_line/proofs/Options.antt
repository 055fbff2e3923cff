-- What an option that has a value tells of how it was made.
use Rattle.std.proofs.Common.{◌≡◌, ℕ, Bool, true, false, cond, List, ◌∷◌, ◌⊎◌, inl, inr, Option, Some, None, refl, ap, ◌∙◌}
use Rattle.std.specs.Option.{option_map}
use Rattle.std.specs.Str.{bytes_eq}
use Rattle.std.proofs.lemmas.Slice.Eq.{bytes_eq-Decides}
use Rattle.ct_definitions.specs.Validity.{is_name}
use Rattle.ct_line.specs.Table.{name_of}
use Rattle.ct_line.proofs.Spelled.{then_ends}

pub then_back : {A B : Type 0} (o : Option A) (f : A → Option B) (y : B) → then_ends o f ≡ Some y → (x : A) × (o ≡ Some x) × (f x ≡ Some y)
then_back None f y e = absurd cc
then_back (Some x) f y e = (x, refl, e)

pub map_back : {A B : Type 0} (o : Option A) (f : A → B) (y : B) → option_map f o ≡ Some y → (x : A) × (o ≡ Some x) × (f x ≡ y)
map_back None f y e = absurd cc
map_back (Some x) f y e = (x, refl, cc)

pick_by : {A : Type 0} (t : Bool) (x z : A) (rest : Option A) → cond t (Some x) rest ≡ Some z → ((t ≡ true) × (x ≡ z)) ⊎ (rest ≡ Some z)
pick_by true x z rest e = inl (refl, cc)
pick_by false x z rest e = inr e

pub pick : {A : Type 0} (word text : List ℕ) (x z : A) (rest : Option A) → cond (bytes_eq word text) (Some x) rest ≡ Some z → ((word ≡ text) × (x ≡ z)) ⊎ (rest ≡ Some z)
pick word text x z rest e =
    elim (pick_by (bytes_eq word text) x z rest e) [
      | inl p ↦ inl ((bytes_eq-Decides word text).0 p.0, p.1)
      | inr f ↦ inr f
    ]

name_by : (t : Bool) (x y : List ℕ) → cond t (Some x) None ≡ Some y → (t ≡ true) × (x ≡ y)
name_by true x y e = (refl, cc)
name_by false x y e = absurd cc

pub name_back : (word name : List ℕ) → name_of word ≡ Some name → (is_name name ≡ true) × (word ≡ name)
name_back word name e =
    let n = name_by (is_name word) word name e in
    (rw (← n.1) n.0, n.1)

pub cons : {a b : List ℕ} {xs ys : List (List ℕ)} → a ≡ b → xs ≡ ys → a ∷ xs ≡ b ∷ ys
cons {a} {b} {xs} {ys} e f = ap (λ (x : List ℕ). x ∷ xs) e ∙ ap (λ (l : List (List ℕ)). b ∷ l) f
