-- How many pages are of a kind, before and after one is written.
use Rattle.std.proofs.Common.{◌≡◌, ℕ, ◌<◌, ◌≤◌, List, [], ◌∷◌, ◌++◌, length, Bool, true, false, cond, get_or, set, refl, ap, arith, ⊎_elim}
use Rattle.std.specs.List.{count_by}
use Rattle.std.proofs.lemmas.Bool.{cases_lt, false≢true}
use Rattle.std.proofs.lemmas.List.{set_past}
use Rattle.std.proofs.lemmas.List.Sums.{sum_by-set, sum_by-append, sum_by-cons, sum_by-le-sum_by}

-- 1 where a test passes
abbrev one_if : {X : Type 0} → (X → Bool) → X → ℕ
one_if p x = cond (p x) 1 0

one_if-no : {X : Type 0} (p : X → Bool) (x : X) → p x ≡ false → one_if p x ≡ 0
one_if-no p x fails = ap (λ b. cond b 1 0) fails

one_if-yes : {X : Type 0} (p : X → Bool) (x : X) → p x ≡ true → one_if p x ≡ 1
one_if-yes p x holds = ap (λ b. cond b 1 0) holds

-- an item that does not count is written
pub count_by-set_no : {X : Type 0} (p : X → Bool) (xs : List X) (i : ℕ) (y d : X) → p y ≡ false → count_by p (set xs i y) ≤ count_by p xs
count_by-set_no p xs i y d fails =
    ⊎_elim (λ within. omega (arith, sum_by-set (one_if p) xs i y d within, one_if-no p y fails)) (λ past. omega (arith, ap (count_by p) (set_past xs i y past))) (cases_lt i (length xs))

-- and the one that stood there counted
pub count_by-set_fewer : {X : Type 0} (p : X → Bool) (xs : List X) (i : ℕ) (y d : X) → i < length xs → p y ≡ false → p (get_or xs i d) ≡ true → count_by p (set xs i y) < count_by p xs
count_by-set_fewer p xs i y d within fails holds = omega (arith, sum_by-set (one_if p) xs i y d within, one_if-no p y fails, one_if-yes p (get_or xs i d) holds)

same_one_if : {X : Type 0} (p : X → Bool) (x y : X) → p x ≡ p y → one_if p x ≡ one_if p y
same_one_if p x y same = ap (λ b. cond b 1 0) same

-- an item is written that counts as the one that stood there
pub count_by-set_same : {X : Type 0} (p : X → Bool) (xs : List X) (i : ℕ) (y d : X) → p y ≡ p (get_or xs i d) → count_by p (set xs i y) ≡ count_by p xs
count_by-set_same p xs i y d same =
    ⊎_elim (λ within. omega (arith, sum_by-set (one_if p) xs i y d within, same_one_if p y (get_or xs i d) same)) (λ past. ap (count_by p) (set_past xs i y past)) (cases_lt i (length xs))

-- an item that does not count comes behind the others
pub count_by-append_no : {X : Type 0} (p : X → Bool) (xs : List X) (y : X) → p y ≡ false → count_by p (xs ++ y ∷ []) ≡ count_by p xs
count_by-append_no p xs y fails = omega (arith, sum_by-append (one_if p) xs (y ∷ []), sum_by-cons (one_if p) y [], one_if-no p y fails)

one_if-le : {X : Type 0} (p q : X → Bool) (x : X) → (p x ≡ true → q x ≡ true) → one_if p x ≤ one_if q x
one_if-le p q x whenever = le (p x) (q x) whenever
  where
    le : (a b : Bool) → (a ≡ true → b ≡ true) → cond a 1 0 ≤ cond b 1 0
    le false b only = omega arith
    le true true only = omega arith
    le true false only = absurd (false≢true (only refl))

-- what passes one test passes another, and one item passes the other alone
pub count_by-fewer : {X : Type 0} (p q : X → Bool) (xs : List X) (i : ℕ) (d : X) → ((x : X) → p x ≡ true → q x ≡ true) → i < length xs → p (get_or xs i d) ≡ false → q (get_or xs i d) ≡ true → p d ≡ false → q d ≡ false → count_by p xs < count_by q xs
count_by-fewer p q xs i d only within fails holds none_p none_q =
    let all = sum_by-le-sum_by (one_if p) (one_if q) (set xs i d) (λ x. one_if-le p q x (only x)) in
    omega (arith, all, sum_by-set (one_if p) xs i d d within, sum_by-set (one_if q) xs i d d within, one_if-no p (get_or xs i d) fails, one_if-yes q (get_or xs i d) holds, one_if-no p d none_p, one_if-no q d none_q)
