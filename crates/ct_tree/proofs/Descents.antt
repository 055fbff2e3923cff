-- The order of what is left of a call has no endless descent.
use Rattle.std.proofs.Common.{◌≡◌, ℕ, zero, suc, ◌<◌, List, [], ◌∷◌, length, refl, ap, sym, subst, ⊎_elim, arith}
use Rattle.ct_tree.specs.Ends.{IsLess, IsDescent}

-- a fact that holds of a number if it holds of all lower ones
within : (P : ℕ → Type 0) → ((n : ℕ) → ((m : ℕ) → m < n → P m) → P n) → (bound n : ℕ) → n < bound → P n
within P step zero n less = absurd (omega arith)
within P step (suc bound) n less = step n (λ m smaller. within P step bound m (omega arith))

strong : (P : ℕ → Type 0) → ((n : ℕ) → ((m : ℕ) → m < n → P m) → P n) → (n : ℕ) → P n
strong P step n = within P step (suc n) n (omega arith)

none_less : (P : List ℕ → Type 0) (one other : List ℕ) → length other ≡ 0 → IsLess other one → P other
none_less P one [] its less = absurd less
none_less P one (y ∷ ys) its less = absurd (omega arith)

-- a list that is less begins with a lower number, or with the same one before a rest that is less
some_less : (P : List ℕ → Type 0) (n x : ℕ) (xs : List ℕ) → ((m : ℕ) → m < x → (ys : List ℕ) → length ys ≡ n → P (m ∷ ys)) → ((ys : List ℕ) → length ys ≡ n → IsLess ys xs → P (x ∷ ys)) → (other : List ℕ) → length other ≡ suc n → IsLess other (x ∷ xs) → P other
some_less P n x xs lower same [] its less = absurd (omega arith)
some_less P n x xs lower same (y ∷ ys) its less =
    let long : length ys ≡ n = omega arith in
    ⊎_elim (λ smaller. lower y smaller ys long) (λ both. subst (λ z. P (z ∷ ys)) (sym both.0) (same ys long both.1)) less

descend_to : (n : ℕ) (P : List ℕ → Type 0) → ((one : List ℕ) → length one ≡ n → ((other : List ℕ) → length other ≡ n → IsLess other one → P other) → P one) → (one : List ℕ) → length one ≡ n → P one
descend_to zero P step one long = step one long (none_less P one)
descend_to (suc n) P step [] long = absurd (omega arith)
descend_to (suc n) P step (x ∷ xs) long =
    strong (λ first. (rest : List ℕ) → length rest ≡ n → P (first ∷ rest))
    (λ first lower. descend_to n (λ rest. P (first ∷ rest)) (λ rest its smaller. step (first ∷ rest) (ap suc its) (some_less P n first rest lower smaller)))
    x xs (omega arith)

-- no descent begins at a list
abbrev BeginsNone : ℕ → List ℕ → Type 0
BeginsNone n one = (chain : ℕ → List ℕ) → IsDescent n chain → chain 0 ≡ one → ⊥

pub no_descent : (n : ℕ) (chain : ℕ → List ℕ) → IsDescent n chain → ⊥
no_descent n chain descends =
    descend_to n (BeginsNone n)
    (λ one long lower run falls is. lower (run 1) (falls 1).0 (subst (IsLess (run 1)) is (falls 0).1) (λ k. run (suc k)) (λ k. falls (suc k)) refl)
    (chain 0) (descends 0).0 chain descends refl
