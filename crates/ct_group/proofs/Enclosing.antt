-- A body that takes exactly the length before it is exact where what stands in it is.
use Rattle.std.proofs.Common.{◌≡◌, ℕ, ◌+◌, ◌≤◌, ◌<◌, ◌^◌, inl, inr, false, cond, ltb, leb, List, [], ◌∷◌, ◌++◌, length, take, Result, Ok, Err, refl, sym, ap, subst, ◌∙◌, arith, IsTrue}
use Rattle.std.specs.Int.{w32, w64}
use Rattle.std.proofs.lemmas.List.{append-nil, take_at, length-append}
use Rattle.std.proofs.lemmas.Bool.{ltb-false}
use Rattle.ct_codec.specs.Codec.{Codec, IsBytes, IsText, IsExact}
use Rattle.ct_codec.specs.Formats.{◌>>=◌, block}
use Rattle.ct_codec.proofs.Exact.{At, number32-exact, number64-exact, tested-exact, block-exact, refit-exact, tagged-exact}
use Rattle.ct_codec.proofs.Steps.{bind_ok, bind_err, guard_ok, guard_err, ok_is, never_err, IsBytes-take}
use Rattle.ct_group.specs.Enclosed.{up_to, read_whole, followed_by, filling, enclosed}

-- ---- a number up to a last one

pub up_to32-exact : (most : ℕ) → IsExact (up_to w32 most) (λ n. (n < 2 ^ 32) × IsTrue (leb n most))
up_to32-exact most = tested-exact (λ n. leb n most) number32-exact

pub up_to64-exact : (most : ℕ) → IsExact (up_to w64 most) (λ n. (n < 2 ^ 64) × IsTrue (leb n most))
up_to64-exact most = tested-exact (λ n. leb n most) number64-exact

-- ---- all of the bytes

followed_ok : {X : Type 0} (count : ℕ) (r : Result X ℕ) (x : X) → followed_by count r ≡ Ok x → r ≡ Ok x
followed_ok count (Ok y) x e = e
followed_ok count (Err left) x e = absurd cc

followed_err : {X : Type 0} (count : ℕ) (r : Result X ℕ) (left : ℕ) → followed_by count r ≡ Err left → (inner : ℕ) × (r ≡ Err inner) × (left ≡ inner + count)
followed_err count (Ok y) left e = absurd cc
followed_err count (Err inner) left e = (inner, refl, cc)

none_left : (l : List ℕ) → ltb 0 (length l) ≡ false → l ≡ []
none_left [] h = refl
none_left (x ∷ xs) h = absurd (omega (arith, ltb-false 0 (length (x ∷ xs)) h))

-- a value that was read from all of the bytes
whole_ok : {X : Type 0} (c : Codec X) (bytes : List ℕ) (x : X) → read_whole c bytes ≡ Ok x → c.read bytes ≡ Ok (x, [])
whole_ok {X} c bytes x e =
    let p = bind_ok (c.read bytes) (λ y. cond (ltb 0 (length y.1)) (Err (length y.1)) (Ok y.0)) x e in
    let g = guard_ok (ltb 0 (length p.0.1)) (length p.0.1) p.0.0 x p.2 in
    let empty : p.0.1 ≡ [] = none_left p.0.1 g.0 in
    p.1 ∙ ap (λ (y : X). Ok (y, p.0.1)) g.1 ∙ ap (λ (l : List ℕ). Ok (x, l)) empty

-- a fault lies within the bytes
pub whole_within : {X : Type 0} (c : Codec X) (Fits : X → Type 0) → IsExact c Fits → (bytes : List ℕ) (left : ℕ) → IsBytes bytes → read_whole c bytes ≡ Err left → left ≤ length bytes
whole_within c Fits exact bytes left fits e =
    elim (bind_err (c.read bytes) (λ y. cond (ltb 0 (length y.1)) (Err (length y.1)) (Ok y.0)) left e) [
      | inl failed ↦ exact.within bytes left fits failed
      | inr p ↦
          let over : length p.0.1 ≡ left = guard_err (ltb 0 (length p.0.1)) (length p.0.1) left p.0.0 p.2 in
          let taken = (exact.takes bytes p.0.0 p.0.1 fits p.1).0 in
          omega (arith, over, ap length taken.parts, length-append (c.text p.0.0) p.0.1)
    ]

-- ---- so many bytes

pub IsBytes-front : (bytes front rest : List ℕ) → bytes ≡ front ++ rest → IsBytes bytes → IsBytes front
IsBytes-front bytes front rest parts fits =
    let same : take (length front) bytes ≡ front = ap (take (length front)) parts ∙ take_at front rest (length front) refl in
    subst IsBytes same (IsBytes-take (length front) bytes fits)

filling_takes : {X : Type 0} (c : Codec X) (Fits : X → Type 0) → IsExact c Fits → (n : ℕ) (bytes : List ℕ) (x : X) (rest : List ℕ) → IsBytes bytes → (filling c n).read bytes ≡ Ok (x, rest)
    → IsText bytes (c.text x) rest × ((length (c.text x) ≡ n) × Fits x)
filling_takes {X} c Fits exact n bytes x rest fits e =
    let p = bind_ok ((block n).read bytes) (λ body. followed_by (length body.1) (read_whole c body.0) >>= λ y. Ok (y, body.1)) (x, rest) e in
    let q = bind_ok (followed_by (length p.0.1) (read_whole c p.0.0)) (λ y. Ok (y, p.0.1)) (x, rest) p.2 in
    let body = (block-exact n).takes bytes p.0.0 p.0.1 fits p.1 in
    let inner = exact.takes p.0.0 q.0 [] (IsBytes-front bytes p.0.0 p.0.1 body.0.parts fits) (whole_ok c p.0.0 q.0 (followed_ok (length p.0.1) (read_whole c p.0.0) q.0 q.1)) in
    let is : p.0.0 ≡ c.text q.0 = inner.0.parts ∙ append-nil (c.text q.0) in
    let made : X × List ℕ = (q.0, p.0.1) in
    let spelled : IsText bytes (c.text q.0) p.0.1 = record { parts = body.0.parts ∙ ap (λ (l : List ℕ). l ++ p.0.1) is; rest_bytes = body.0.rest_bytes } in
    subst (λ (y : X × List ℕ). IsText bytes (c.text y.0) y.1 × ((length (c.text y.0) ≡ n) × Fits y.0)) (ok_is made (x, rest) q.2) (spelled, (sym (ap length is) ∙ body.1, inner.1))

filling_again : {X : Type 0} (c : Codec X) (Fits : X → Type 0) → IsExact c Fits → (n : ℕ) (x : X) (rest : List ℕ) → (length (c.text x) ≡ n) × Fits x → (filling c n).read (c.text x ++ rest) ≡ Ok (x, rest)
filling_again c Fits exact n x rest fits =
    let body = (block-exact n).again (c.text x) rest fits.0 in
    let inner : c.read (c.text x) ≡ Ok (x, []) = ap c.read (sym (append-nil (c.text x))) ∙ exact.again x [] fits.1 in
    rw (body, inner) refl

filling_within : {X : Type 0} (c : Codec X) (Fits : X → Type 0) → IsExact c Fits → (n : ℕ) (bytes : List ℕ) (left : ℕ) → IsBytes bytes → (filling c n).read bytes ≡ Err left → left ≤ length bytes
filling_within c Fits exact n bytes left fits e =
    elim (bind_err ((block n).read bytes) (λ body. followed_by (length body.1) (read_whole c body.0) >>= λ y. Ok (y, body.1)) left e) [
      | inl short ↦ (block-exact n).within bytes left fits short
      | inr p ↦
          let body = (block-exact n).takes bytes p.0.0 p.0.1 fits p.1 in
          elim (bind_err (followed_by (length p.0.1) (read_whole c p.0.0)) (λ y. Ok (y, p.0.1)) left p.2) [
            | inl failed ↦
                let f = followed_err (length p.0.1) (read_whole c p.0.0) left failed in
                omega (arith, whole_within c Fits exact p.0.0 f.0 (IsBytes-front bytes p.0.0 p.0.1 body.0.parts fits) f.1, f.2, ap length body.0.parts, length-append p.0.0 p.0.1)
            | inr q ↦ never_err (q.0, p.0.1) left q.2
          ]
    ]

pub filling-exact : {X : Type 0} (c : Codec X) (Fits : X → Type 0) → IsExact c Fits → (n : ℕ) → IsExact (filling c n) (λ x. (length (c.text x) ≡ n) × Fits x)
filling-exact c Fits exact n = record {
  takes = filling_takes c Fits exact n;
  again = filling_again c Fits exact n;
  within = filling_within c Fits exact n;
}

pub enclosed-exact : {X : Type 0} {len : Codec ℕ} {c : Codec X} (IsLen : ℕ → Type 0) {Fits : X → Type 0} → IsExact len IsLen → IsExact c Fits → IsExact (enclosed len c) (λ x. IsLen (length (c.text x)) × Fits x)
enclosed-exact {X} {len} {c} IsLen {Fits} exact_len exact =
    let size : X → ℕ = λ x. length (c.text x) in
    let Whole : X → Type 0 = λ x. IsLen (size x) × Fits x in
    tagged-exact size (filling c) Whole exact_len
    (λ n is_len. refit-exact {Fits' = At size Whole n} (λ x fits. (fits.0, (subst IsLen (sym fits.0) is_len, fits.1))) (λ x fits. (fits.0, fits.1.1)) (filling-exact c Fits exact n))
    (λ x fits. fits.0)
