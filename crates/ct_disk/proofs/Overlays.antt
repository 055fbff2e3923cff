-- What an overlay and a change of length are, part by part.
use Rattle.std.proofs.Common.{◌≡◌, ◌+◌, ◌-◌, ℕ, List, [], ◌∷◌, ◌++◌, length, take, drop, replicate, refl, ap, ◌∙◌, zero, suc, arith}
use Rattle.std.proofs.lemmas.List.{take-replicate, drop-replicate, append-nil}
use Rattle.ct_disk.specs.Disk.{overlaid}

-- the front of joined lists
pub take-append : (n : ℕ) (xs ys : List ℕ) → take n (xs ++ ys) ≡ take n xs ++ take (n - length xs) ys
take-append zero xs ys = let none : 0 - length xs ≡ 0 = omega arith in rw none refl
take-append (suc n) [] ys = let whole : suc n - 0 ≡ suc n = omega arith in rw whole refl
take-append (suc n) (x ∷ xs) ys =
    let less : suc n - suc (length xs) ≡ n - length xs = omega arith in
    rw less (ap (λ (l : List ℕ). x ∷ l) (take-append n xs ys))

-- the rest of joined lists
pub drop-append : (n : ℕ) (xs ys : List ℕ) → drop n (xs ++ ys) ≡ drop n xs ++ drop (n - length xs) ys
drop-append zero xs ys = let none : 0 - length xs ≡ 0 = omega arith in rw none refl
drop-append (suc n) [] ys = let whole : suc n - 0 ≡ suc n = omega arith in rw whole refl
drop-append (suc n) (x ∷ xs) ys =
    let less : suc n - suc (length xs) ≡ n - length xs = omega arith in
    rw less (drop-append n xs ys)

-- bytes put over a list that was lengthened first to hold them
pub overlaid_grown : (old put : List ℕ) (at : ℕ) → take at (old ++ replicate (at + length put - length old) 0) ++ put ++ drop (at + length put) (old ++ replicate (at + length put - length old) 0) ≡ overlaid old at put
overlaid_grown old put at =
    let end = at + length put in
    let front : take at (old ++ replicate (end - length old) 0) ≡ take at old ++ replicate (at - length old) 0 =
    take-append at old (replicate (end - length old) 0) ∙ ap (λ (l : List ℕ). take at old ++ l) (take-replicate (at - length old) (end - length old) 0 (omega arith)) in
    let none : end - length old - (end - length old) ≡ 0 = omega arith in
    let left : drop (end - length old) (replicate (end - length old) 0) ≡ [] =
    drop-replicate (end - length old) (end - length old) 0 ∙ ap (λ k. replicate k 0) none in
    let back : drop end (old ++ replicate (end - length old) 0) ≡ drop end old =
    drop-append end old (replicate (end - length old) 0) ∙ ap (λ (l : List ℕ). drop end old ++ l) left ∙ append-nil (drop end old) in
    rw (front, back) refl
