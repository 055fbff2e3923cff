-- A page that is read over zeros.
use Rattle.std.proofs.Common.{◌≡◌, ◌+◌, ◌-◌, ◌*◌, ◌≤◌, ℕ, zero, suc, min, Bool, IsTrue, List, [], ◌∷◌, ◌++◌, length, take, drop, replicate, sym, ap, ◌∙◌, subst, inl, inr, arith, length-drop}
use Rattle.std.proofs.lemmas.List.{take-replicate, drop-replicate, take_min, take-append-drop, drop_all}
use Rattle.std.proofs.lemmas.Bool.{cases_lt}
use Rattle.ct_frames.specs.Pages.{page_in, IsPageRead}

-- the front of a list with zeros behind it
padded : (m k : ℕ) (xs : List ℕ) → m ≤ k → take m (xs ++ replicate k 0) ≡ take m xs ++ replicate (m - length xs) 0
padded zero k xs within = let none : 0 - length xs ≡ 0 = omega arith in ap (λ n. replicate n 0) (sym none)
padded (suc m) k [] within = let all : suc m ≡ suc m - 0 = omega arith in take-replicate (suc m) k 0 within ∙ ap (λ n. replicate n 0) all
padded (suc m) k (x ∷ xs) within =
    let left : m - length xs ≡ suc m - suc (length xs) = omega arith in
    ap (λ (l : List ℕ). x ∷ l) (padded m k xs (omega arith)) ∙ ap (λ n. x ∷ take m xs ++ replicate n 0) left

-- a read over zeros gives the bytes that there are, and zeros behind them
filled : (bytes into : List ℕ) (size n : ℕ) → n ≡ min size (length bytes) → take n into ≡ take n bytes → drop n into ≡ replicate (size - n) 0 → into ≡ take size (bytes ++ replicate size 0)
filled bytes into size n count front back =
    let left : size - n ≡ size - length bytes = omega arith in
    sym (take-append-drop n into)
    ∙ ap (λ (l : List ℕ). l ++ drop n into) front
    ∙ ap (λ (l : List ℕ). take n bytes ++ l) back
    ∙ ap (λ k. take n bytes ++ replicate k 0) left
    ∙ ap (λ k. take k bytes ++ replicate (size - length bytes) 0) count
    ∙ ap (λ (l : List ℕ). l ++ replicate (size - length bytes) 0) (take_min size bytes)
    ∙ sym (padded size size bytes (omega arith))

-- a read of a page over zeros, as a disk answers it
pub page_read : (tells : Bool) (content old into : List ℕ) (size page n : ℕ) → old ≡ replicate 4096 0 → (IsTrue tells → size ≡ length content)
    → n ≡ min (length old) (size - page * 4096) → (IsTrue tells → take n into ≡ take n (drop (page * 4096) content))
    → (let most = min (length old) (size - page * 4096) in drop most into ≡ drop most old) → length into ≡ length old → IsPageRead tells content size page into
page_read tells content old into size page n zeros sized count front rest long =
    let page_len : length old ≡ 4096 = ap length zeros in
    let at : page * 4096 ≡ 4096 * page = omega arith in
    let back : drop n into ≡ replicate (4096 - n) 0 =
    ap (λ k. drop k into) count ∙ rest ∙ ap (λ k. drop k old) (sym count) ∙ ap (λ (l : List ℕ). drop n l) zeros ∙ drop-replicate n 4096 0 in
    record {
      read = λ told.
          (let all : size ≡ length content = sized told in
          let left = length-drop (4096 * page) content in
          let here : take n into ≡ take n (drop (4096 * page) content) = front told ∙ ap (λ k. take n (drop k content)) at in
          filled (drop (4096 * page) content) into 4096 n (omega arith) here back);
      past = behind (size - 4096 * page)
          (let few : n ≡ min 4096 (size - 4096 * page) = omega arith in few) back;
    }
  where
    behind : (left : ℕ) → n ≡ min 4096 left → drop n into ≡ replicate (4096 - n) 0 → drop left into ≡ replicate (4096 - left) 0
    behind left few back = elim (cases_lt left 4096) [
      | inl within ↦ (let same : n ≡ left = omega arith in subst (λ k. drop k into ≡ replicate (4096 - k) 0) same back)
      | inr beyond ↦ (let nothing : 4096 - left ≡ 0 = omega arith in
          let page_len : length old ≡ 4096 = ap length zeros in
          drop_all left into (omega arith) ∙ ap (λ k. replicate k 0) (sym nothing))
    ]
