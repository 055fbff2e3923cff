-- What a torn write leaves of a text, the gate behind it and what follows.
use Rattle.std.proofs.Common.{◌≡◌, ◌<◌, ◌≤◌, ◌+◌, ◌-◌, ℕ, zero, suc, List, [], ◌∷◌, ◌++◌, length, take, drop, replicate, slice_index, refl, sym, ap, ◌∙◌, arith, append_assoc, length-append}
use Rattle.std.proofs.lemmas.List.{take_at, drop_at, drop-drop, append-nil}
use Rattle.ct_disk.specs.Disk.{Torn, overlaid}

-- lists of one length that agree at each place are equal
same_list : (xs ys : List ℕ) → length xs ≡ length ys → ((k : ℕ) → k < length xs → slice_index ys k ≡ slice_index xs k) → ys ≡ xs
same_list [] [] long same = refl
same_list [] (y ∷ ys) long same = absurd (omega arith)
same_list (x ∷ xs) [] long same = absurd (omega arith)
same_list (x ∷ xs) (y ∷ ys) long same =
    let first : y ≡ x = same 0 (omega arith) in
    let rest : ys ≡ xs = same_list xs ys (omega arith) (λ k below. same (suc k) (omega arith)) in
    cc

-- a write that is torn behind the first byte leaves it
first_stays : (at n x y : ℕ) (d c : List ℕ) → Torn (suc at) n (x ∷ d) (y ∷ c) → y ≡ x
first_stays at n x y d c torn = torn.before 0 (omega arith) (omega arith)

-- and is torn likewise in the rest
torn_rest : (at n x y : ℕ) (d c : List ℕ) → Torn (suc at) n (x ∷ d) (y ∷ c) → Torn at n d c
torn_rest at n x y d c torn =
    let no_shorter : suc (length d) ≤ suc (length c) = torn.no_shorter in
    record {
      no_shorter = omega arith;
      no_longer = omega (arith, torn.no_longer);
      before = λ k within below. torn.before (suc k) (omega arith) (omega arith);
      behind = λ k within above. torn.behind (suc k) (omega arith) (omega arith);
    }

-- a write that is torn behind a text and the gate leaves both
pub torn_behind : (text behind c : List ℕ) (gate at n : ℕ) → length text < at → Torn at n (text ++ gate ∷ behind) c → (new : List ℕ) × (c ≡ text ++ gate ∷ new)
torn_behind text behind c gate zero n before torn = absurd (omega arith)
torn_behind [] behind [] gate (suc at) n before torn = absurd (omega (arith, torn.no_shorter))
torn_behind [] behind (y ∷ c) gate (suc at) n before torn =
    let first : y ≡ gate = first_stays at n gate y behind c torn in
    (c, ap (λ b. b ∷ c) first)
torn_behind (x ∷ text) behind [] gate (suc at) n before torn = absurd (omega (arith, torn.no_shorter))
torn_behind (x ∷ text) behind (y ∷ c) gate (suc at) n before torn =
    let first : y ≡ x = first_stays at n x y (text ++ gate ∷ behind) c torn in
    let rest = torn_behind text behind c gate at n (omega arith) (torn_rest at n x y (text ++ gate ∷ behind) c torn) in
    let parts : c ≡ text ++ gate ∷ rest.0 = rest.1 in
    (rest.0, cc)

-- a torn write of the gate leaves all but the gate
pub torn_gate : (text behind c : List ℕ) (gate at : ℕ) → at ≡ length text → Torn at 1 (text ++ gate ∷ behind) c → (new : ℕ) × (c ≡ text ++ new ∷ behind)
torn_gate [] behind [] gate at here torn = absurd (omega (arith, torn.no_shorter))
torn_gate [] behind (y ∷ c) gate at here torn =
    let at_most : length (y ∷ c) ≤ length (gate ∷ behind) = omega (arith, torn.no_longer) in
    let at_least : length (gate ∷ behind) ≤ length (y ∷ c) = torn.no_shorter in
    let rest : c ≡ behind = same_list behind c (omega arith) (λ k below. torn.behind (suc k) (omega arith) (omega arith)) in
    (y, ap (λ (l : List ℕ). y ∷ l) rest)
torn_gate (x ∷ text) behind c gate zero here torn = absurd (omega arith)
torn_gate (x ∷ text) behind [] gate (suc at) here torn = absurd (omega (arith, torn.no_shorter))
torn_gate (x ∷ text) behind (y ∷ c) gate (suc at) here torn =
    let first : y ≡ x = first_stays at 1 x y (text ++ gate ∷ behind) c torn in
    let rest = torn_gate text behind c gate at (omega arith) (torn_rest at 1 x y (text ++ gate ∷ behind) c torn) in
    let parts : c ≡ text ++ rest.0 ∷ behind = rest.1 in
    (rest.0, cc)

-- bytes that are put where a text ends
pub overlaid_behind : (text behind put : List ℕ) (at : ℕ) → at ≡ length text → overlaid (text ++ behind) at put ≡ text ++ (put ++ drop (length put) behind)
overlaid_behind text behind put at here =
    let front : take at (text ++ behind) ≡ text = take_at text behind at (sym here) in
    let none : at - length (text ++ behind) ≡ 0 = omega (arith, length-append text behind) in
    let back : drop (at + length put) (text ++ behind) ≡ drop (length put) behind =
    sym (drop-drop (length put) at (text ++ behind)) ∙ ap (λ (l : List ℕ). drop (length put) l) (drop_at text behind at (sym here)) in
    ap (λ (l : List ℕ). l ++ replicate (at - length (text ++ behind)) 0 ++ put ++ drop (at + length put) (text ++ behind)) front
    ∙ ap (λ k. text ++ replicate k 0 ++ put ++ drop (at + length put) (text ++ behind)) none
    ∙ ap (λ (l : List ℕ). text ++ [] ++ put ++ l) back
    ∙ ap (λ (l : List ℕ). l ++ put ++ drop (length put) behind) (append-nil text)
    ∙ append_assoc text put (drop (length put) behind)
