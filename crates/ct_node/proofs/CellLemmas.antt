-- Cells side by side: what an edit of their bytes does to their list.
use Rattle.std.proofs.Common.{◌≡◌, ℕ, zero, suc, ◌+◌, ◌-◌, ◌*◌, ◌<◌, ◌≤◌, List, ◌++◌, length, get_or, take, drop, refl, sym, ap, ◌∙◌, arith, append_assoc, inl, inr, ⊎_elim, ◌⊎◌}
use Rattle.std.specs.List.{insert, remove}
use Rattle.std.proofs.Math.Nat.{mul-le-mul_right}
use Rattle.std.proofs.lemmas.Bool.{cases_lt}
use Rattle.std.proofs.lemmas.List.Edits.{length-insert, get_or-insert_below, get_or-insert_at, get_or-insert_above, length-remove, get_or-remove_below, get_or-remove_above}
use Rattle.std.proofs.lemmas.List.{same_lists, length-drop, length-append, length-take-le, get_or-take, get_or-drop, take_at, drop_at, take-append-le, drop-append-le, drop-drop, take-take, drop-take}
use Rattle.ct_node.specs.Cells.{cells_of, with_bytes}

pub length-cells_of : (width count : ℕ) (bytes : List ℕ) → length (cells_of width count bytes) ≡ count
length-cells_of width zero bytes = refl
length-cells_of width (suc count) bytes = ap suc (length-cells_of width count (drop width bytes))

mul_suc : (n width : ℕ) → suc n * width ≡ width + n * width
mul_suc n width = omega arith

-- a cell stands at its multiple of the width
pub get_or-cells_of : (width count : ℕ) (bytes : List ℕ) (i : ℕ) (d : List ℕ) → i < count → get_or (cells_of width count bytes) i d ≡ take width (drop (i * width) bytes)
get_or-cells_of width zero bytes i d within = absurd (omega (arith, within))
get_or-cells_of width (suc count) bytes zero d within =
    let none : 0 ≡ zero * width = omega arith in
    ap (λ n. take width (drop n bytes)) none
get_or-cells_of width (suc count) bytes (suc i) d within =
    get_or-cells_of width count (drop width bytes) i d (omega arith)
    ∙ ap (take width) (drop-drop (i * width) width bytes ∙ ap (λ n. drop n bytes) (sym (mul_suc i width)))

-- so many bytes from a place on
abbrev pub window : ℕ → ℕ → List ℕ → List ℕ
window at width bytes = take width (drop at bytes)

pub window-append_left : (at width : ℕ) (xs ys : List ℕ) → at + width ≤ length xs → window at width (xs ++ ys) ≡ window at width xs
window-append_left at width xs ys within =
    let long = length-drop at xs in
    ap (take width) (drop-append-le at xs ys (omega arith)) ∙ take-append-le width (drop at xs) ys (omega arith)

pub window-append_right : (at width : ℕ) (xs ys : List ℕ) (n : ℕ) → at ≡ length xs + n → window at width (xs ++ ys) ≡ window n width ys
window-append_right at width xs ys n is =
    ap (λ k. take width (drop k (xs ++ ys))) is
    ∙ ap (take width) (sym (drop-drop n (length xs) (xs ++ ys)) ∙ ap (drop n) (drop_at xs ys (length xs) refl))

pub window-take : (at width n : ℕ) (xs : List ℕ) → at + width ≤ n → window at width (take n xs) ≡ window at width xs
window-take at width n xs within =
    let rest = n - at in
    let whole : n ≡ at + rest = omega arith in
    ap (λ k. take width (drop at (take k xs))) whole
    ∙ ap (take width) (drop-take at rest xs)
    ∙ take-take width rest (drop at xs) (omega arith)

pub window-drop : (at width n : ℕ) (xs : List ℕ) → window at width (drop n xs) ≡ window (n + at) width xs
window-drop at width n xs = ap (take width) (drop-drop at n xs)

pub step_within : (j n width : ℕ) → j < n → j * width + width ≤ n * width
step_within j n width below =
    let most : suc j * width ≤ n * width = mul-le-mul_right width below in
    omega (arith, mul_suc j width)

-- bytes with a cell put in at a place, and so many behind it moved up
abbrev pub put_in : ℕ → ℕ → List ℕ → List ℕ → List ℕ → List ℕ
put_in at moved old cell rest = take at old ++ (cell ++ (take moved (drop at old) ++ rest))

put_in-below : (at moved p width : ℕ) (old cell rest : List ℕ) → at ≤ length old → p + width ≤ at → window p width (put_in at moved old cell rest) ≡ window p width old
put_in-below at moved p width old cell rest within below =
    let long = length-take-le at old within in
    window-append_left p width (take at old) (cell ++ (take moved (drop at old) ++ rest)) (omega arith) ∙ window-take p width at old below

put_in-at : (at moved width : ℕ) (old cell rest : List ℕ) → at ≤ length old → length cell ≡ width → window at width (put_in at moved old cell rest) ≡ cell
put_in-at at moved width old cell rest within long =
    let front = length-take-le at old within in
    window-append_right at width (take at old) (cell ++ (take moved (drop at old) ++ rest)) 0 (omega arith) ∙ take_at cell (take moved (drop at old) ++ rest) width long

put_in-above : (at moved p width : ℕ) (old cell rest : List ℕ) → at + moved ≤ length old → length cell ≡ width → p + width ≤ moved → window (at + width + p) width (put_in at moved old cell rest) ≡ window (at + p) width old
put_in-above at moved p width old cell rest within long below =
    let front = length-take-le at old (omega arith) in
    let behind = length-drop at old in
    let middle = length-take-le moved (drop at old) (omega arith) in
    window-append_right (at + width + p) width (take at old) (cell ++ (take moved (drop at old) ++ rest)) (width + p) (omega arith)
    ∙ window-append_right (width + p) width cell (take moved (drop at old) ++ rest) p (omega arith)
    ∙ window-append_left p width (take moved (drop at old)) rest (omega arith)
    ∙ window-take p width moved (drop at old) below
    ∙ window-drop p width at old

-- the cells are those of before with one more
pub cells_of-put_in : (width n i : ℕ) (old cell rest : List ℕ) → i ≤ n → n * width ≤ length old → length cell ≡ width → cells_of width (n + 1) (put_in (i * width) (n * width - i * width) old cell rest) ≡ insert (cells_of width n old) i cell
cells_of-put_in width n i old cell rest within fits long =
    same_lists (cells_of width (n + 1) new) (insert cells i cell) (long_new ∙ sym (length-insert cells i cell place ∙ ap (λ k. k + 1) count))
    (λ k d below. let small : k < n + 1 = omega (arith, long_new) in
    get_or-cells_of width (n + 1) new k d small ∙ ⊎_elim (λ first. here_below k d first) (λ other. ⊎_elim (λ is. here_at k d is) (λ is. here_above k d is small) (at_or_above k other)) (cases_lt k i))
  where
    cells : List (List ℕ)
    cells = cells_of width n old

    new : List ℕ
    new = put_in (i * width) (n * width - i * width) old cell rest

    count : length (cells_of width n old) ≡ n
    count = length-cells_of width n old

    long_new : length (cells_of width (n + 1) (put_in (i * width) (n * width - i * width) old cell rest)) ≡ n + 1
    long_new = length-cells_of width (n + 1) (put_in (i * width) (n * width - i * width) old cell rest)

    place : i ≤ length (cells_of width n old)
    place = omega (arith, length-cells_of width n old)

    start : i * width ≤ n * width
    start = mul-le-mul_right width within

    at_or_above : (k : ℕ) → i ≤ k → (k ≡ i) ⊎ (i < k)
    at_or_above k le = ⊎_elim (λ lt. inr lt) (λ ge. inl (omega arith)) (cases_lt i k)

    here_below : (k : ℕ) (d : List ℕ) → k < i → window (k * width) width (put_in (i * width) (n * width - i * width) old cell rest) ≡ get_or (insert (cells_of width n old) i cell) k d
    here_below k d first =
        put_in-below (i * width) (n * width - i * width) (k * width) width old cell rest (omega (arith, mul-le-mul_right width within)) (step_within k i width first)
        ∙ sym (get_or-insert_below (cells_of width n old) i cell d k first (omega (arith, length-cells_of width n old)) ∙ get_or-cells_of width n old k d (omega arith))

    here_at : (k : ℕ) (d : List ℕ) → k ≡ i → window (k * width) width (put_in (i * width) (n * width - i * width) old cell rest) ≡ get_or (insert (cells_of width n old) i cell) k d
    here_at k d is =
        ap (λ j. window (j * width) width (put_in (i * width) (n * width - i * width) old cell rest)) is
        ∙ put_in-at (i * width) (n * width - i * width) width old cell rest (omega (arith, mul-le-mul_right width within)) long
        ∙ sym (ap (λ j. get_or (insert (cells_of width n old) i cell) j d) is ∙ get_or-insert_at (cells_of width n old) i cell d (omega (arith, length-cells_of width n old)))

    here_above : (k : ℕ) (d : List ℕ) → i < k → k < n + 1 → window (k * width) width (put_in (i * width) (n * width - i * width) old cell rest) ≡ get_or (insert (cells_of width n old) i cell) k d
    here_above k d over small =
        let j = k - 1 in
        let next : k ≡ j + 1 = omega arith in
        let first : i * width ≤ j * width = mul-le-mul_right width (omega arith) in
        let last : j * width + width ≤ n * width = step_within j n width (omega arith) in
        let most : i * width ≤ n * width = mul-le-mul_right width within in
        let p = j * width - i * width in
        let whole : i * width + p ≡ j * width = omega arith in
        let moved : k * width ≡ i * width + width + p = ap (λ m. m * width) next ∙ (let sum : (j + 1) * width ≡ i * width + width + p = omega arith in sum) in
        ap (λ m. window m width (put_in (i * width) (n * width - i * width) old cell rest)) moved
        ∙ put_in-above (i * width) (n * width - i * width) p width old cell rest (omega arith) long (omega arith)
        ∙ ap (λ m. window m width old) whole
        ∙ sym (ap (λ m. get_or (insert (cells_of width n old) i cell) m d) next ∙ get_or-insert_above (cells_of width n old) i cell d j (omega arith) (omega (arith, length-cells_of width n old)) ∙ get_or-cells_of width n old j d (omega arith))

-- bytes with so many taken out at a place, and so many behind them moved down
abbrev pub taken_out : ℕ → ℕ → ℕ → List ℕ → List ℕ → List ℕ
taken_out at width moved old rest = take at old ++ (take moved (drop (at + width) old) ++ rest)

taken_out-below : (at moved p width : ℕ) (old rest : List ℕ) → at ≤ length old → p + width ≤ at → window p width (taken_out at width moved old rest) ≡ window p width old
taken_out-below at moved p width old rest within below =
    let long = length-take-le at old within in
    window-append_left p width (take at old) (take moved (drop (at + width) old) ++ rest) (omega arith) ∙ window-take p width at old below

taken_out-above : (at moved p width : ℕ) (old rest : List ℕ) → at + width + moved ≤ length old → p + width ≤ moved → window (at + p) width (taken_out at width moved old rest) ≡ window (at + width + p) width old
taken_out-above at moved p width old rest within below =
    let front = length-take-le at old (omega arith) in
    let behind = length-drop (at + width) old in
    let middle = length-take-le moved (drop (at + width) old) (omega arith) in
    window-append_right (at + p) width (take at old) (take moved (drop (at + width) old) ++ rest) p (omega arith)
    ∙ window-append_left p width (take moved (drop (at + width) old)) rest (omega arith)
    ∙ window-take p width moved (drop (at + width) old) below
    ∙ window-drop p width (at + width) old

-- the cells are those of before without one
pub cells_of-taken_out : (width n i : ℕ) (old rest : List ℕ) → i < n → n * width ≤ length old → cells_of width (n - 1) (taken_out (i * width) width (n * width - (i * width + width)) old rest) ≡ remove (cells_of width n old) i
cells_of-taken_out width n i old rest within fits =
    same_lists (cells_of width (n - 1) new) (remove (cells_of width n old) i) (omega (arith, length-cells_of width (n - 1) new, length-remove (cells_of width n old) i place, length-cells_of width n old))
    (λ k d below. let small : k < n - 1 = omega (arith, length-cells_of width (n - 1) new) in
    get_or-cells_of width (n - 1) new k d small ∙ ⊎_elim (λ first. here_below k d first) (λ over. here_above k d over small) (cases_lt k i))
  where
    new : List ℕ
    new = taken_out (i * width) width (n * width - (i * width + width)) old rest

    place : i < length (cells_of width n old)
    place = omega (arith, length-cells_of width n old)

    here_below : (k : ℕ) (d : List ℕ) → k < i → window (k * width) width (taken_out (i * width) width (n * width - (i * width + width)) old rest) ≡ get_or (remove (cells_of width n old) i) k d
    here_below k d first =
        let last : i * width + width ≤ n * width = step_within i n width within in
        taken_out-below (i * width) (n * width - (i * width + width)) (k * width) width old rest (omega arith) (step_within k i width first)
        ∙ sym (get_or-remove_below (cells_of width n old) i d k first (omega (arith, length-cells_of width n old)) ∙ get_or-cells_of width n old k d (omega arith))

    here_above : (k : ℕ) (d : List ℕ) → i ≤ k → k < n - 1 → window (k * width) width (taken_out (i * width) width (n * width - (i * width + width)) old rest) ≡ get_or (remove (cells_of width n old) i) k d
    here_above k d over small =
        let first : i * width ≤ k * width = mul-le-mul_right width over in
        let last : (k + 1) * width + width ≤ n * width = step_within (k + 1) n width (omega arith) in
        let next : (k + 1) * width ≡ k * width + width = omega arith in
        let p = k * width - i * width in
        let whole : k * width ≡ i * width + p = omega arith in
        let moved : i * width + width + p ≡ (k + 1) * width = omega arith in
        ap (λ m. window m width (taken_out (i * width) width (n * width - (i * width + width)) old rest)) whole
        ∙ taken_out-above (i * width) (n * width - (i * width + width)) p width old rest (omega arith) (omega arith)
        ∙ ap (λ m. window m width old) moved
        ∙ sym (get_or-remove_above (cells_of width n old) i d k over (omega (arith, length-cells_of width n old)) ∙ get_or-cells_of width n old (k + 1) d (omega arith))

-- the first cells, and those from one on
pub cells_of-front : (width m n : ℕ) (old new : List ℕ) → m ≤ n → take (m * width) new ≡ take (m * width) old → m * width ≤ length old → cells_of width m new ≡ take m (cells_of width n old)
cells_of-front width m n old new within is fits =
    same_lists (cells_of width m new) (take m (cells_of width n old)) (omega (arith, length-cells_of width m new, length-take-le m (cells_of width n old) (omega (arith, length-cells_of width n old))))
    (λ k d below. let small : k < m = omega (arith, length-cells_of width m new) in
    get_or-cells_of width m new k d small
    ∙ sym (window-take (k * width) width (m * width) new (step_within k m width small))
    ∙ ap (window (k * width) width) is
    ∙ window-take (k * width) width (m * width) old (step_within k m width small)
    ∙ sym (get_or-take m (cells_of width n old) k d small ∙ get_or-cells_of width n old k d (omega arith)))

pub cells_of-back : (width m n : ℕ) (old rest : List ℕ) → m ≤ n → n * width ≤ length old → cells_of width (n - m) (take (n * width - m * width) (drop (m * width) old) ++ rest) ≡ drop m (cells_of width n old)
cells_of-back width m n old rest within fits =
    same_lists (cells_of width (n - m) new) (drop m (cells_of width n old)) (omega (arith, length-cells_of width (n - m) new, length-drop m (cells_of width n old), length-cells_of width n old))
    (λ k d below. let small : k < n - m = omega (arith, length-cells_of width (n - m) new) in
    get_or-cells_of width (n - m) new k d small
    ∙ here k small
    ∙ sym (get_or-drop m (cells_of width n old) k d ∙ get_or-cells_of width n old (m + k) d (omega arith)))
  where
    new : List ℕ
    new = take (n * width - m * width) (drop (m * width) old) ++ rest

    here : (k : ℕ) → k < n - m → window (k * width) width (take (n * width - m * width) (drop (m * width) old) ++ rest) ≡ window ((m + k) * width) width old
    here k small =
        let first : m * width ≤ n * width = mul-le-mul_right width within in
        let last : (m + k) * width + width ≤ n * width = step_within (m + k) n width (omega arith) in
        let sum : m * width + k * width ≡ (m + k) * width = omega arith in
        let behind = length-drop (m * width) old in
        let middle = length-take-le (n * width - m * width) (drop (m * width) old) (omega arith) in
        window-append_left (k * width) width (take (n * width - m * width) (drop (m * width) old)) rest (omega arith)
        ∙ window-take (k * width) width (n * width - m * width) (drop (m * width) old) (omega arith)
        ∙ window-drop (k * width) width (m * width) old
        ∙ ap (λ p. window p width old) sum

-- two writes side by side are one
pub with_bytes-side_by_side : (at : ℕ) (xs ys old : List ℕ) → at + (length xs + length ys) ≤ length old → with_bytes (at + length xs) ys (with_bytes at xs old) ≡ with_bytes at (xs ++ ys) old
with_bytes-side_by_side at xs ys old fits =
    let n = length xs in
    let front = length-take-le at old (omega arith) in
    let both = length-append (take at old) xs in
    let one : with_bytes at xs old ≡ (take at old ++ xs) ++ drop (at + n) old = sym (append_assoc (take at old) xs (drop (at + n) old)) in
    let begins : take (at + n) (with_bytes at xs old) ≡ take at old ++ xs = ap (take (at + n)) one ∙ take_at (take at old ++ xs) (drop (at + n) old) (at + n) (omega arith) in
    let ends : drop (at + n) (with_bytes at xs old) ≡ drop (at + n) old = ap (drop (at + n)) one ∙ drop_at (take at old ++ xs) (drop (at + n) old) (at + n) (omega arith) in
    let joined = length-append xs ys in
    let sum : at + n + length ys ≡ at + length (xs ++ ys) = omega arith in
    let behind : drop (at + n + length ys) (with_bytes at xs old) ≡ drop (at + length (xs ++ ys)) old =
    sym (drop-drop (length ys) (at + n) (with_bytes at xs old)) ∙ ap (drop (length ys)) ends ∙ drop-drop (length ys) (at + n) old ∙ ap (λ k. drop k old) sum in
    ap (λ zs. zs ++ (ys ++ drop (at + n + length ys) (with_bytes at xs old))) begins
    ∙ ap (λ zs. (take at old ++ xs) ++ (ys ++ zs)) behind
    ∙ append_assoc (take at old) xs (ys ++ drop (at + length (xs ++ ys)) old)
    ∙ ap (λ zs. take at old ++ zs) (sym (append_assoc xs ys (drop (at + length (xs ++ ys)) old)))

-- a gap of so many bytes, and a cell written into it
pub with_bytes-gap : (at end : ℕ) (cell old : List ℕ) → at ≤ end → end + length cell ≤ length old → with_bytes at cell (take (at + length cell) old ++ (take (end - at) (drop at old) ++ drop (end + length cell) old)) ≡ put_in at (end - at) old cell (drop (end + length cell) old)
with_bytes-gap at end cell old order fits =
    let n = length cell in
    let tail = take (end - at) (drop at old) ++ drop (end + n) old in
    let front = length-take-le (at + n) old (omega arith) in
    let begins : take at (take (at + n) old ++ tail) ≡ take at old = take-append-le at (take (at + n) old) tail (omega arith) ∙ take-take at (at + n) old (omega arith) in
    let ends : drop (at + n) (take (at + n) old ++ tail) ≡ tail = drop_at (take (at + n) old) tail (at + n) front in
    ap (λ zs. zs ++ (cell ++ drop (at + n) (take (at + n) old ++ tail))) begins ∙ ap (λ zs. take at old ++ (cell ++ zs)) ends

-- two writes, one behind the other
pub with_bytes-both : (at : ℕ) (xs ys old one two : List ℕ) → one ≡ with_bytes at xs old → two ≡ with_bytes (at + length xs) ys one → at + (length xs + length ys) ≤ length old → two ≡ with_bytes at (xs ++ ys) old
with_bytes-both at xs ys old one two first second fits =
    second ∙ ap (with_bytes (at + length xs) ys) first ∙ with_bytes-side_by_side at xs ys old fits
