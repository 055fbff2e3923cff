-- What a write or a cut leaves of bytes in front of it, behind it and apart from it.
use Rattle.std.proofs.Common.{◌≡◌, ◌≤◌, ◌+◌, ◌-◌, ◌⊎◌, inl, inr, ℕ, List, [], ◌++◌, length, take, drop, replicate, slice_index, refl, sym, ap, subst, ◌∙◌, arith}
use Rattle.std.proofs.lemmas.List.{length-append, length-take, length-drop, length-replicate, get_or-drop, take-append-drop, take_at, drop_at, append-nil, append_assoc, take_all, drop_all}
use Rattle.std.proofs.Math.Seq.{drop-append-add}
use Rattle.ct_disk.specs.Disk.{overlaid, Torn, Bent}
use Rattle.ct_disk.specs.HistoryLaws.{length-overlaid, overlaid_before, overlaid_behind}
use Rattle.ct_disk.proofs.Ranges.{range_same, front_same, rest_same}

-- a part apart from the written range stays
pub Torn-apart : (at n : ℕ) (d c : List ℕ) (from count : ℕ) → Torn at n d c → from + count ≤ length d → (from + count ≤ at) ⊎ (at + n ≤ from) → take count (drop from c) ≡ take count (drop from d)
Torn-apart at n d c from count torn within (inl below) = range_same c d from count (omega (arith, torn.no_shorter)) within (λ k above low. torn.before k (omega arith) (omega arith))
Torn-apart at n d c from count torn within (inr above) = range_same c d from count (omega (arith, torn.no_shorter)) within (λ k high low. torn.behind k (omega arith) (omega arith))

-- the front stays
pub Torn-front : (at n : ℕ) (d c : List ℕ) (count : ℕ) → Torn at n d c → count ≤ length d → count ≤ at → take count c ≡ take count d
Torn-front at n d c count torn within below = front_same c d count (omega (arith, torn.no_shorter)) within (λ k low. torn.before k (omega arith) (omega arith))

-- behind p ++ r a write from the end of p on leaves p, and of r what the same write leaves there
pub Torn-append : (at n : ℕ) (p r c : List ℕ) → Torn at n (p ++ r) c → length p ≤ at → (s : List ℕ) × (c ≡ p ++ s) × Torn (at - length p) n r s
Torn-append at n p r c torn behind = (
  rest,
  whole,
  record {
    no_shorter = omega (arith, joined, torn.no_shorter, length-drop (length p) c);
    no_longer = omega (arith, joined, torn.no_longer, length-drop (length p) c);
    before = λ k within below. moved k ∙ torn.before (length p + k) (omega (arith, joined)) (omega arith) ∙ there k;
    behind = λ k within above. moved k ∙ torn.behind (length p + k) (omega (arith, joined)) (omega arith) ∙ there k;
  },
)
  where
    rest : List ℕ
    rest = drop (length p) c

    joined : length (p ++ r) ≡ length p + length r
    joined = length-append p r

    front : take (length p) c ≡ p
    front = Torn-front at n (p ++ r) c (length p) torn (omega (arith, joined)) behind ∙ take_at p r (length p) refl

    whole : c ≡ p ++ drop (length p) c
    whole = sym (take-append-drop (length p) c) ∙ ap (λ (l : List ℕ). l ++ drop (length p) c) front

    moved : (k : ℕ) → slice_index (drop (length p) c) k ≡ slice_index c (length p + k)
    moved k = get_or-drop (length p) c k 0

    there : (k : ℕ) → slice_index (p ++ r) (length p + k) ≡ slice_index r k
    there k = sym (get_or-drop (length p) (p ++ r) k 0) ∙ ap (λ (l : List ℕ). slice_index l k) (drop_at p r (length p) refl)

-- a write over m leaves what stands in front of it and behind it, and in its place as many bytes
pub Torn-middle : (p m r c : List ℕ) → Torn (length p) (length m) (p ++ m ++ r) c → (s : List ℕ) × (length s ≡ length m) × (c ≡ p ++ s ++ r)
Torn-middle p m r c torn = (take (length m) rest.0, length_of, rest.1 ∙ ap (λ (l : List ℕ). p ++ l) split ∙ sym (append_assoc p (take (length m) rest.0) r))
  where
    rest : (s : List ℕ) × (c ≡ p ++ s) × Torn (length p - length p) (length m) (m ++ r) s
    rest = Torn-append (length p) (length m) p (m ++ r) c (let P : List ℕ → Type 0 = λ l. Torn (length p) (length m) l c in subst P (append_assoc p m r) torn) (omega arith)

    whole : length (m ++ r) ≡ length m + length r
    whole = length-append m r

    same : length rest.0 ≡ length (m ++ r)
    same = omega (arith, whole, rest.2.no_shorter, rest.2.no_longer)

    length_of : length (take (length m) rest.0) ≡ length m
    length_of = omega (arith, length-take (length m) rest.0, same, whole)

    back : drop (length m) rest.0 ≡ r
    back = rest_same rest.0 (m ++ r) (length m) same (λ k above below. rest.2.behind k below (omega arith)) ∙ drop_at m r (length m) refl

    split : rest.0 ≡ take (length m) rest.0 ++ r
    split = sym (take-append-drop (length m) rest.0) ∙ ap (λ (l : List ℕ). take (length m) rest.0 ++ l) back

-- a cut leaves the front that it keeps
pub Bent-front : (len : ℕ) (d c : List ℕ) (count : ℕ) → Bent len d c → count ≤ length d → count ≤ len → take count c ≡ take count d
Bent-front len d c count bent within below = front_same c d count (omega (arith, bent.no_shorter)) within (λ k low. bent.front k (omega arith) (omega arith))

-- what a write leaves apart from its range, once it is whole
pub overlaid_apart : (d : List ℕ) (at : ℕ) (put : List ℕ) (from count : ℕ) → from + count ≤ length d → (from + count ≤ at) ⊎ (at + length put ≤ from) → take count (drop from (overlaid d at put)) ≡ take count (drop from d)
overlaid_apart d at put from count within (inl below) = range_same (overlaid d at put) d from count (omega (arith, length-overlaid d at put)) within (λ k above low. overlaid_before d at put k (omega arith) (omega arith))
overlaid_apart d at put from count within (inr above) = range_same (overlaid d at put) d from count (omega (arith, length-overlaid d at put)) within (λ k high low. overlaid_behind d at put k (omega arith) (omega arith))

-- what was written is read
pub overlaid_there : (d : List ℕ) (at : ℕ) (put : List ℕ) → take (length put) (drop at (overlaid d at put)) ≡ put
overlaid_there d at put =
    let front : List ℕ = take at d ++ replicate (at - length d) 0 in
    let back : List ℕ = drop (at + length put) d in
    let end : length front ≡ at = simp (length-append, length-take, length-replicate) (omega arith) in
    ap (λ (l : List ℕ). take (length put) (drop at l)) (append_assoc front put back) ∙ ap (λ (l : List ℕ). take (length put) l) (drop_at front (put ++ back) at end) ∙ take_at put back (length put) refl

-- a write behind p
pub overlaid-append : (p r put : List ℕ) → overlaid (p ++ r) (length p) put ≡ p ++ put ++ drop (length put) r
overlaid-append p r put =
    let none : length p - length (p ++ r) ≡ 0 = omega (arith, length-append p r) in
    let front : take (length p) (p ++ r) ≡ p = take_at p r (length p) refl in
    let back : drop (length p + length put) (p ++ r) ≡ drop (length put) r = drop-append-add p r (length put) in
    rw (none, front, back) (ap (λ (l : List ℕ). l ++ put ++ drop (length put) r) (append-nil p))

-- a write over m of as many bytes
pub overlaid_middle : (p m r put : List ℕ) → length put ≡ length m → overlaid (p ++ m ++ r) (length p) put ≡ p ++ put ++ r
overlaid_middle p m r put same =
    ap (λ (l : List ℕ). overlaid l (length p) put) (append_assoc p m r) ∙ overlaid-append p (m ++ r) put ∙ ap (λ (l : List ℕ). p ++ put ++ l) (drop_at m r (length put) (sym same))

-- a write at the end of p
pub overlaid_end : (p put : List ℕ) → overlaid p (length p) put ≡ p ++ put
overlaid_end p put =
    let none : length p - length p ≡ 0 = omega arith in
    let front : take (length p) p ≡ p = take_all (length p) p (omega arith) in
    let back : drop (length p + length put) p ≡ [] = drop_all (length p + length put) p (omega arith) in
    rw (none, front, back) (append-nil (p ++ [] ++ put) ∙ ap (λ (l : List ℕ). l ++ put) (append-nil p))
