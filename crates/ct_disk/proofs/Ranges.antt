-- Parts of lists that agree place by place.
use Rattle.std.proofs.Common.{◌≡◌, ◌<◌, ◌≤◌, ◌+◌, ℕ, List, length, take, drop, slice_index, get_or, sym, ◌∙◌, arith}
use Rattle.std.proofs.lemmas.List.{length-take, length-drop, get_or-take, get_or-drop}
use Rattle.std.proofs.lemmas.Grind.{same_number_lists}

-- parts of two lists that agree at each of its places are equal
pub range_same : (c d : List ℕ) (from count : ℕ) → from + count ≤ length c → from + count ≤ length d → ((k : ℕ) → from ≤ k → k < from + count → slice_index c k ≡ slice_index d k) → take count (drop from c) ≡ take count (drop from d)
range_same c d from count in_c in_d agree = same_number_lists (take count (drop from c)) (take count (drop from d)) lengths place
  where
    lengths : length (take count (drop from c)) ≡ length (take count (drop from d))
    lengths = simp (length-take, length-drop) (omega arith)

    place : (k : ℕ) → k < length (take count (drop from c)) → get_or (take count (drop from c)) k 0 ≡ get_or (take count (drop from d)) k 0
    place k within =
        let below : k < count = omega (arith, length-take count (drop from c)) in
        get_or-take count (drop from c) k 0 below ∙ get_or-drop from c k 0 ∙ agree (from + k) (omega arith) (omega arith) ∙ sym (get_or-drop from d k 0) ∙ sym (get_or-take count (drop from d) k 0 below)

-- the fronts of two lists that agree there are equal
pub front_same : (c d : List ℕ) (count : ℕ) → count ≤ length c → count ≤ length d → ((k : ℕ) → k < count → slice_index c k ≡ slice_index d k) → take count c ≡ take count d
front_same c d count in_c in_d agree = range_same c d 0 count (omega arith) (omega arith) (λ k above below. agree k (omega arith))

-- the rests of two lists of one length that agree there are equal
pub rest_same : (c d : List ℕ) (from : ℕ) → length c ≡ length d → ((k : ℕ) → from ≤ k → k < length d → slice_index c k ≡ slice_index d k) → drop from c ≡ drop from d
rest_same c d from same agree = same_number_lists (drop from c) (drop from d) (simp length-drop (omega arith)) place
  where
    place : (k : ℕ) → k < length (drop from c) → get_or (drop from c) k 0 ≡ get_or (drop from d) k 0
    place k within = get_or-drop from c k 0 ∙ agree (from + k) (omega arith) (omega (arith, length-drop from c)) ∙ sym (get_or-drop from d k 0)
