-- What a crash may leave of a history: what a read gives is among it, and of this moment alone what it may leave now.
use Rattle.std.proofs.Common.{◌≡◌, ◌<◌, ◌≤◌, ◌+◌, ◌-◌, inl, inr, ℕ, max, List, [], ◌∷◌, ◌++◌, length, take, drop, replicate, slice_index, get_or, refl, sym, subst, ap, ◌∙◌, suc, arith}
use Rattle.std.proofs.lemmas.List.{length-append, length-take, length-drop, length-replicate, get_or_append_left, get_or-append_right, get_or-take, get_or-drop}
use Rattle.ct_disk.specs.Disk.{overlaid, resized, Torn, Bent}
use Rattle.ct_disk.specs.History.{Event, wrote, cut_to, synced, shown, Leaves, LeavesSince}

-- how long an overlay is
pub length-overlaid : (old : List ℕ) (at : ℕ) (put : List ℕ) → length (overlaid old at put) ≡ max (length old) (at + length put)
length-overlaid old at put = simp (length-append, length-take, length-replicate, length-drop) (omega arith)

-- how long a list is that was given a length
pub length-resized : (old : List ℕ) (len : ℕ) → length (resized old len) ≡ len
length-resized old len = simp (length-append, length-take, length-replicate) (omega arith)

-- in front of an overlay
pub overlaid_before : (old : List ℕ) (at : ℕ) (put : List ℕ) (k : ℕ) → k < length old → k < at → slice_index (overlaid old at put) k ≡ slice_index old k
overlaid_before old at put k within below =
    let front : List ℕ = take at old in
    let fill : List ℕ = replicate (at - length old) 0 in
    let in_front : k < length front = omega (arith, length-take at old) in
    let in_fill : k < length (front ++ fill) = omega (arith, length-append front fill) in
    let in_put : k < length (front ++ fill ++ put) = omega (arith, length-append (front ++ fill) put) in
    get_or_append_left (front ++ fill ++ put) (drop (at + length put) old) 0 k in_put ∙ get_or_append_left (front ++ fill) put 0 k in_fill ∙ get_or_append_left front fill 0 k in_front ∙ get_or-take at old k 0 below

-- behind an overlay
pub overlaid_behind : (old : List ℕ) (at : ℕ) (put : List ℕ) (k : ℕ) → k < length old → at + length put ≤ k → slice_index (overlaid old at put) k ≡ slice_index old k
overlaid_behind old at put k within above =
    let front : List ℕ = take at old ++ replicate (at - length old) 0 ++ put in
    let end : length front ≡ at + length put = simp (length-append, length-take, length-replicate) (omega arith) in
    let place : at + length put + (k - (at + length put)) ≡ k = omega arith in
    get_or-append_right front (drop (at + length put) old) (at + length put) k 0 end above ∙ get_or-drop (at + length put) old (k - (at + length put)) 0 ∙ ap (λ i. get_or old i 0) place

-- a write that is whole, or its first part, is what some part of it leaves
pub Torn-overlaid : (old put : List ℕ) (at missing : ℕ) → Torn at (length put + missing) old (overlaid old at put)
Torn-overlaid old put at missing = record {
  no_shorter = omega (arith, length-overlaid old at put);
  no_longer = omega (arith, length-overlaid old at put);
  before = λ k within below. overlaid_before old at put k within below;
  behind = λ k within above. overlaid_behind old at put k within (omega arith);
}

-- a cut that is whole is what some part of it leaves
pub Bent-resized : (old : List ℕ) (len : ℕ) → Bent len old (resized old len)
Bent-resized old len = record {
  no_shorter = omega (arith, length-resized old len);
  no_longer = omega (arith, length-resized old len);
  front = λ k within below. get_or_append_left (take len old) (replicate (len - length old) 0) 0 k (omega (arith, length-take len old)) ∙ get_or-take len old k 0 below;
}

-- a crash may leave what a read gives
pub Leaves-shown : (events : List Event) → Leaves events (shown events)
Leaves-shown [] = refl
Leaves-shown (wrote at put missing ∷ past) = (shown past, Leaves-shown past, Torn-overlaid (shown past) put at missing)
Leaves-shown (cut_to len ∷ past) = (shown past, Leaves-shown past, Bent-resized (shown past) len)
Leaves-shown (synced ∷ past) = refl

-- the same of bytes that are what a read gives
pub Leaves_as_shown : (events : List Event) (bytes : List ℕ) → bytes ≡ shown events → Leaves events bytes
Leaves_as_shown events bytes same = let P : List ℕ → Type 0 = λ c. Leaves events c in subst P (sym same) (Leaves-shown events)

-- this moment is one of those since any moment
pub LeavesSince-counts : (n : ℕ) (events : List Event) (c : List ℕ) → Leaves events c → LeavesSince n events c
LeavesSince-counts n [] c left = left
LeavesSince-counts n (event ∷ past) c left = inl left

-- since this moment there is no other
pub LeavesSince-only : (events : List Event) (c : List ℕ) → LeavesSince (length events) events c → Leaves events c
LeavesSince-only [] c left = left
LeavesSince-only (event ∷ past) c (inl left) = left
LeavesSince-only (event ∷ past) c (inr earlier) = let beyond : suc (length past) ≤ length past = earlier.0 in absurd (omega arith)
