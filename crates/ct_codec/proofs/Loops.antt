-- Reading values one after the other, as a loop does.
use Rattle.std.proofs.Common.{◌≡◌, ℕ, suc, ◌-◌, ◌+◌, ◌≤◌, ◌<◌, List, [], ◌∷◌, ◌++◌, Result, Ok, Err, refl, sym, ap, ◌∙◌, append_assoc, arith, Bor}
use Rattle.std.proofs.lemmas.List.{append-nil}
use Rattle.ct_codec.specs.declared.fault.Fault.{Fault}
use Rattle.ct_codec.specs.declared.fault.Fault.TheVariants.{Bad, Memory}
use Rattle.ct_codec.specs.Codec.{Codec}
use Rattle.ct_codec.specs.Formats.{◌>>=◌, read_times}
use Rattle.ct_codec.specs.Answers.{Gives}

-- what was read before, and what is still read
abbrev pub with_front : {X : Type 0} → List X → Result (List X × List ℕ) ℕ → Result (List X × List ℕ) ℕ
with_front front read = read >>= λ xs. Ok (front ++ xs.0, xs.1)

regroup : {X : Type 0} (front : List X) (x : X) (read : Result (List X × List ℕ) ℕ) → with_front front (read >>= λ xs. Ok (x ∷ xs.0, xs.1)) ≡ with_front (front ++ x ∷ []) read
regroup {X} front x (Ok xs) = ap (λ (ys : List X). Ok (ys, xs.1)) (simp append_assoc)
regroup front x (Err left) = refl

-- the invariant as the loop begins
pub times_begins : {X : Type 0} (c : Codec X) (count : ℕ) (bytes : List ℕ) → with_front [] (read_times c (count - 0) bytes) ≡ read_times c count bytes
times_begins {X} c count bytes =
    let same : (read : Result (List X × List ℕ) ℕ) → with_front [] read ≡ read = elim [ Ok xs ↦ refl | Err left ↦ refl ] in
    let whole : count - 0 ≡ count = omega arith in
    rw whole (same (read_times c count bytes))

-- one value more
pub times_goes_on : {X : Type 0} (c : Codec X) (front : List X) (count i : ℕ) (bytes : List ℕ) (x : X) (after : List ℕ) (total : Result (List X × List ℕ) ℕ) → i < count → c.read bytes ≡ Ok (x, after)
    → with_front front (read_times c (count - i) bytes) ≡ total → with_front (front ++ x ∷ []) (read_times c (count - (i + 1)) after) ≡ total
unfolding read_times
times_goes_on c front count i bytes x after total lt h so_far =
    let k : count - i ≡ suc (count - (i + 1)) = omega arith in
    let one : with_front front (read_times c (count - i) bytes) ≡ with_front (front ++ x ∷ []) (read_times c (count - (i + 1)) after) = rw (k, h) (regroup front x (read_times c (count - (i + 1)) after)) in
    sym one ∙ so_far

-- a value that can't be read ends all
pub times_fails : {X : Type 0} (c : Codec X) (e : Fault) (front : List X) (count i : ℕ) (bytes : List ℕ) (total : Result (List X × List ℕ) ℕ) → i < count
    → Gives {X = X × Bor (List ℕ)} (λ x. (x.0, x.1.now)) (Err e) (c.read bytes) → with_front front (read_times c (count - i) bytes) ≡ total → Gives {X = List X × Bor (List ℕ)} (λ xs. (xs.0, xs.1.now)) (Err e) total
unfolding read_times
times_fails c Memory front count i bytes total lt h so_far = tt
times_fails c (Bad left) front count i bytes total lt h so_far =
    let k : count - i ≡ suc (count - (i + 1)) = omega arith in
    let one : with_front front (read_times c (count - i) bytes) ≡ Err left = rw (k, h) refl in
    sym so_far ∙ one

-- the loop has ended
pub times_ends : {X : Type 0} (c : Codec X) (front : List X) (count i : ℕ) (bytes : List ℕ) (total : Result (List X × List ℕ) ℕ) → count ≤ i → with_front front (read_times c (count - i) bytes) ≡ total → total ≡ Ok (front, bytes)
unfolding read_times
times_ends {X} c front count i bytes total le so_far =
    let k : count - i ≡ 0 = omega arith in
    let one : with_front front (read_times c (count - i) bytes) ≡ Ok (front, bytes) = rw k (ap (λ (xs : List X). Ok (xs, bytes)) (append-nil front)) in
    sym so_far ∙ one
