-- A piece that is written part by part.
use Rattle.std.proofs.Common.{◌≡◌, ℕ, ◌+◌, ◌-◌, ◌<◌, ◌≤◌, List, [], ◌++◌, length, min, take, drop, refl, sym, subst, arith, drop-drop, length-drop, length-take, take-append-drop}
use Rattle.std.proofs.lemmas.List.{drop_all, drop-take, take-take, take_all, take_rest}
use Rattle.std.proofs.KnownBytes.{Appends-kept, Appends-trans}
use Rattle.std.specs.Prelude.{Option, Result, Ok, Err, OnErr}
use Rattle.std.specs.Io.KnownBytes.{Appends, Keeps}
use Rattle.ct_link.specs.Sink.{AppendsPart}

-- the first `done` bytes have been written, and no call has failed
pub record IsWrittenSoFar (before now : Option (List ℕ)) (bytes : List ℕ) (done : ℕ) (faults_before faults_now : ℕ) : Type 0 where
  pub within : done ≤ length bytes
  pub appended : Appends before now (take done bytes)
  pub faultless : faults_now ≡ faults_before

-- the first bytes of what is left, behind those that are done
pub take-append-rest : (bytes : List ℕ) (done n : ℕ)
    → take done bytes ++ take n (take (length bytes - done) (drop done bytes)) ≡ take (done + n) bytes
take-append-rest bytes done n =
    let front : take done (take (done + n) bytes) ≡ take done bytes = take-take done (done + n) bytes (omega arith) in
    let back : drop done (take (done + n) bytes) ≡ take n (drop done bytes) = drop-take done n bytes in
    rw (take_rest bytes done, ← front, ← back) (take-append-drop done (take (done + n) bytes))

pub Appends-more : (before mid now : Option (List ℕ)) (bytes : List ℕ) (done n : ℕ)
    → Appends before mid (take done bytes)
    → Appends mid now (take n (take (length bytes - done) (drop done bytes)))
    → Appends before now (take (done + n) bytes)
Appends-more before mid now bytes done n first second =
    subst (Appends before now) (take-append-rest bytes done n) (Appends-trans before mid now _ _ first second)

pub Appends-all : (before now : Option (List ℕ)) (bytes : List ℕ) (done : ℕ) → length bytes ≤ done
    → Appends before now (take done bytes) → Appends before now bytes
Appends-all before now bytes done ended h = subst (Appends before now) (take_all done bytes ended) h

-- a call that fails leaves the part that was written before it
pub AppendsPart-kept : {T E : Type 0} (result : Result T E) (before mid now : Option (List ℕ)) (bytes : List ℕ) (done : ℕ) → done < length bytes
    → Appends before mid (take done bytes) → Keeps mid now → OnErr result (AppendsPart before now bytes)
AppendsPart-kept (Ok _) before mid now bytes done unfinished first kept = tt
AppendsPart-kept (Err _) before mid now bytes done unfinished first kept =
    (done, unfinished, Appends-kept before mid now (take done bytes) first kept)

-- what is left begins with its first bytes, and goes on behind them
pub drop-from_parts : (bytes : List ℕ) (done n : ℕ)
    → drop done bytes ≡ take n (take (length bytes - done) (drop done bytes)) ++ drop (done + n) bytes
drop-from_parts bytes done n =
    rw (take_rest bytes done, ← drop-drop n done bytes) (sym (take-append-drop n (drop done bytes)))

-- the next n bytes of an input, of which `at` are taken, stand at the front of a block
pub record IsHandedOut (input block : List ℕ) (at n : ℕ) : Type 0 where
  pub taken : take (at + n) input ≡ take at input ++ take n block
  pub left : drop at input ≡ take n block ++ drop (at + n) input

pub IsHandedOut-from_front : (input block : List ℕ) (at n : ℕ)
    → take n block ≡ take n (take (length input - at) (drop at input)) → IsHandedOut input block at n
IsHandedOut-from_front input block at n front = record {
  taken = rw front (rw (take-append-rest input at n) refl);
  left = rw front (drop-from_parts input at n);
}

-- a block with room gets nothing only at the input's end
pub drop-at_end : (input : List ℕ) (at n room most : ℕ) → at ≤ length input → 0 < most
    → n ≡ min (min (length (take (length input - at) (drop at input))) room) most → n ≡ 0 → 0 < room → drop (at + n) input ≡ []
drop-at_end input at n room most within some count none has_room =
    drop_all (at + n) input (omega (arith, length-take (length input - at) (drop at input), length-drop at input))
