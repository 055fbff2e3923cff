-- What one call of a source does.
use Rattle.std.specs.Prelude.{◌≡◌, ℕ, ◌+◌, List, drop, Result, MatchResult}
use Rattle.ct_link.specs.Faults.{Rose}

-- the count of bytes rose by the n of `Ok(n)`, and by nothing at an `Err`
abbrev pub CountsBytes : {E : Type 0} → Result ℕ E → ℕ → ℕ → Type 0
CountsBytes result before now = MatchResult result (λ n. now ≡ before + n) (λ _. now ≡ before)

-- the block is as it was behind the n bytes of `Ok(n)`, and whole at an `Err`
abbrev pub KeepsRest : {E : Type 0} → Result ℕ E → List ℕ → List ℕ → Type 0
KeepsRest result old new = MatchResult result (λ n. drop n new ≡ drop n old) (λ _. new ≡ old)

-- the count of faults stayed at an `Ok`, and rose at an `Err`
abbrev pub HasSourceCause : {T E : Type 0} → Result T E → ℕ → ℕ → Type 0
HasSourceCause result before now = MatchResult result (λ _. now ≡ before) (λ _. Rose before now)
