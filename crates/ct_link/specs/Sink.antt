-- What calls of a sink do.
use Rattle.std.specs.Prelude.{◌≡◌, ℕ, ◌<◌, List, Option, length, take, Result, MatchResult}
use Rattle.std.specs.Io.KnownBytes.{Appends}
use Rattle.ct_link.specs.Faults.{Rose}
use Rattle.ct_link.specs.declared.sink.SinkError.{SinkError}
use Rattle.ct_link.specs.declared.sink.SinkError.TheVariants.{Fault, Memory}

-- the count of faults rose at a fault, and stayed at want of memory
abbrev pub IsCauseOf : SinkError → ℕ → ℕ → Type 0
IsCauseOf Fault before now = Rose before now
IsCauseOf Memory before now = now ≡ before

-- the count of faults stayed at an `Ok`, and at an `Err` did as the error says
abbrev pub HasSinkCause : {T : Type 0} → Result T SinkError → ℕ → ℕ → Type 0
HasSinkCause result before now = MatchResult result (λ _. now ≡ before) (λ error. IsCauseOf error before now)

-- known bytes grow by the first n of these bytes, which are not all
abbrev pub AppendsPart : Option (List ℕ) → Option (List ℕ) → List ℕ → Type 0
AppendsPart old new bytes = (n : ℕ) × (n < length bytes) × Appends old new (take n bytes)
