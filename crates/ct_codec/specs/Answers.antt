-- What a reader of the code answers, against the format that it reads.
use Rattle.std.specs.Prelude.{◌≡◌, ℕ, ◌+◌, ◌≤◌, List, ◌++◌, length, take, drop, Result, Ok, Err, ⊤}
use Rattle.ct_codec.specs.Codec.{Codec}
use Rattle.ct_codec.specs.declared.fault.Fault.{Fault}
use Rattle.ct_codec.specs.declared.fault.Fault.TheVariants as fault
use Rattle.ct_codec.specs.declared.fault.ReadFault.{ReadFault}
use Rattle.ct_codec.specs.declared.fault.ReadFault.TheVariants as read_fault

-- The answer, seen by `view`, is what reading gives; want of memory is free.
abbrev pub Gives : {X Y : Type 0} → (X → Y) → Result X Fault → Result Y ℕ → Type 0
Gives view (Ok x) read = read ≡ Ok (view x)
Gives view (Err (fault.Bad left)) read = read ≡ Err left
Gives view (Err fault.Memory) read = ⊤

-- The answer is not want of memory, since the call takes none.
abbrev pub TakesNoMemory : {X : Type 0} → Result X Fault → Type 0
TakesNoMemory (Ok x) = ⊤
TakesNoMemory (Err (fault.Bad left)) = ⊤
TakesNoMemory (Err fault.Memory) = ⊥

-- The answer is the value at the front of the bytes and how many of them it takes, or the place of the
-- first field that does not fit; want of memory is free.
abbrev pub ReadsFront : {X : Type 0} → Codec X → List ℕ → Result (X × ℕ) ReadFault → Type 0
ReadsFront c bytes (Ok x) = (c.read bytes ≡ Ok (x.0, drop x.1 bytes)) × (x.1 ≤ length bytes)
ReadsFront c bytes (Err (read_fault.Bad at)) = (left : ℕ) × (c.read bytes ≡ Err left) × (length bytes ≡ at + left)
ReadsFront c bytes (Err read_fault.Memory) = ⊤

-- What a reader answered lies within the bytes that it was given: the rest, seen by `rest`, is their end,
-- and a field that does not fit is in them.
abbrev pub IsWithin : {X : Type 0} → (X → List ℕ) → List ℕ → Result X Fault → Type 0
IsWithin rest bytes (Ok x) = (text : List ℕ) × (bytes ≡ text ++ rest x)
IsWithin rest bytes (Err (fault.Bad left)) = left ≤ length bytes
IsWithin rest bytes (Err fault.Memory) = ⊤

-- The bytes begin with the spelling of this value, which fits, and it takes so many of them.
pub record BeginsWith {X : Type 0} (c : Codec X) (Fits : X → Type 0) (bytes : List ℕ) (x : X × ℕ) : Type 0 where
  pub fits : Fits x.0
  pub text : take x.1 bytes ≡ c.text x.0
  pub inside : x.1 ≤ length bytes

-- The answer is this one, unless memory ran out.
abbrev pub IsAnswer : {Y : Type 0} → Y → Result Y ReadFault → Type 0
IsAnswer y (Ok x) = x ≡ y
IsAnswer y (Err (read_fault.Bad at)) = ⊥
IsAnswer y (Err read_fault.Memory) = ⊤

-- What a writer that could not end leaves: bytes that still begin with those that were there before.
abbrev pub KeepsFront : List ℕ → List ℕ → Type 0
KeepsFront old new = take (length old) new ≡ old
