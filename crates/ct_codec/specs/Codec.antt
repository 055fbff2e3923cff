-- A format of bytes, and what makes it exact.
use Rattle.std.specs.Prelude.{◌≡◌, ℕ, ◌<◌, ◌≤◌, List, ◌++◌, length, slice_index, Result, Ok, Err}

-- A format: the spelling of each value, and what stands at the front of some bytes, which is a value
-- and the bytes after it, or how many bytes are left from the first field that does not fit.
pub record Codec (X : Type 0) : Type 0 where
  pub text : X → List ℕ
  pub read : List ℕ → Result (X × List ℕ) ℕ

-- each number of the list is a byte
abbrev pub IsBytes : List ℕ → Type 0
IsBytes bytes = (i : ℕ) → slice_index bytes i < 256

-- the bytes are this spelling and then the rest
pub record IsText (bytes text rest : List ℕ) : Type 0 where
  pub parts : bytes ≡ text ++ rest
  pub rest_bytes : IsBytes rest

-- Reading and spelling are each other's inverse on the values that fit: what is read is spelled so, byte
-- for byte, and fits; what fits is read again, whatever follows; a fault lies within the bytes.
pub record IsExact {X : Type 0} (c : Codec X) (Fits : X → Type 0) : Type 0 where
  pub takes : (bytes : List ℕ) (x : X) (rest : List ℕ) → IsBytes bytes → c.read bytes ≡ Ok (x, rest) → IsText bytes (c.text x) rest × Fits x
  pub again : (x : X) (rest : List ℕ) → Fits x → c.read (c.text x ++ rest) ≡ Ok (x, rest)
  pub within : (bytes : List ℕ) (left : ℕ) → IsBytes bytes → c.read bytes ≡ Err left → left ≤ length bytes
