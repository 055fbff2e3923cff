-- The chunks of a log: groups behind a gate, one chunk after another up to a closed gate.
use Rattle.std.specs.Prelude.{◌≡◌, ◌≢◌, ◌⊎◌, ◌<◌, ◌+◌, ◌-◌, ◌^◌, ℕ, min, List, [], ◌∷◌, ◌++◌, length, take, drop, All}
use Rattle.std.specs.Int.{w32, to_le_bytes}

-- a chunk's length in four bytes, the low byte first
unfoldable pub length_bytes : ℕ → List ℕ
length_bytes n = to_le_bytes w32 n

-- an open gate, the length of the groups, and the groups
abbrev pub open_chunk : List ℕ → List ℕ
open_chunk groups = 1 ∷ length_bytes (length groups) ++ groups

-- open chunks of these groups, one behind the other
abbrev pub chunks_text : List (List ℕ) → List ℕ
chunks_text [] = []
chunks_text (groups ∷ more) = open_chunk groups ++ chunks_text more

-- what stands behind the gate of a chunk that is last: its length, its groups and a closed gate
abbrev pub chunk_body : List ℕ → List ℕ
chunk_body groups = length_bytes (length groups) ++ groups ++ 0 ∷ []

-- as many bytes as the device gets for these groups, and its gate's: none where there are none
abbrev pub chunk_size : List ℕ → ℕ
chunk_size [] = 0
chunk_size (byte ∷ more) = 5 + length (byte ∷ more)

-- this many bytes behind the end of a log, with the gate that stands before them: none where there are none
abbrev pub with_gate : ℕ → ℕ
with_gate n = n + min n 1

-- the body of a chunk that has groups
abbrev pub framed : List ℕ → List ℕ
framed [] = []
framed (byte ∷ more) = chunk_body (byte ∷ more)

-- the groups in a chunk's body
abbrev pub groups_of : List ℕ → List ℕ
groups_of body = take (length body - 5) (drop 4 body)

-- These bytes are a text, a gate that is not open, and anything behind it.
pub record EndsAfter (text bytes : List ℕ) : Type 0 where
  pub gate : ℕ
  pub behind : List ℕ
  pub is_closed : gate ≢ 1
  pub parts : bytes ≡ text ++ gate ∷ behind

-- the length fits its four bytes
abbrev pub IsShort : List ℕ → Type 0
IsShort groups = length groups < 2 ^ 32

-- These bytes begin with an open chunk of these groups.
pub record BeginsWithChunk (groups bytes : List ℕ) : Type 0 where
  pub short : IsShort groups
  pub behind : List ℕ
  pub parts : bytes ≡ open_chunk groups ++ behind

-- These bytes hold a front and these chunks behind it, up to the first gate that is not open.
pub record HasChunks (front : List ℕ) (chunks : List (List ℕ)) (bytes : List ℕ) : Type 0 where
  pub short : All IsShort chunks
  pub ends : EndsAfter (front ++ chunks_text chunks) bytes

-- They hold these chunks, or these and one more.
abbrev pub HoldsChunks : List ℕ → List (List ℕ) → List ℕ → List ℕ → Type 0
HoldsChunks front chunks groups bytes = HasChunks front chunks bytes ⊎ HasChunks front (chunks ++ groups ∷ []) bytes
