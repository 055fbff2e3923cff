-- The front of a log: its header and its two start cells.
use Rattle.std.specs.Prelude.{ℕ, Bool, List, ◌∷◌, [], ◌-◌, ◌++◌, ◌==◌, ◌&&◌, not, nat_le, length, replicate}
use Rattle.std.specs.List.{list_any}
use Rattle.std.specs.Int.{w64, to_le_bytes}

-- this many zeros
unfoldable pub zeros : ℕ → List ℕ
zeros n = replicate n 0

-- "CTLOGONE" and version 1 in four bytes
abbrev pub signature : List ℕ
signature = 67 ∷ 84 ∷ 76 ∷ 79 ∷ 71 ∷ 79 ∷ 78 ∷ 69 ∷ 1 ∷ 0 ∷ 0 ∷ 0 ∷ []

-- a number in eight bytes, the low byte first
unfoldable pub number_bytes : ℕ → List ℕ
number_bytes n = to_le_bytes w64 n

-- an id has 1 to 16 bytes, none of them zero
abbrev pub is_id : List ℕ → Bool
is_id id = nat_le 1 (length id) && nat_le (length id) 16 && not (list_any (λ byte. byte == 0) id)

-- the header up to its gate: the signature, the id in 16 bytes, the base number
abbrev pub name_plate : List ℕ → ℕ → List ℕ
name_plate id base = signature ++ id ++ zeros (16 - length id) ++ number_bytes base

-- the header, 4096 bytes with this gate at 36
abbrev pub header : List ℕ → ℕ → ℕ → List ℕ
header id base gate = name_plate id base ++ gate ∷ zeros 4059

-- the header with this gate, and two start cells in which nothing is written yet
abbrev pub front_with : ℕ → List ℕ → ℕ → List ℕ
front_with gate id base = header id base gate ++ zeros 8192

-- the front of a log that is open
abbrev pub front : List ℕ → ℕ → List ℕ
front id base = front_with 1 id base
