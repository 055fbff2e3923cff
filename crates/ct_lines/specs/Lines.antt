-- The lines of an input that comes in pieces.
use Rattle.std.specs.Prelude.{◌≡◌, ℕ, ◌+◌, ◌-◌, List, [], ◌∷◌, ◌++◌, length, take, slice_get, fold, Bool, true, false, not, ◌==◌, nat_le, if◌then◌else◌, Option, Some, None}
use Rattle.std.specs.List.{list_all}
use Rattle.ct_lines.specs.declared.held.TheConstants.{LONGEST_LINE, ROOM}

-- no line ends within the bytes
abbrev pub HasNoEnd : List ℕ → Type 0
HasNoEnd bytes = list_all (λ byte. not (byte == 10)) bytes ≡ true

-- what is held of a line after one more byte of it: its bytes, or only that it is too long
abbrev pub with_byte : Option (List ℕ) → ℕ → Option (List ℕ)
with_byte None byte = None
with_byte (Some bytes) byte = if nat_le (length bytes + 1) ROOM then Some (bytes ++ byte ∷ []) else None

-- and after more bytes
abbrev pub held_with : Option (List ℕ) → List ℕ → Option (List ℕ)
held_with held bytes = fold with_byte held bytes

-- whether the byte is there and is a CR
abbrev pub is_cr : Option ℕ → Bool
is_cr None = false
is_cr (Some byte) = byte == 13

-- bytes without a CR at their end
abbrev pub without_cr : List ℕ → List ℕ
without_cr bytes = if is_cr (slice_get bytes (length bytes - 1)) then take (length bytes - 1) bytes else bytes

-- a line as it is answered: its bytes, or none where there are too many
abbrev pub line_of : List ℕ → Option (List ℕ)
line_of bytes = if nat_le (length bytes) LONGEST_LINE then Some bytes else None

-- the line that an LF ends
abbrev pub line_ended : Option (List ℕ) → Option (List ℕ)
line_ended None = None
line_ended (Some bytes) = line_of (without_cr bytes)

-- the line that the input's end ends
abbrev pub line_unfinished : Option (List ℕ) → Option (List ℕ)
line_unfinished None = None
line_unfinished (Some bytes) = line_of bytes

-- whether a line has begun
abbrev pub is_within_line : Option (List ℕ) → Bool
is_within_line None = true
is_within_line (Some []) = false
is_within_line (Some (byte ∷ bytes)) = true

-- the lines that end within the bytes, after what was held before them
abbrev pub lines_from : Option (List ℕ) → List ℕ → List (Option (List ℕ))
lines_from held [] = []
lines_from held (byte ∷ bytes) = if byte == 10 then line_ended held ∷ lines_from (Some []) bytes else lines_from (with_byte held byte) bytes

-- what is held after the bytes
abbrev pub held_after : Option (List ℕ) → List ℕ → Option (List ℕ)
held_after held [] = held
held_after held (byte ∷ bytes) = if byte == 10 then held_after (Some []) bytes else held_after (with_byte held byte) bytes

-- the unfinished last line, where there is one
abbrev pub last_line : Option (List ℕ) → List (Option (List ℕ))
last_line held = if is_within_line held then line_unfinished held ∷ [] else []

-- the lines of a whole input; a line that is too long is none
abbrev pub lines_of : List ℕ → List (Option (List ℕ))
lines_of input = lines_from (Some []) input ++ last_line (held_after (Some []) input)
