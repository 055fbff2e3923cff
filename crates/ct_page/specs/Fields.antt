-- Numbers in a page, the low byte first.
use Rattle.std.specs.Prelude.{ℕ, ◌+◌, ◌==◌, Bool, List, ◌++◌, length, take, drop}
use Rattle.std.specs.List.{list_all}
use Rattle.std.specs.Int.{w16, w64, from_le_bytes, to_le_bytes}

-- the number in the two bytes from this place on
unfoldable pub u16_at : ℕ → List ℕ → ℕ
u16_at at page = from_le_bytes w16 (take 2 (drop at page))

-- the number in the eight bytes from this place on
unfoldable pub u64_at : ℕ → List ℕ → ℕ
u64_at at page = from_le_bytes w64 (take 8 (drop at page))

-- the page with these bytes from a place on, and all others as they were
abbrev pub with_bytes : ℕ → List ℕ → List ℕ → List ℕ
with_bytes at bytes page = take at page ++ bytes ++ drop (at + length bytes) page

-- the page with this number in the two bytes from a place on
unfoldable pub with_u16 : ℕ → ℕ → List ℕ → List ℕ
with_u16 at n page = with_bytes at (to_le_bytes w16 n) page

-- the page with this number in the eight bytes from a place on
unfoldable pub with_u64 : ℕ → ℕ → List ℕ → List ℕ
with_u64 at n page = with_bytes at (to_le_bytes w64 n) page

-- whether all of these bytes are zero
abbrev pub are_zero : List ℕ → Bool
are_zero bytes = list_all (λ byte. byte == 0) bytes
