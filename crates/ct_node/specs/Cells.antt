-- How a node keeps its entries: in cells of one width, side by side.
use Rattle.std.specs.Prelude.{ℕ, zero, suc, ◌+◌, List, [], ◌∷◌, ◌++◌, length, map, take, drop, Bool, if◌then◌else◌}
use Rattle.std.specs.Int.{w64, to_be_bytes, to_le_bytes, from_be_bytes, from_le_bytes}
use Rattle.ct_definitions.specs.Pairs.{Pair}
use Rattle.ct_node.specs.Nodes.{Entry, width_of}

-- the first cells of this width
abbrev pub cells_of : ℕ → ℕ → List ℕ → List (List ℕ)
cells_of width zero bytes = []
cells_of width (suc count) bytes = take width bytes ∷ cells_of width count (drop width bytes)

-- the pair that bytes begin with: the key, and the number with its high byte first
abbrev pub pair_at : ℕ → List ℕ → Pair
pair_at key_len bytes = record { key = take key_len bytes; num = from_be_bytes w64 (take 8 (drop key_len bytes)) }

-- the entry that bytes begin with: the pair, and in an inner node the page below with its low byte first
abbrev pub entry_at : ℕ → Bool → List ℕ → Entry
entry_at key_len leaf bytes = record { pair = pair_at key_len bytes; child = if leaf then 0 else from_le_bytes w64 (take 8 (drop (key_len + 8) bytes)) }

-- the entries of the first cells
abbrev pub entries_of : ℕ → Bool → ℕ → List ℕ → List Entry
entries_of key_len leaf count bytes = map (entry_at key_len leaf) (cells_of (width_of key_len leaf) count bytes)

-- the bytes of a pair
abbrev pub pair_bytes : Pair → List ℕ
pair_bytes pair = pair.key ++ to_be_bytes w64 pair.num

-- the bytes of an entry
abbrev pub entry_bytes : Bool → Entry → List ℕ
entry_bytes leaf entry = pair_bytes entry.pair ++ (if leaf then [] else to_le_bytes w64 entry.child)

-- bytes with these from a place on, and all others as they were
abbrev pub with_bytes : ℕ → List ℕ → List ℕ → List ℕ
with_bytes at new bytes = take at bytes ++ (new ++ drop (at + length new) bytes)
