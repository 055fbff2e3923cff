-- What one record adds to the pairs of an index and to the use of a block.
use Rattle.std.specs.Prelude.{ℕ, List, Option, Some, None, ◌==◌, if◌then◌else◌}
use Rattle.ct_definitions.specs.declared.store.Row.{Row}
use Rattle.ct_definitions.specs.Room.{block_of, use_of}
use Rattle.ct_definitions.specs.Pairs.{Pair, with_pair}

-- sorted pairs with the pair that was found, if one was
abbrev pub with_found_pair : Option Pair → List Pair → List Pair
with_found_pair None pairs = pairs
with_found_pair (Some pair) pairs = with_pair pair pairs

-- what a record uses of a block's room
abbrev pub use_in : ℕ → Row → ℕ
use_in block row = if block_of row.num == block then use_of row.image else 0
