-- What the role of an inner page asks beyond its bytes.
use Rattle.std.specs.Prelude.{ℕ, Bool, false, ◌||◌, replicate, slice_get, Option, Some, None}
use Rattle.std.specs.Option.{option_map_or}
use Rattle.std.specs.Ordering.{is_eq}
use Rattle.ct_definitions.specs.Pairs.{Pair, pair_cmp}
use Rattle.ct_node.specs.Nodes.{NodeValue, pairs_in}

-- the pair that an inner node begins with: its low bound, or zeros where that is open
abbrev pub first_of : ℕ → Option Pair → Pair
first_of key_len None = record { key = replicate key_len 0; num = 0 }
first_of key_len (Some low) = low

-- whether an inner node begins at its low bound, so that it has an entry; of a leaf nothing is asked
abbrev pub begins_at_low : NodeValue → Bool
begins_at_low node = node.leaf || option_map_or (λ pair. is_eq (pair_cmp pair (first_of node.key_len node.low))) (slice_get (pairs_in node) 0) false
