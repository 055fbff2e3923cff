-- The pairs of an index: each key with its record's number, in order.
use Rattle.std.specs.Prelude.{ℕ, List, [], ◌∷◌, filter_map, if◌then◌else◌, Option, option_map}
use Rattle.std.specs.declared.cmp.Ordering.{Ordering}
use Rattle.std.specs.Ordering.{nat_cmp, ordering_then, is_lt}
use Rattle.std.specs.Cmp.Lexicographic.{slice_cmp}
use Rattle.ct_definitions.specs.declared.definition.IndexDef.{IndexDef}
use Rattle.ct_definitions.specs.declared.store.Row.{Row}
use Rattle.ct_definitions.specs.Keys.{key_of}

-- a key, and the number of the record that has it
pub record Pair : Type 0 where
  pub key : List ℕ
  pub num : ℕ

-- by key, byte by byte, and then by number
abbrev pub pair_cmp : Pair → Pair → Ordering
pair_cmp a b = ordering_then (slice_cmp nat_cmp a.key b.key) (nat_cmp a.num b.num)

-- the pair of a record that has a key
abbrev pub pair_of : IndexDef → Row → Option Pair
pair_of index row = option_map (λ key. record { key = key; num = row.num }) (key_of index row.image)

-- sorted pairs with one more, at its place
abbrev pub with_pair : Pair → List Pair → List Pair
with_pair new [] = new ∷ []
with_pair new (pair ∷ pairs) = if is_lt (pair_cmp new pair) then new ∷ pair ∷ pairs else pair ∷ with_pair new pairs

-- the pairs in order
abbrev pub sorted_pairs : List Pair → List Pair
sorted_pairs [] = []
sorted_pairs (pair ∷ pairs) = with_pair pair (sorted_pairs pairs)

-- the pairs of an index: of all records that have a key, sorted
abbrev pub pairs_of : IndexDef → List Row → List Pair
pairs_of index rows = sorted_pairs (filter_map (pair_of index) rows)
