-- The pairs of each index of a file, and what a change of one record makes of them.
use Rattle.std.specs.Prelude.{◌≡◌, ℕ, List, [], ◌∷◌, map, Bool, true, false, ◌&&◌, ◌||◌, if◌then◌else◌, Option, Some, None, bytes_eq}
use Rattle.ct_definitions.specs.declared.definition.IndexDef.{IndexDef}
use Rattle.ct_definitions.specs.declared.store.Row.{Row}
use Rattle.ct_definitions.specs.Keys.{key_of}
use Rattle.ct_definitions.specs.Pairs.{Pair, pairs_of}
use Rattle.ct_pairs.specs.Finds.{with_pair_of, without_pair_of, has_other_with, IsApart}

-- the pairs of each index
abbrev pub pairs_of_each : List IndexDef → List Row → List (List Pair)
pairs_of_each indexes rows = map (λ index. pairs_of index rows) indexes

-- each index's pairs with the pair of a record, where it has one
abbrev pub with_pairs_of : List IndexDef → Row → List (List Pair) → List (List Pair)
with_pairs_of [] row each = each
with_pairs_of (index ∷ indexes) row [] = []
with_pairs_of (index ∷ indexes) row (pairs ∷ each) = with_pair_of index row pairs ∷ with_pairs_of indexes row each

-- and without it
abbrev pub without_pairs_of : List IndexDef → Row → List (List Pair) → List (List Pair)
without_pairs_of [] row each = each
without_pairs_of (index ∷ indexes) row [] = []
without_pairs_of (index ∷ indexes) row (pairs ∷ each) = without_pair_of index row pairs ∷ without_pairs_of indexes row each

-- in no index the pair of a record is among the pairs
abbrev pub AreApart : List IndexDef → Row → List (List Pair) → Type 0
AreApart [] row each = Unit {0}
AreApart (index ∷ indexes) row [] = Unit {0}
AreApart (index ∷ indexes) row (pairs ∷ each) = IsApart index row pairs × AreApart indexes row each

-- whether two keys are the same, or none is there
abbrev pub are_same_keys : Option (List ℕ) → Option (List ℕ) → Bool
are_same_keys None None = true
are_same_keys None (Some key) = false
are_same_keys (Some key) None = false
are_same_keys (Some key) (Some other) = bytes_eq key other

-- whether two images have the same key in an index, or none
abbrev pub has_same_key : IndexDef → List ℕ → List ℕ → Bool
has_same_key index old new = are_same_keys (key_of index old) (key_of index new)

-- an index's pairs where a record gets another image
abbrev pub exchanged_pair : IndexDef → ℕ → List ℕ → List ℕ → List Pair → List Pair
exchanged_pair index num old new pairs = if has_same_key index old new then pairs else without_pair_of index (record { num = num; image = old }) (with_pair_of index (record { num = num; image = new }) pairs)

-- the same of each index
abbrev pub exchanged_pairs : List IndexDef → ℕ → List ℕ → List ℕ → List (List Pair) → List (List Pair)
exchanged_pairs [] num old new each = each
exchanged_pairs (index ∷ indexes) num old new [] = []
exchanged_pairs (index ∷ indexes) num old new (pairs ∷ each) = exchanged_pair index num old new pairs ∷ exchanged_pairs indexes num old new each

-- in each index the pair of the new image is not among the pairs, where it is another one
abbrev pub AreFresh : List IndexDef → ℕ → List ℕ → List ℕ → List (List Pair) → Type 0
AreFresh [] num old new each = Unit {0}
AreFresh (index ∷ indexes) num old new [] = Unit {0}
AreFresh (index ∷ indexes) num old new (pairs ∷ each) = (has_same_key index old new ≡ false → IsApart index (record { num = num; image = new }) pairs) × AreFresh indexes num old new each

-- whether a pair of another number has the key that was found
abbrev pub has_other : Option (List ℕ) → ℕ → List Pair → Bool
has_other None num pairs = false
has_other (Some key) num pairs = has_other_with num key pairs

-- whether a pair of another number has an image's key in a unique index
abbrev pub is_taken_by : IndexDef → ℕ → List ℕ → List Pair → Bool
is_taken_by index num image pairs = index.unique && has_other (key_of index image) num pairs

-- whether that is so in some index
abbrev pub is_taken_among : List IndexDef → ℕ → List ℕ → List (List Pair) → Bool
is_taken_among [] num image each = false
is_taken_among (index ∷ indexes) num image [] = false
is_taken_among (index ∷ indexes) num image (pairs ∷ each) = is_taken_by index num image pairs || is_taken_among indexes num image each
