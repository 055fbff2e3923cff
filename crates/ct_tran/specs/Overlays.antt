-- The pairs of an index as a session sees them, beside its own changes.
use Rattle.std.specs.Prelude.{◌≡◌, ℕ, List, [], ◌∷◌, filter, Bool, true, false, not, if◌then◌else◌, Option, Some, None}
use Rattle.std.specs.Ordering.{is_lt}
use Rattle.ct_definitions.specs.Pairs.{Pair, pair_cmp, with_pair}
use Rattle.ct_pairs.specs.Finds.{has_pair, without_pair}
use Rattle.ct_pairs.specs.declared.seek.Seek.{Seek}
use Rattle.ct_pairs.specs.declared.seek.Seek.TheVariants.{First, Last, Next, Prev, Equal, AtOrAbove, Above, AtOrBelow, Below, FirstInSet, NextInSet}

-- Shared pairs that own changes take away, and pairs that own changes put.
pub record Overlaying : Type 0 where
  pub takes : List Pair
  pub puts : List Pair

-- the pairs without those of a list
abbrev pub without_pairs : List Pair → List Pair → List Pair
without_pairs takes pairs = filter (λ pair. not (has_pair pair takes)) pairs

-- the pairs with those of a list, each at its place
abbrev pub with_pairs : List Pair → List Pair → List Pair
with_pairs [] pairs = pairs
with_pairs (new ∷ puts) pairs = with_pair new (with_pairs puts pairs)

-- what a session sees of the shared pairs
abbrev pub overlaid : Overlaying → List Pair → List Pair
overlaid own shared = with_pairs own.puts (without_pairs own.takes shared)

-- a pair taken away: an own one is no longer put, and another is taken from the shared ones
abbrev pub with_taken : Pair → Overlaying → Overlaying
with_taken pair own =
    if has_pair pair own.puts then record { takes = own.takes; puts = without_pair pair own.puts }
    else record { takes = with_pair pair own.takes; puts = own.puts }

-- a pair put: one that own changes took away is back, and another is an own one
abbrev pub with_put : Pair → Overlaying → Overlaying
with_put pair own =
    if has_pair pair own.takes then record { takes = without_pair pair own.takes; puts = own.puts }
    else record { takes = own.takes; puts = with_pair pair own.puts }

-- whether a search looks for a greatest pair
abbrev pub goes_back : Seek → Bool
goes_back First = false
goes_back Last = true
goes_back (Next pair) = false
goes_back (Prev pair) = true
goes_back (Equal key) = false
goes_back (AtOrAbove key) = false
goes_back (Above key) = false
goes_back (AtOrBelow key) = true
goes_back (Below key) = true
goes_back (FirstInSet set) = false
goes_back (NextInSet pair set) = false

-- the lesser of two pairs, where both are there
abbrev pub least_of : Option Pair → Option Pair → Option Pair
least_of None own = own
least_of (Some shared) None = Some shared
least_of (Some shared) (Some own) = if is_lt (pair_cmp own shared) then Some own else Some shared

-- the greater of two pairs, where both are there
abbrev pub greatest_of : Option Pair → Option Pair → Option Pair
greatest_of None own = own
greatest_of (Some shared) None = Some shared
greatest_of (Some shared) (Some own) = if is_lt (pair_cmp own shared) then Some shared else Some own

-- of what a search found among the shared pairs and among the own ones, what it finds among both
abbrev pub chosen : Seek → Option Pair → Option Pair → Option Pair
chosen seek shared own = if goes_back seek then greatest_of shared own else least_of shared own
