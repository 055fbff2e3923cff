-- What pairs hold, and what a search among them finds: a list's first or last pair that meets a test.
use Rattle.std.specs.Prelude.{◌≡◌, ℕ, List, reverse, filter, find, Bool, true, false, not, ◌&&◌, ◌==◌, Option, Some, None, IfSome, IsSomeAnd, bytes_eq, nat_eq, nat_lt, ◌^◌}
use Rattle.std.specs.List.{list_any, list_all, starts_with}
use Rattle.std.specs.Ordering.{nat_cmp, is_lt, is_le, is_eq}
use Rattle.std.specs.Cmp.Lexicographic.{slice_cmp}
use Rattle.ct_definitions.specs.declared.definition.IndexDef.{IndexDef}
use Rattle.ct_definitions.specs.declared.store.Row.{Row}
use Rattle.ct_definitions.specs.Keys.{key_of}
use Rattle.ct_definitions.specs.Room.{row_at}
use Rattle.ct_definitions.specs.Pairs.{Pair, pair_cmp, pair_of}
use Rattle.ct_laws.specs.Shares.{with_found_pair}
use Rattle.ct_pairs.specs.declared.seek.Seek.{Seek}
use Rattle.ct_pairs.specs.declared.seek.Seek.TheVariants.{First, Last, Next, Prev, Equal, AtOrAbove, Above, AtOrBelow, Below, FirstInSet, NextInSet}

-- whether two pairs are the same
abbrev pub is_pair : Pair → Pair → Bool
is_pair pair other = is_eq (pair_cmp pair other)

-- whether a pair is among others
abbrev pub has_pair : Pair → List Pair → Bool
has_pair pair pairs = list_any (is_pair pair) pairs

-- the other pairs than one
abbrev pub without_pair : Pair → List Pair → List Pair
without_pair pair pairs = filter (λ other. not (is_pair pair other)) pairs

-- whether each number is one of 64 bits
abbrev pub have_short_nums : List Pair → Bool
have_short_nums pairs = list_all (λ pair. nat_lt pair.num (2 ^ 64)) pairs

-- whether a pair of another number has the key
abbrev pub has_other_with : ℕ → List ℕ → List Pair → Bool
has_other_with num key pairs = list_any (λ pair. not (pair.num == num) && bytes_eq pair.key key) pairs

-- pairs without the pair that was found, if one was
abbrev pub without_found_pair : Option Pair → List Pair → List Pair
without_found_pair None pairs = pairs
without_found_pair (Some pair) pairs = without_pair pair pairs

-- pairs with the pair of a record, where it has a key in the index
abbrev pub with_pair_of : IndexDef → Row → List Pair → List Pair
with_pair_of index row pairs = with_found_pair (pair_of index row) pairs

-- pairs without the pair of a record, where it has a key in the index
abbrev pub without_pair_of : IndexDef → Row → List Pair → List Pair
without_pair_of index row pairs = without_found_pair (pair_of index row) pairs

-- the pair of a record, where it has a key in the index, is not among the pairs
abbrev pub IsApart : IndexDef → Row → List Pair → Type 0
IsApart index row pairs = IfSome (pair_of index row) (λ pair. has_pair pair pairs ≡ false)

-- the pair is that of a record: its number's, which has its key in the index
abbrev pub IsOfRecord : IndexDef → List Row → Pair → Type 0
IsOfRecord index rows pair = IsSomeAnd (row_at pair.num rows) (λ row. key_of index row.image ≡ Some pair.key)

-- the least pair that meets a test, of pairs in order
abbrev pub least : (Pair → Bool) → List Pair → Option Pair
least meets pairs = find meets pairs

-- the greatest pair that meets a test, of pairs in order
abbrev pub greatest : (Pair → Bool) → List Pair → Option Pair
greatest meets pairs = find meets (reverse pairs)

-- whether the other pair is above the pair
abbrev pub is_above : Pair → Pair → Bool
is_above pair other = is_lt (pair_cmp pair other)

-- whether the other pair is below the pair
abbrev pub is_below : Pair → Pair → Bool
is_below pair other = is_lt (pair_cmp other pair)

-- whether a pair has the key
abbrev pub has_key : List ℕ → Pair → Bool
has_key key pair = bytes_eq pair.key key

-- whether a pair's key is at the key or above it
abbrev pub is_at_or_above : List ℕ → Pair → Bool
is_at_or_above key pair = is_le (slice_cmp nat_cmp key pair.key)

-- whether a pair's key is above the key
abbrev pub is_key_above : List ℕ → Pair → Bool
is_key_above key pair = is_lt (slice_cmp nat_cmp key pair.key)

-- whether a pair's key is at the key or below it
abbrev pub is_at_or_below : List ℕ → Pair → Bool
is_at_or_below key pair = is_le (slice_cmp nat_cmp pair.key key)

-- whether a pair's key is below the key
abbrev pub is_key_below : List ℕ → Pair → Bool
is_key_below key pair = is_lt (slice_cmp nat_cmp pair.key key)

-- whether a pair's key begins with the bytes of a set
abbrev pub is_in_set : List ℕ → Pair → Bool
is_in_set set pair = starts_with nat_eq pair.key set

-- the pair that a search finds among pairs in order, where there is one
abbrev pub found_pair : Seek → List Pair → Option Pair
found_pair First pairs = least (λ pair. true) pairs
found_pair Last pairs = greatest (λ pair. true) pairs
found_pair (Next pair) pairs = least (is_above pair.now) pairs
found_pair (Prev pair) pairs = greatest (is_below pair.now) pairs
found_pair (Equal key) pairs = least (has_key key.now) pairs
found_pair (AtOrAbove key) pairs = least (is_at_or_above key.now) pairs
found_pair (Above key) pairs = least (is_key_above key.now) pairs
found_pair (AtOrBelow key) pairs = greatest (is_at_or_below key.now) pairs
found_pair (Below key) pairs = greatest (is_key_below key.now) pairs
found_pair (FirstInSet set) pairs = least (is_in_set set.now) pairs
found_pair (NextInSet pair set) pairs = least (λ other. is_above pair.now other && is_in_set set.now other) pairs
