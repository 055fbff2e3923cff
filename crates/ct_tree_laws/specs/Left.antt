-- What a search to the left has passed.
use Rattle.std.specs.Prelude.{◌≡◌, ℕ, List, Bool, true, false, Option, Some, None, ◌⊎◌}
use Rattle.std.specs.List.{All}
use Rattle.std.specs.Ordering.{is_lt}
use Rattle.ct_definitions.specs.Pairs.{Pair, pair_cmp}
use Rattle.ct_node.specs.declared.target.Target.{Target}
use Rattle.ct_node.specs.Nodes.{NodeValue, pairs_in}
use Rattle.ct_node.specs.Places.{is_ahead, is_past}
use Rattle.ct_node.specs.Worlds.{World, has_latch}
use Rattle.ct_tree_laws.specs.Trees.{Tree, IsLeaf}

-- a low bound is above a target
abbrev pub IsAboveTarget : Target → Option Pair → Type 0
IsAboveTarget target None = ⊥
IsAboveTarget target (Some low) = is_past (Some low) target ≡ false

-- a high bound is above a pair
abbrev pub EndsAbove : Pair → Option Pair → Type 0
EndsAbove pair None = Unit {0}
EndsAbove pair (Some high) = is_lt (pair_cmp pair high) ≡ true

-- none of these pairs is below the target, or at it where that counts
abbrev pub NoneAhead : Bool → Target → List Pair → Type 0
NoneAhead or_at target pairs = All (λ pair. is_ahead or_at target pair ≡ false) pairs

-- a leaf has nothing for a search to the left: it begins above the target, or the search has it and none of its pairs is below the target, or at it where that counts
abbrev pub IsClearLeft : World → ℕ → Bool → Target → ℕ → NodeValue → Type 0
IsClearLeft w op or_at target page node = IsAboveTarget target node.low ⊎ ((has_latch op page w ≡ true) × NoneAhead or_at target (pairs_in node))

-- a search to the left has passed all leaves that end above its place
abbrev pub HasPassedLeft : World → Tree → ℕ → Bool → Target → Pair → Type 0
HasPassedLeft w t op or_at target low = (page : ℕ) (node : NodeValue) → IsLeaf w t page node → EndsAbove low node.high → IsClearLeft w op or_at target page node
