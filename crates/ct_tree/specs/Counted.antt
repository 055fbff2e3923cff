-- That no walk comes to a page twice in a sound store.
use Rattle.std.specs.Prelude.{◌≡◌, ℕ, ◌<◌, List, [], ◌∷◌, length, Bool, Option, Some, None, ◌⊎◌}
use Rattle.ct_definitions.specs.Pairs.{Pair}
use Rattle.ct_node.specs.Worlds.{World, IsLevel}
use Rattle.ct_tree_laws.specs.declared.walk.Stage.{Stage}
use Rattle.ct_tree_laws.specs.Trees.{Tree, IsAt, IsLower}
use Rattle.ct_tree.specs.declared.moves.Spot.{Spot}
use Rattle.ct_tree.specs.Moves.{spot_of}

-- links reach a node in a page, on this level and with this low bound
pub record IsPlaced (w : World) (level : ℕ) (low : Option Pair) (page : ℕ) : Type 0 where
  pub tree : Tree
  pub leaf : Bool
  pub at : IsAt w tree leaf low page
  pub level_is : IsLevel w level page

-- a page is onward from another: on a lower level, or on the same one and further right
pub record IsOnward (w : World) (page next : ℕ) : Type 0 where
  pub level : ℕ
  pub low : Option Pair
  pub next_level : ℕ
  pub next_low : Option Pair
  pub here : IsPlaced w level low page
  pub there : IsPlaced w next_level next_low next
  pub onward : (next_level < level) ⊎ ((next_level ≡ level) × IsLower low next_low)

-- pages that lead to a page, the last one first: each is onward from the one before it
abbrev pub IsPath : World → ℕ → List ℕ → Type 0
IsPath w page [] = Unit {0}
IsPath w page (before ∷ pages) = IsOnward w before page × IsPath w before pages

-- as many moves as such pages; none where the walk is at no page
abbrev pub IsCountedAt : World → Option Spot → ℕ → Type 0
IsCountedAt w None moves = moves ≡ 0
IsCountedAt w (Some spot) moves = (pages : List ℕ) × (length pages ≡ moves) × IsPath w spot.page pages

-- what an operation has counted: the pages that its walk has come from
abbrev pub IsCounted : Stage → ℕ → World → Type 0
IsCounted at moves w = IsCountedAt w (spot_of at) moves
