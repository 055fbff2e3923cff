-- What an operation remembers between its turns.
use Rattle.std.specs.Prelude.{ℕ}
use Rattle.ct_node.specs.declared.reach.Reach.{Reach}
use Rattle.ct_node.specs.Worlds.{World}
use Rattle.ct_tree_laws.specs.declared.walk.Walk.{Walk}
use Rattle.ct_tree_laws.specs.declared.walk.Stage.{Stage}
use Rattle.ct_tree_laws.specs.Stands.{Stands}
use Rattle.ct_tree.specs.Moves.{looked_at}
use Rattle.ct_tree.specs.Counted.{IsCounted}
use Rattle.ct_tree.specs.declared.roles.Ways.{Ways}
use Rattle.ct_tree.specs.Roles.{HasRole, HasCome}

-- what an operation remembers of the tree stands, its moves are counted, and its page stands as it has come there
pub record Remembers (walk : Walk) (stage : Stage) (moves : ℕ) (ways : Ways) (w : World) : Type 0 where
  pub stands : Stands walk stage w
  pub counted : IsCounted stage moves w
  pub come : HasCome stage ways w

-- and the page that it looks at is in its role
pub record IsComing (walk : Walk) (stage : Stage) (reach : Reach) (w : World) : Type 0 where
  pub stands : Stands walk stage w
  pub role : HasRole (looked_at stage) reach w
