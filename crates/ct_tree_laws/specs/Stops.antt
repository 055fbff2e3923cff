-- What a stop leaves: no operation has a latch or a page any more.
use Rattle.std.specs.Prelude.{ℕ, List, [], ◌++◌, map}
use Rattle.ct_node.specs.declared.root.Owner.{Owner}
use Rattle.ct_node.specs.Worlds.{World, with_lost}

-- the pages that no link reaches when all stops: those that were lost before, and those of operations that were under way
abbrev pub lost_by_stop : List ℕ → World → List ℕ
lost_by_stop lost w = map (λ (owner : Owner). owner.page) w.fresh ++ lost

-- the world after a stop, with the pages that it has lost
abbrev pub stopped : List ℕ → World → World
stopped lost w = with_lost (lost_by_stop lost w) (record w { holds = []; fresh = [] })
