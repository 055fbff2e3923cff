use Rattle.std.proofs.Common.{◌≡◌}
use Rattle.std.specs.Vec.Iter.{drain_items, DrainKeeps}
use Rattle.ct_definitions.specs.Histories.{after_changes, allows_all}
use Rattle.ct_recover.proofs.replay.make_changes.Given as goal

-- the changes that are left make of the state what all of them make of the first one, and are defined where these are
abbrev pub invariant-loop-change : goal.invariant-loop-change
invariant-loop-change l =
    (goal.iterator-loop-change).can_next l.change-iterator
    × (goal.iterator-loop-change).is_finite l.change-iterator
    × DrainKeeps l.initial.change-iterator l.change-iterator
    × (after_changes l.state (drain_items l.change-iterator) ≡ after_changes l.initial.state l.fn.changes)
    × (allows_all l.state (drain_items l.change-iterator) ≡ allows_all l.initial.state l.fn.changes)
