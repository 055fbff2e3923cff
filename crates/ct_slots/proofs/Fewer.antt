-- Records without one use no more of a page.
use Rattle.std.proofs.Common.{◌≤◌, ℕ, Bool, true, false, cond, eqb, List, [], ◌∷◌, arith}
use Rattle.ct_definitions.specs.declared.store.Row.{Row}
use Rattle.ct_definitions.specs.Changes.{without_row}
use Rattle.ct_slots.specs.Pages.{rows_use}
use Rattle.ct_slots.proofs.Rows.{rows_use-cons}

without_by : (same : Bool) (num : ℕ) (row : Row) (rows : List Row) → rows_use (without_row num rows) ≤ rows_use rows → rows_use (cond same rows (row ∷ without_row num rows)) ≤ rows_use (row ∷ rows)
without_by true num row rows fewer = omega (arith, rows_use-cons row rows)
without_by false num row rows fewer = omega (arith, rows_use-cons row rows, rows_use-cons row (without_row num rows))

-- records without one use no more
pub rows_use-without : (num : ℕ) (rows : List Row) → rows_use (without_row num rows) ≤ rows_use rows
rows_use-without num [] = omega arith
rows_use-without num (row ∷ rows) = without_by (eqb row.num num) num row rows (rows_use-without num rows)
