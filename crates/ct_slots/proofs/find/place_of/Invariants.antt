use Rattle.std.proofs.Common.{ℕ, ◌+◌, ◌-◌, ◌*◌, ◌<◌, ◌≤◌, length}
use Rattle.ct_page.specs.Fields.{u16_at}
use Rattle.ct_slots.specs.Pages.{rows_on}
use Rattle.ct_slots.proofs.find.place_of.Given as goal

abbrev pub invariant-loop-low : goal.invariant-loop-low
invariant-loop-low l = record {
  order : l.low ≤ l.high;
  within : l.high ≤ length (rows_on l.page);
  below : (k : ℕ) → k < l.low → u16_at (128 + 8 * k) l.page < l.num;
  from : (k : ℕ) → l.high ≤ k → k < length (rows_on l.page) → l.num ≤ u16_at (128 + 8 * k) l.page;
}

abbrev pub decreases-loop-low : goal.decreases-loop-low
decreases-loop-low l = l.high - l.low
