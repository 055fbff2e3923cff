use Rattle.std.proofs.Common.{◌+◌, ◌/◌, arith}
use Rattle.ct_slots.proofs.Places.{few_rows, sorted_on, place_by_nums}
use Rattle.ct_slots.proofs.find.place_of.Goals as goal

pub overflow_add-middle : goal.overflow_add-middle
overflow_add-middle c = omega (arith, few_rows c.args.page.now c.requires, c.loop-low.invariant.within, c.loop-low.invariant.order)

pub num_at-requires : goal.num_at-requires
num_at-requires c = omega (arith, few_rows c.args.page.now c.requires, c.loop-low.invariant.within, c.loop-low.invariant.order)

pub loop-low-preserved-then-num_at-num : goal.loop-low-preserved-then-num_at-num
loop-low-preserved-then-num_at-num c =
    let middle = (c.loop-low.low + c.loop-low.high) / 2 in
    record {
      order = omega arith;
      within = c.loop-low.invariant.within;
      below = λ k less. omega (arith, sorted_on c.args.page.now c.requires k middle (omega arith) (omega (arith, c.loop-low.invariant.within)));
      from = c.loop-low.invariant.from;
    }

pub loop-low-preserved : goal.loop-low-preserved
loop-low-preserved c =
    let middle = (c.loop-low.low + c.loop-low.high) / 2 in
    record {
      order = omega arith;
      within = omega (arith, c.loop-low.invariant.within);
      below = c.loop-low.invariant.below;
      from = λ k low less. omega (arith, sorted_on c.args.page.now c.requires middle k low less);
    }

pub returns : goal.returns
returns c =
    place_by_nums c.args.page.now c.args.num c.loop-low.low (omega (arith, c.loop-low.invariant.within, c.loop-low.invariant.order)) c.loop-low.invariant.below (λ k low less. c.loop-low.invariant.from k (omega arith) less)
