use Rattle.std.proofs.Common.{◌≡◌, ◌+◌, ◌-◌, ◌*◌, ◌≤◌}
use Rattle.ct_slots.specs.Checks.{images_begin}
use Rattle.ct_slots.proofs.check.images_begin.Given as goal

abbrev pub invariant-loop-place : goal.invariant-loop-place
invariant-loop-place l = record {
  rest : images_begin (l.count - l.place) (128 + 8 * l.place) l.low l.end l.page ≡ images_begin l.count 128 0 4096 l.page;
  end : l.end ≤ 4096;
}
