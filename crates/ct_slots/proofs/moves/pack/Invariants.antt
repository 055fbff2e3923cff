use Rattle.std.proofs.Common.{◌≡◌, ◌≤◌, length}
use Rattle.ct_slots.proofs.Steps.{pack_from}
use Rattle.ct_slots.proofs.moves.pack.Given as goal

abbrev pub invariant-loop-place : goal.invariant-loop-place
invariant-loop-place l = record {
  same : pack_from l.at l.place l.count l.image_end l.page ≡ pack_from l.at 0 l.count l.end l.initial.page;
  end : l.image_end ≤ 4096;
  long : length l.page ≡ 4096;
}
