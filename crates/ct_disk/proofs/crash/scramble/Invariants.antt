use Rattle.std.proofs.Common.{◌≡◌, ◌≤◌, ◌<◌, ℕ, length, slice_index}
use Rattle.ct_disk.proofs.crash.scramble.Given as goal

abbrev pub invariant-loop-i : goal.invariant-loop-i
invariant-loop-i l = record {
  length_of : length l.bytes.items ≡ length l.fn.bytes.items;
  before : (k : ℕ) → k < l.from → slice_index l.bytes.items k ≡ slice_index l.fn.bytes.items k;
  behind : (k : ℕ) → l.to ≤ k → slice_index l.bytes.items k ≡ slice_index l.fn.bytes.items k;
}
