use Rattle.std.proofs.Common.{◌≡◌, ◌≤◌, ◌+◌, ◌*◌, ◌++◌, take, vec_len, vec_capacity}
use Rattle.ct_text.specs.Words.{spelling}
use Rattle.ct_text.proofs.spelling.spell_each.Given as goal

abbrev pub invariant-loop-byte : goal.invariant-loop-byte
invariant-loop-byte l = record {
  spelled : l.into.items ≡ l.fn.into.items ++ spelling (take l.byte-index l.bytes);
  short : vec_len l.into ≤ vec_len l.fn.into + 3 * l.byte-index;
  capacity : vec_capacity l.fn.into ≤ vec_capacity l.into;
}
