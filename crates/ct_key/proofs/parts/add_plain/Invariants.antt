use Rattle.std.proofs.Common.{◌≡◌, ◌++◌, take}
use Rattle.ct_key.specs.Parts.{in_order}
use Rattle.ct_key.proofs.parts.add_plain.Given as goal

abbrev pub invariant-loop-byte : goal.invariant-loop-byte
invariant-loop-byte l = l.into ≡ l.fn.into ++ in_order l.desc (take l.byte-index l.bytes)
