use Rattle.std.proofs.Common.{◌≡◌, ◌++◌, map, take}
use Rattle.ct_definitions.specs.Keys.{upper_cased}
use Rattle.ct_key.specs.Parts.{in_order}
use Rattle.ct_key.proofs.parts.add_upper_cased.Given as goal

abbrev pub invariant-loop-byte : goal.invariant-loop-byte
invariant-loop-byte l = l.into ≡ l.fn.into ++ in_order l.desc (map upper_cased (take l.byte-index l.bytes))
