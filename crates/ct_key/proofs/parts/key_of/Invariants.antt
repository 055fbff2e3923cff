use Rattle.std.proofs.Common.{◌≡◌, length, take}
use Rattle.std.specs.List.{flat_map}
use Rattle.ct_definitions.specs.Keys.{key_part}
use Rattle.ct_definitions.specs.Validity.{key_len}
use Rattle.ct_key.proofs.parts.key_of.Given as goal

abbrev pub invariant-loop-seg : goal.invariant-loop-seg
invariant-loop-seg l = record {
  key : l.into ≡ flat_map (λ seg. key_part seg l.image) (take l.seg-index l.segs);
  len : length l.into ≡ key_len (take l.seg-index l.segs);
}
