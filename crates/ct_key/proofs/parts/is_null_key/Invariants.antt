use Rattle.std.proofs.Common.{◌≡◌, true, eqb, take}
use Rattle.std.specs.List.{list_all}
use Rattle.ct_definitions.specs.Keys.{segment_bytes}
use Rattle.ct_key.proofs.parts.is_null_key.Given as goal

abbrev pub invariant-loop-seg : goal.invariant-loop-seg
invariant-loop-seg l =
    list_all (λ seg. list_all (λ byte. eqb byte l.null) (segment_bytes seg l.image)) (take l.seg-index l.segs) ≡ true
