use Rattle.std.proofs.Common.{◌≡◌, ◌++◌, take}
use Rattle.std.specs.List.{flat_map, All}
use Rattle.ct_change_codec.specs.DefinitionFormat.{seg_codec, FitsSeg}
use Rattle.ct_change_codec.proofs.write_definitions.push_segs.Given as goal

abbrev pub invariant-loop-seg : goal.invariant-loop-seg
invariant-loop-seg l = record {
  written : l.into.items ≡ l.fn.into.items ++ flat_map seg_codec.text (take l.seg-index l.segs);
  fits : All FitsSeg (take l.seg-index l.segs);
}
