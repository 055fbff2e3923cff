use Rattle.std.proofs.Common.{◌≡◌, ◌++◌, take}
use Rattle.std.specs.List.{flat_map, All}
use Rattle.ct_change_codec.specs.DefinitionFormat.{index_codec, FitsIndex}
use Rattle.ct_change_codec.proofs.write_definitions.push_indexes.Given as goal

abbrev pub invariant-loop-index : goal.invariant-loop-index
invariant-loop-index l = record {
  written : l.into.items ≡ l.fn.into.items ++ flat_map index_codec.text (take l.index-index l.indexes);
  fits : All FitsIndex (take l.index-index l.indexes);
}
