use Rattle.std.proofs.Common.{◌≡◌, ◌++◌, ◌<◌, ◌^◌, take}
use Rattle.std.specs.List.{flat_map, All}
use Rattle.ct_group.specs.Groups.{unfinished_codec}
use Rattle.ct_group.proofs.write.push_unfinished.Given as goal

abbrev pub invariant-loop-one : goal.invariant-loop-one
invariant-loop-one l = record {
  written : l.into.items ≡ l.fn.into.items ++ flat_map unfinished_codec.text (take l.one-index l.unfinished);
  fits : All (λ one. one.steps < 2 ^ 32) (take l.one-index l.unfinished);
}
