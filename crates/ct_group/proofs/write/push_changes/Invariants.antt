use Rattle.std.proofs.Common.{◌≡◌, ◌++◌, take}
use Rattle.std.specs.Prelude.{All}
use Rattle.ct_change_codec.specs.ChangeFormat.{FitsChange}
use Rattle.ct_group.specs.Commit.{changes_text}
use Rattle.ct_group.proofs.write.push_changes.Given as goal

abbrev pub invariant-loop-change : goal.invariant-loop-change
invariant-loop-change l = record {
  written : l.into.items ≡ l.fn.into.items ++ changes_text (take l.change-index l.changes);
  fits : All FitsChange (take l.change-index l.changes);
}
