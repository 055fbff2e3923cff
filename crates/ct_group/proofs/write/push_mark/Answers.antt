use Rattle.std.proofs.Common.{◌∷◌}
use Rattle.std.specs.Int.{w32, w64, to_le_bytes}
use Rattle.std.proofs.lemmas.Result.{on_ok_weaker}
use Rattle.ct_group.specs.declared.group.Group.TheVariants.{Mark}
use Rattle.ct_group.specs.Groups.{group_codec}
use Rattle.ct_group.proofs.GroupTexts.{behind_head, mark_spelled}
use Rattle.ct_group.proofs.write.push_mark.Goals as goal

pub returns-clause-ok : goal.returns-clause-ok
returns-clause-ok c =
    let number = c.args.number in
    on_ok_weaker c.write_u64.result
    (λ wrote. behind_head c.args.into.now.items (4 ∷ to_le_bytes w32 8) (to_le_bytes w64 number) c.push_head.new.into.items c.write_u64.new.into.items (group_codec.text (Mark number)) c.in_ok-push_head.ensures.ok wrote (mark_spelled number))
    c.write_u64.ensures.ok
