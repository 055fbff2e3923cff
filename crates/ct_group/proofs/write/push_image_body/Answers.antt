use Rattle.std.proofs.Common.{List, ℕ, ◌++◌, ap, ◌∙◌}
use Rattle.std.proofs.lemmas.Result.{on_ok_weaker}
use Rattle.ct_group.proofs.GroupTexts.{image_written}
use Rattle.ct_group.proofs.write.push_image_body.Goals as goal

pub returns-clause-ok : goal.returns-clause-ok
returns-clause-ok c =
    let paged = c.write_u64.new.into.items in
    let of_transaction = c.write_u64-2.new.into.items in
    let counted = c.write_u32.new.into.items in
    on_ok_weaker c.write_bytes.result
    (λ wrote. image_written c.args.image.now c.args.into.now.items paged of_transaction counted c.write_bytes.new.into.items c.in_ok-write_u64.ensures.ok c.in_ok-write_u64-2.ensures.ok c.in_ok-write_u32.ensures.ok
    (wrote ∙ ap (λ (l : List ℕ). counted ++ l) c.as_slice.ensures))
    c.write_bytes.ensures.ok
