use Rattle.std.proofs.Common.{List, ℕ, ◌+◌, ◌*◌, ◌∷◌, ◌++◌, length, ap, ◌∙◌}
use Rattle.std.specs.List.{flat_map}
use Rattle.std.specs.Int.{w32, to_le_bytes}
use Rattle.std.proofs.lemmas.Result.{on_ok_weaker, on_err_weaker}
use Rattle.ct_codec.proofs.Writes.{KeepsFront-after}
use Rattle.ct_group.specs.declared.group.Unfinished.{Unfinished}
use Rattle.ct_group.specs.Groups.{unfinished_codec}
use Rattle.ct_group.proofs.GroupTexts.{checkpoint_written}
use Rattle.ct_group.proofs.write.push_checkpoint.Goals as goal

pub returns-clause-ok : goal.returns-clause-ok
returns-clause-ok c =
    let old : List ℕ = c.args.into.now.items in
    let headed : List ℕ = c.push_head.new.into.items in
    let placed : List ℕ = c.write_u64.new.into.items in
    let counted : List ℕ = c.write_u32.new.into.items in
    let same = c.as_slice-unfinished.ensures in
    on_ok_weaker c.push_unfinished.result
    (λ wrote. checkpoint_written c.args.checkpoint.now old headed placed counted c.push_unfinished.new.into.items
    (c.in_ok-push_head.ensures.ok ∙ ap (λ (l : List Unfinished). old ++ (3 ∷ to_le_bytes w32 (12 + 12 * length l))) same)
    c.in_ok-write_u64.ensures.ok
    (c.in_ok-write_u32.ensures.ok ∙ ap (λ (l : List Unfinished). placed ++ to_le_bytes w32 (length l)) same)
    (wrote ∙ ap (λ (l : List Unfinished). counted ++ flat_map unfinished_codec.text l) same))
    c.push_unfinished.ensures.ok

pub returns-clause-err : goal.returns-clause-err
returns-clause-err c =
    let new = c.push_unfinished.new.into.items in
    let headed = c.push_head.new.into.items in
    let placed = c.write_u64.new.into.items in
    let counted = c.write_u32.new.into.items in
    on_err_weaker c.push_unfinished.result
    (λ keeps. KeepsFront-after c.args.into.now.items _ headed new c.in_ok-push_head.ensures.ok (KeepsFront-after headed _ placed new c.in_ok-write_u64.ensures.ok (KeepsFront-after placed _ counted new c.in_ok-write_u32.ensures.ok keeps)))
    c.push_unfinished.ensures.err
