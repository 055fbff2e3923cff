use Rattle.std.proofs.Common.{ℕ, List, [], ◌∷◌, ◌++◌, length, ap, subst, arith, ◌∙◌}
use Rattle.std.specs.Prelude.{All}
use Rattle.ct_change_codec.specs.ChangeFormat.{FitsChange}
use Rattle.std.specs.Int.{w32, to_le_bytes}
use Rattle.std.proofs.lemmas.Result.{on_ok_weaker, on_err_weaker}
use Rattle.ct_definitions.specs.declared.change.Change.{Change}
use Rattle.ct_codec.proofs.Writes.{KeepsFront-after}
use Rattle.ct_group.specs.Commit.{changes_text}
use Rattle.ct_group.proofs.Texts.{body_written}
use Rattle.ct_group.proofs.write.push_body.Goals as goal

pub returns-clause-ok : goal.returns-clause-ok
returns-clause-ok c =
    let numbered : List ℕ = c.write_u64.new.into.items in
    let of_session : List ℕ = c.write_u16.new.into.items in
    let made : List ℕ = c.write_u8.new.into.items in
    let counted : List ℕ = c.write_u32.new.into.items in
    let same = c.as_slice-changes.ensures in
    on_ok_weaker c.push_changes.result
    (λ changes. body_written c.args.transaction.now c.args.into.now.items numbered of_session made counted c.push_changes.new.into.items
    c.in_ok-write_u64.ensures.ok
    c.in_ok-write_u16.ensures.ok
    (c.in_ok-write_u8.ensures.ok ∙ ap (λ n. of_session ++ n ∷ []) c.made_number.ensures)
    (c.in_ok-write_u32.ensures.ok ∙ ap (λ (l : List Change). made ++ to_le_bytes w32 (length l)) same)
    (changes ∙ ap (λ (l : List Change). counted ++ changes_text l) same))
    c.push_changes.ensures.ok

pub returns-clause-err : goal.returns-clause-err
returns-clause-err c =
    let new = c.push_changes.new.into.items in
    let numbered = c.write_u64.new.into.items in
    let of_session = c.write_u16.new.into.items in
    let made = c.write_u8.new.into.items in
    let counted = c.write_u32.new.into.items in
    on_err_weaker c.push_changes.result
    (λ keeps. KeepsFront-after c.args.into.now.items _ numbered new c.in_ok-write_u64.ensures.ok (KeepsFront-after numbered _ of_session new c.in_ok-write_u16.ensures.ok (KeepsFront-after of_session _ made new c.in_ok-write_u8.ensures.ok (KeepsFront-after made _ counted new c.in_ok-write_u32.ensures.ok keeps))))
    c.push_changes.ensures.err

pub returns-clause-fits : goal.returns-clause-fits
returns-clause-fits c = on_ok_weaker c.push_changes.result (λ fits. (subst (λ (l : List Change). All FitsChange l) c.as_slice-changes.ensures fits, omega arith)) c.push_changes.ensures.fits
