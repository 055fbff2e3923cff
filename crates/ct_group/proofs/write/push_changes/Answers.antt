use Rattle.std.proofs.Common.{take, subst}
use Rattle.std.proofs.lemmas.List.Elements.{All-more}
use Rattle.ct_codec.proofs.Writes.{KeepsFront-after, on_err, written_more}
use Rattle.ct_change_codec.specs.ChangeFormat.{change_codec, FitsChange}
use Rattle.ct_group.specs.Commit.{changes_text}
use Rattle.ct_group.proofs.write.push_changes.Goals as goal

pub returns-in_err-push_change-clause-err : goal.returns-in_err-push_change-clause-err
returns-in_err-push_change-clause-err c =
    let written = changes_text (take c.loop-change.change-index c.args.changes.now) in
    on_err c.from_residual.result (KeepsFront-after c.args.into.now.items written c.loop-change.into.items c.push_change.new.into.items c.loop-change.invariant.written c.in_err-push_change.ensures.err)

pub loop-change-preserved : goal.loop-change-preserved
loop-change-preserved c =
    let changes = c.args.changes.now in
    let at = c.loop-change.change-index in
    let change = c.change-item.result in
    record {
      written = written_more change_codec.text c.args.into.now.items c.loop-change.into.items c.push_change.new.into.items changes at change c.loop-change-test.true c.change-item.is c.loop-change.invariant.written c.in_ok-push_change.ensures.ok;
      fits = All-more FitsChange changes at change c.loop-change-test.true c.loop-change.invariant.fits (subst FitsChange c.change-item.is c.in_ok-push_change.ensures.fits);
    }
