use Rattle.std.proofs.Common.{◌<◌, ◌^◌, take}
use Rattle.std.specs.List.{flat_map}
use Rattle.std.proofs.lemmas.List.{get_or_default}
use Rattle.std.proofs.lemmas.List.Elements.{All-more}
use Rattle.ct_codec.proofs.Writes.{KeepsFront-after, on_err, written_more}
use Rattle.ct_group.specs.declared.group.Unfinished.{Unfinished}
use Rattle.ct_group.specs.Groups.{unfinished_codec}
use Rattle.ct_group.proofs.write.push_unfinished.Goals as goal

pub returns-in_err-push_one_unfinished-clause-err : goal.returns-in_err-push_one_unfinished-clause-err
returns-in_err-push_one_unfinished-clause-err c =
    let written = flat_map unfinished_codec.text (take c.loop-one.one-index c.args.unfinished.now) in
    on_err c.from_residual.result (KeepsFront-after c.args.into.now.items written c.loop-one.into.items c.push_one_unfinished.new.into.items c.loop-one.invariant.written c.in_err-push_one_unfinished.ensures.err)

pub loop-one-preserved : goal.loop-one-preserved
loop-one-preserved c =
    let unfinished = c.args.unfinished.now in
    let at = c.loop-one.one-index in
    record {
      written = written_more unfinished_codec.text c.args.into.now.items c.loop-one.into.items c.push_one_unfinished.new.into.items unfinished at _ c.loop-one-test.true (get_or_default unfinished at _ _ c.loop-one-test.true) c.loop-one.invariant.written c.in_ok-push_one_unfinished.ensures.ok;
      fits = All-more (λ (one : Unfinished). one.steps < 2 ^ 32) unfinished at _ c.loop-one-test.true c.loop-one.invariant.fits c.in_ok-push_one_unfinished.ensures.fits;
    }
