use Rattle.std.proofs.Common.{take, subst}
use Rattle.std.specs.List.{flat_map}
use Rattle.std.proofs.lemmas.List.Elements.{All-more}
use Rattle.ct_codec.proofs.Writes.{KeepsFront-after, on_err, written_more}
use Rattle.ct_change_codec.specs.DefinitionFormat.{index_codec, FitsIndex}
use Rattle.ct_change_codec.proofs.write_definitions.push_indexes.Goals as goal

pub returns-in_err-push_index-clause-err : goal.returns-in_err-push_index-clause-err
returns-in_err-push_index-clause-err c =
    let written = flat_map index_codec.text (take c.loop-index.index-index c.args.indexes.now) in
    on_err c.from_residual.result (KeepsFront-after c.args.into.now.items written c.loop-index.into.items c.push_index.new.into.items c.loop-index.invariant.written c.in_err-push_index.ensures.err)

pub loop-index-preserved : goal.loop-index-preserved
loop-index-preserved c =
    let indexes = c.args.indexes.now in
    let at = c.loop-index.index-index in
    let index = c.index-item.result in
    record {
      written = written_more index_codec.text c.args.into.now.items c.loop-index.into.items c.push_index.new.into.items indexes at index c.loop-index-test.true c.index-item.is c.loop-index.invariant.written c.in_ok-push_index.ensures.ok;
      fits = All-more FitsIndex indexes at index c.loop-index-test.true c.loop-index.invariant.fits (subst FitsIndex c.index-item.is c.in_ok-push_index.ensures.fits);
    }
