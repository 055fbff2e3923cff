use Rattle.std.proofs.Common.{sym, ◌∙◌}
use Rattle.ct_model.proofs.EachPairs.{exchange_undone}
use Rattle.ct_model.proofs.index_pairs.+exchange_pairs.Goals as goal

pub returns-in-Err-clause-err : goal.returns-in-Err-clause-err
returns-in-Err-clause-err t c =
    exchange_undone c.args.indexes.now c.in-Some.others.now c.in-Some.index.now c.args.num c.args.old.now c.args.new.now c.args.pairs.now c.in-Some-split_first_mut.rest.now c.exchange_pairs-2.new.pairs
    c.in-Some-split_first_mut.first.now c.put_pair.new.pairs c.take_pair.new.pairs
    c.in-Some.ensures.cases.0 c.in-Some-split_first_mut.ensures.cases.0 c.requires.fresh (sym c.has_same_key.ensures ∙ c.if-has_same_key.false) c.in_ok-put_pair.ensures.ok c.take_pair.ensures c.in-Err.ensures.err
