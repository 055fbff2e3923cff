use Rattle.ct_model.proofs.EachPairs.{put_undone}
use Rattle.ct_model.proofs.index_pairs.+put_each_free.Goals as goal

pub returns-in-Err-clause-err : goal.returns-in-Err-clause-err
returns-in-Err-clause-err t c =
    put_undone c.args.indexes.now c.in-Some.others.now c.in-Some.index.now (record { num = c.args.num; image = c.args.image.now }) c.args.pairs.now c.in-Some-split_first_mut.rest.now c.put_each_free.new.pairs
    c.in-Some-split_first_mut.first.now c.put_free_pair.new.pairs c.take_pair.new.pairs
    c.in-Some.ensures.cases.0 c.in-Some-split_first_mut.ensures.cases.0 c.requires.apart c.in_ok-put_free_pair.ensures.ok c.take_pair.ensures c.in-Err.ensures.err
