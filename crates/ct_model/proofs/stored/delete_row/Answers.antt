use Rattle.std.proofs.Common.{◌≡◌, sym, ◌∙◌, length, drop, vec_len, arith}
use Rattle.std.specs.Vec.{with_items}
use Rattle.ct_model.proofs.Kept.{take_front, deleted, not_deleted, reads_old, take_read}
use Rattle.ct_model.proofs.stored.delete_row.Goals as goal

pub returns-in_default-clause-rows : goal.returns-in_default-clause-rows
returns-in_default-clause-rows c = not_deleted c.args.file.now c.args.num (sym (rw c.as_slice.ensures at c.in_default.ensures))

pub take_pairs-requires : goal.take_pairs-requires
take_pairs-requires c =
    reads_old c.args.file.now c.as_slice-indexes.result.now c.args.num c.in-Some.old.now c.as_slice-indexes.ensures c.requires.fitting (sym (rw c.as_slice.ensures at c.in-Some.ensures))

pub returns-clause-stored : goal.returns-clause-stored
returns-clause-stored c =
    deleted c.args.file.now c.args.cache.now c.args.num c.in-Some.old.now c.take_row.new.rows (record { full_below = c.min-cache.result; pairs = with_items c.args.cache.now.pairs c.take_pairs.new.pairs }) c.requires
    (sym (rw c.as_slice.ensures at c.in-Some.ensures)) c.take_row.ensures c.min-cache.ensures
    (take_front c.take_pairs.new.pairs (drop (length c.take_pairs.new.pairs) c.args.cache.now.pairs.items) (vec_len c.args.cache.now.pairs) (let len : length c.take_pairs.new.pairs ≡ vec_len c.args.cache.now.pairs = omega (arith, c.take_pairs.auto.pairs, c.as_mut_slice.ensures.len) in len)
    ∙ take_read c.as_slice-indexes.result.now c.args.file.now.def.indexes (record { num = c.args.num; image = c.in-Some.old.now }) c.as_mut_slice.result.now c.args.cache.now.pairs.items c.take_pairs.new.pairs
    c.as_slice-indexes.ensures c.as_mut_slice.ensures.value c.take_pairs.ensures)
