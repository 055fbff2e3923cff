use Rattle.std.proofs.Common.{◌≡◌, true, false, ap, sym, ◌∙◌, refl, length, drop, vec_len, arith}
use Rattle.std.specs.Vec.{with_items}
use Rattle.ct_definitions.specs.declared.store.Row.{Row}
use Rattle.ct_model.proofs.EachPairs.{all_undone}
use Rattle.ct_model.proofs.Kept.{take_front, added, added_full, added_rising, unchanged, reads_image, apart_read, put_read, taken_read}
use Rattle.ct_model.proofs.stored.put_record.Goals as goal

pub put_free_pairs-requires-clause-reads : goal.put_free_pairs-requires-clause-reads
put_free_pairs-requires-clause-reads c =
    reads_image c.args.file.now c.as_slice-indexes.result.now c.args.image c.as_slice.result.now c.as_slice-indexes.ensures c.as_slice.ensures c.requires.stored.fitting c.requires.len

pub put_free_pairs-requires-clause-apart : goal.put_free_pairs-requires-clause-apart
put_free_pairs-requires-clause-apart c =
    apart_read c.args.file.now c.args.cache.now c.args.num c.as_slice-indexes.result.now c.as_slice.result.now c.as_mut_slice-pairs.result.now c.as_slice-indexes.ensures c.as_mut_slice-pairs.ensures.value c.requires.stored c.requires.free

pub returns-in-Err-clause-taken : goal.returns-in-Err-clause-taken
returns-in-Err-clause-taken c = λ is.
    taken_read c.args.file.now c.args.cache.now c.args.num c.as_slice-indexes.result.now c.args.image c.as_slice.result.now c.as_mut_slice-pairs.result.now true c.as_slice-indexes.ensures c.as_slice.ensures c.as_mut_slice-pairs.ensures.value c.requires.stored
    (c.in-Err.ensures.taken is)

pub returns-in-Err-clause-memory : goal.returns-in-Err-clause-memory
returns-in-Err-clause-memory c = λ is.
    taken_read c.args.file.now c.args.cache.now c.args.num c.as_slice-indexes.result.now c.args.image c.as_slice.result.now c.as_mut_slice-pairs.result.now false c.as_slice-indexes.ensures c.as_slice.ensures c.as_mut_slice-pairs.ensures.value c.requires.stored
    (c.in-Err.ensures.memory is)

pub take_pairs-requires : goal.take_pairs-requires
take_pairs-requires c =
    reads_image c.args.file.now c.as_slice-indexes.result.now c.args.image c.as_slice-in-Err-put_row.result.now c.as_slice-indexes.ensures (c.as_slice-in-Err-put_row.ensures ∙ ap (λ (r : Row). r.image) c.in-Err-put_row.ensures.back) c.requires.stored.fitting c.requires.len

pub returns-in-Err-put_row-clause-memory : goal.returns-in-Err-put_row-clause-memory
returns-in-Err-put_row-clause-memory c = λ is.
    taken_read c.args.file.now c.args.cache.now c.args.num c.as_slice-indexes.result.now c.args.image c.as_slice.result.now c.as_mut_slice-pairs.result.now false c.as_slice-indexes.ensures c.as_slice.ensures c.as_mut_slice-pairs.ensures.value c.requires.stored
    c.in_default.ensures.free

pub returns-in-Err-put_row-clause-stored : goal.returns-in-Err-put_row-clause-stored
returns-in-Err-put_row-clause-stored c =
    unchanged c.args.file.now c.args.cache.now c.put_row.new.rows (record { full_below = c.args.cache.now.full_below; pairs = with_items c.args.cache.now.pairs c.take_pairs.new.pairs }) c.requires.stored
    c.in-Err-put_row.ensures.err
    refl
    (take_front c.take_pairs.new.pairs (drop (length c.take_pairs.new.pairs) c.args.cache.now.pairs.items) (vec_len c.args.cache.now.pairs) (let len : length c.take_pairs.new.pairs ≡ vec_len c.args.cache.now.pairs = omega (arith, c.take_pairs.auto.pairs, c.put_free_pairs.auto.pairs, c.as_mut_slice-pairs.ensures.len) in len)
    ∙ all_undone c.as_slice-indexes.result.now c.args.num c.as_slice.result.now c.as_slice-in-Err-put_row.result.now c.as_mut_slice-pairs.result.now c.put_free_pairs.new.pairs c.take_pairs.new.pairs
    (apart_read c.args.file.now c.args.cache.now c.args.num c.as_slice-indexes.result.now c.as_slice.result.now c.as_mut_slice-pairs.result.now c.as_slice-indexes.ensures c.as_mut_slice-pairs.ensures.value c.requires.stored c.requires.free)
    (c.as_slice-in-Err-put_row.ensures ∙ ap (λ (r : Row). r.image) c.in-Err-put_row.ensures.back ∙ sym c.as_slice.ensures) c.in_default.ensures.ok c.take_pairs.ensures
    ∙ c.as_mut_slice-pairs.ensures.value)

pub open_after-cache-requires-clause-rising : goal.open_after-cache-requires-clause-rising
open_after-cache-requires-clause-rising c =
    rw c.as_slice-2.ensures (added_rising c.args.file.now c.args.cache.now (record { num = c.args.num; image = c.args.image }) c.put_row.new.rows c.requires.stored c.requires.num c.requires.free c.in_default-put_row.ensures.ok)

pub open_after-cache-requires-clause-full : goal.open_after-cache-requires-clause-full
open_after-cache-requires-clause-full c =
    rw c.as_slice-2.ensures (added_full c.args.file.now c.args.cache.now (record { num = c.args.num; image = c.args.image }) c.put_row.new.rows c.least_len-least.result c.requires.stored c.in_default-put_row.ensures.ok c.least_len-least.ensures)

pub returns-clause-free : goal.returns-clause-free
returns-clause-free c =
    taken_read c.args.file.now c.args.cache.now c.args.num c.as_slice-indexes.result.now c.args.image c.as_slice.result.now c.as_mut_slice-pairs.result.now false c.as_slice-indexes.ensures c.as_slice.ensures c.as_mut_slice-pairs.ensures.value c.requires.stored
    c.in_default.ensures.free

pub returns-clause-stored : goal.returns-clause-stored
returns-clause-stored c =
    added c.args.file.now c.args.cache.now (record { num = c.args.num; image = c.args.image }) c.put_row.new.rows (record { full_below = c.open_after-cache.result; pairs = with_items c.args.cache.now.pairs c.put_free_pairs.new.pairs }) c.requires.stored
    c.requires.len c.requires.num c.requires.free c.in_default-put_row.ensures.ok c.open_after-cache.ensures.bound
    (rw (← c.least_len-least.ensures, ← c.as_slice-2.ensures) c.open_after-cache.ensures.full)
    (take_front c.put_free_pairs.new.pairs (drop (length c.put_free_pairs.new.pairs) c.args.cache.now.pairs.items) (vec_len c.args.cache.now.pairs) (let len : length c.put_free_pairs.new.pairs ≡ vec_len c.args.cache.now.pairs = omega (arith, c.put_free_pairs.auto.pairs, c.as_mut_slice-pairs.ensures.len) in len)
    ∙ put_read c.as_slice-indexes.result.now c.args.file.now.def.indexes c.args.num c.as_slice.result.now c.args.image c.as_mut_slice-pairs.result.now c.args.cache.now.pairs.items c.put_free_pairs.new.pairs
    c.as_slice-indexes.ensures c.as_slice.ensures c.as_mut_slice-pairs.ensures.value c.in_default.ensures.ok)
