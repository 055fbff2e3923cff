use Rattle.std.proofs.Common.{◌≡◌, sym, subst, ℕ, ◌≤◌, ◌^◌, min, length, arith, Some, refl, ◌∙◌, drop, vec_len}
use Rattle.std.proofs.lemmas.Bool.Decides.{nat_tests}
use Rattle.std.specs.Vec.{with_items}
use Rattle.ct_definitions.specs.Validity.{least_len}
use Rattle.ct_definitions.specs.Room.{image_at, block_of}
use Rattle.ct_definitions.specs.Changes.{with_image}
use Rattle.ct_model.specs.Free.{AreFull}
use Rattle.ct_model.proofs.Kept.{take_front, rewritten, not_rewritten, reads_image, reads_old, fresh_read, exchange_read}
use Rattle.ct_model.proofs.FullBlocks.{AreFull-with_image, AreFull-with_shorter}
use Rattle.ct_model.proofs.stored.rewrite_row.Goals as goal

pub returns-in_default-clause-ok : goal.returns-in_default-clause-ok
returns-in_default-clause-ok c = not_rewritten c.args.file.now c.args.num c.args.image (sym (rw c.as_slice.ensures at c.in_default.ensures))

pub exchange_pairs-requires-clause-old : goal.exchange_pairs-requires-clause-old
exchange_pairs-requires-clause-old c =
    reads_old c.args.file.now c.as_slice-indexes.result.now c.args.num c.in-Some.old.now c.as_slice-indexes.ensures c.requires.stored.fitting (sym (rw c.as_slice.ensures at c.in-Some.ensures))

pub exchange_pairs-requires-clause-new : goal.exchange_pairs-requires-clause-new
exchange_pairs-requires-clause-new c =
    reads_image c.args.file.now c.as_slice-indexes.result.now c.args.image c.as_slice-3.result.now c.as_slice-indexes.ensures c.as_slice-3.ensures c.requires.stored.fitting c.requires.len

pub exchange_pairs-requires-clause-fresh : goal.exchange_pairs-requires-clause-fresh
exchange_pairs-requires-clause-fresh c =
    fresh_read c.args.file.now c.args.cache.now c.args.num c.as_slice-indexes.result.now c.in-Some.old.now c.as_slice-3.result.now c.as_mut_slice-pairs.result.now c.as_slice-indexes.ensures c.as_mut_slice-pairs.ensures.value c.requires.stored
    (sym (rw c.as_slice.ensures at c.in-Some.ensures))

pub returns-then-shrinks-clause-stored : goal.returns-then-shrinks-clause-stored
returns-then-shrinks-clause-stored c =
    let bound : min c.args.cache.now.full_below (block_of c.args.num) ≤ 2 ^ 57 = (let old = c.requires.stored.bound in omega arith) in
    let found : image_at c.args.num c.args.file.now.records ≡ Some c.in-Some.old.now = sym (rw c.as_slice.ensures at c.in-Some.ensures) in
    rewritten c.args.file.now c.args.cache.now c.args.num c.in-Some.old.now c.args.image c.put_image.new.rows (record { full_below = c.min-cache.result; pairs = with_items c.args.cache.now.pairs c.exchange_pairs.new.pairs }) c.requires.stored c.requires.len found
    c.put_image.ensures
    (subst (λ (block : ℕ). block ≤ 2 ^ 57) (sym c.min-cache.ensures) bound)
    (subst (λ (block : ℕ). AreFull block (least_len c.args.file.now.def.kind) (with_image c.args.num c.args.image c.args.file.now.records)) (sym c.min-cache.ensures)
    (AreFull-with_shorter c.args.cache.now.full_below (least_len c.args.file.now.def.kind) c.args.num c.args.image c.args.file.now.records c.requires.stored.full))
    (take_front c.exchange_pairs.new.pairs (drop (length c.exchange_pairs.new.pairs) c.args.cache.now.pairs.items) (vec_len c.args.cache.now.pairs) (let len : length c.exchange_pairs.new.pairs ≡ vec_len c.args.cache.now.pairs = omega (arith, c.exchange_pairs.auto.pairs, c.as_mut_slice-pairs.ensures.len) in len)
    ∙ exchange_read c.as_slice-indexes.result.now c.args.file.now.def.indexes c.args.num c.in-Some.old.now c.as_slice-3.result.now c.args.image c.as_mut_slice-pairs.result.now c.args.cache.now.pairs.items c.exchange_pairs.new.pairs
    c.as_slice-indexes.ensures c.as_slice-3.ensures c.as_mut_slice-pairs.ensures.value c.in_ok-exchange_pairs.ensures.ok)

pub returns-else-shrinks-clause-stored : goal.returns-else-shrinks-clause-stored
returns-else-shrinks-clause-stored c =
    let found : image_at c.args.num c.args.file.now.records ≡ Some c.in-Some.old.now = sym (rw c.as_slice.ensures at c.in-Some.ensures) in
    let same : length c.as_slice-2.result.now ≡ length c.args.image = rw c.as_slice-2.ensures refl in
    let longer : length c.in-Some.old.now ≤ length c.args.image = grind (arith, nat_tests) in
    rewritten c.args.file.now c.args.cache.now c.args.num c.in-Some.old.now c.args.image c.put_image.new.rows (record { full_below = c.args.cache.now.full_below; pairs = with_items c.args.cache.now.pairs c.exchange_pairs.new.pairs }) c.requires.stored c.requires.len found
    c.put_image.ensures c.requires.stored.bound
    (AreFull-with_image c.args.cache.now.full_below (least_len c.args.file.now.def.kind) c.args.num c.in-Some.old.now c.args.image c.args.file.now.records found longer c.requires.stored.full)
    (take_front c.exchange_pairs.new.pairs (drop (length c.exchange_pairs.new.pairs) c.args.cache.now.pairs.items) (vec_len c.args.cache.now.pairs) (let len : length c.exchange_pairs.new.pairs ≡ vec_len c.args.cache.now.pairs = omega (arith, c.exchange_pairs.auto.pairs, c.as_mut_slice-pairs.ensures.len) in len)
    ∙ exchange_read c.as_slice-indexes.result.now c.args.file.now.def.indexes c.args.num c.in-Some.old.now c.as_slice-3.result.now c.args.image c.as_mut_slice-pairs.result.now c.args.cache.now.pairs.items c.exchange_pairs.new.pairs
    c.as_slice-indexes.ensures c.as_slice-3.ensures c.as_mut_slice-pairs.ensures.value c.in_ok-exchange_pairs.ensures.ok)
