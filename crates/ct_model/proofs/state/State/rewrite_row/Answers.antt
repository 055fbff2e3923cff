use Rattle.std.proofs.Common.{◌<◌, length, rules}
use Rattle.ct_definitions.specs.Changes.{with_image}
use Rattle.ct_model.proofs.StoredFiles.{stored_length, stored_read, stored_set, change_made, change_refused, fits_read, within_read}
use Rattle.ct_model.proofs.state.State.rewrite_row.Goals as goal

pub index_mut-requires-2 : goal.index_mut-requires-2
index_mut-requires-2 c =
    let here : c.from-place.result < length c.self.inside.caches.items =
    rw (stored_length c.self.inside.files.items c.self.inside.caches.items c.self.invariant)
    (within_read c.args.self.now c.self.inside.files.items c.args.file c.from-place.result c.self.view_is c.from-place.ensures c.requires.file)
    in search rules

pub rewrite_row-requires-clause-stored : goal.rewrite_row-requires-clause-stored
rewrite_row-requires-clause-stored c =
    stored_read c.self.inside.files.items c.self.inside.caches.items c.from-place.result c.index_mut.result.now c.index_mut-2.result.now c.self.invariant
    (within_read c.args.self.now c.self.inside.files.items c.args.file c.from-place.result c.self.view_is c.from-place.ensures c.requires.file)
    c.index_mut.ensures.value c.index_mut-2.ensures.value

pub invariant_of-self : goal.invariant_of-self
invariant_of-self c =
    stored_set c.self.inside.files.items c.self.inside.caches.items c.from-place.result c.rewrite_row.new.file c.rewrite_row.new.cache c.self.invariant c.rewrite_row.ensures.stored

pub rewrite_row-requires-clause-len : goal.rewrite_row-requires-clause-len
rewrite_row-requires-clause-len c =
    fits_read c.args.self.now c.self.inside.files.items c.args.file c.from-place.result (length c.args.image) c.index_mut.result.now c.self.view_is c.from-place.ensures c.requires.file c.index_mut.ensures.value c.requires.len

pub returns-clause-ok : goal.returns-clause-ok
returns-clause-ok c =
    change_made c.args.self.now c.self.inside.files.items c.args.file c.from-place.result (with_image c.args.num c.args.image) c.index_mut.result.now c.rewrite_row.new.file c.rewrite_row.result
    c.self.view_is c.from-place.ensures c.requires.file c.index_mut.ensures.value c.rewrite_row.ensures.ok

pub returns-clause-err : goal.returns-clause-err
returns-clause-err c =
    change_refused c.args.self.now c.self.inside.files.items c.from-place.result c.index_mut.result.now c.rewrite_row.new.file c.rewrite_row.result
    c.self.view_is c.index_mut.ensures.value c.rewrite_row.ensures.err
