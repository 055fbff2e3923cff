use Rattle.std.proofs.Common.{◌<◌, length, rules}
use Rattle.ct_definitions.specs.Changes.{without_row}
use Rattle.ct_model.proofs.StoredFiles.{stored_length, stored_read, stored_set, edited, within_read}
use Rattle.ct_model.proofs.state.State.delete_row.Goals as goal

pub index_mut-requires-2 : goal.index_mut-requires-2
index_mut-requires-2 c =
    let here : c.from-place.result < length c.self.inside.caches.items =
    rw (stored_length c.self.inside.files.items c.self.inside.caches.items c.self.invariant)
    (within_read c.args.self.now c.self.inside.files.items c.args.file c.from-place.result c.self.view_is c.from-place.ensures c.requires)
    in search rules

pub delete_row-requires : goal.delete_row-requires
delete_row-requires c =
    stored_read c.self.inside.files.items c.self.inside.caches.items c.from-place.result c.index_mut.result.now c.index_mut-2.result.now c.self.invariant
    (within_read c.args.self.now c.self.inside.files.items c.args.file c.from-place.result c.self.view_is c.from-place.ensures c.requires)
    c.index_mut.ensures.value c.index_mut-2.ensures.value

pub invariant_of-self : goal.invariant_of-self
invariant_of-self c =
    stored_set c.self.inside.files.items c.self.inside.caches.items c.from-place.result c.delete_row.new.file c.delete_row.new.cache c.self.invariant c.delete_row.ensures.stored

pub returns : goal.returns
returns c =
    edited c.args.self.now c.self.inside.files.items c.args.file c.from-place.result (without_row c.args.num) c.index_mut.result.now c.delete_row.new.file
    c.self.view_is c.from-place.ensures c.requires c.index_mut.ensures.value c.delete_row.ensures.rows
