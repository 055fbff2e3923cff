use Rattle.std.proofs.Common.{◌<◌, length, sym, ◌∙◌, rules}
use Rattle.ct_definitions.specs.Changes.{has_taken_key}
use Rattle.ct_model.proofs.StoredFiles.{stored_length, stored_read, fits_read, passes_read, within_read}
use Rattle.ct_model.proofs.state.has_taken_key.Goals as goal

pub index-requires-2 : goal.index-requires-2
index-requires-2 c =
    let here : c.from-place.result < length c.state.inside.caches.items =
    rw (stored_length c.state.inside.files.items c.state.inside.caches.items c.state.invariant)
    (within_read c.args.state.now c.state.inside.files.items c.args.file c.from-place.result c.state.view_is c.from-place.ensures c.requires.file)
    in search rules

pub is_key_taken-requires-clause-stored : goal.is_key_taken-requires-clause-stored
is_key_taken-requires-clause-stored c =
    stored_read c.state.inside.files.items c.state.inside.caches.items c.from-place.result c.index.result.now c.index-2.result.now c.state.invariant
    (within_read c.args.state.now c.state.inside.files.items c.args.file c.from-place.result c.state.view_is c.from-place.ensures c.requires.file)
    c.index.ensures c.index-2.ensures

pub is_key_taken-requires-clause-len : goal.is_key_taken-requires-clause-len
is_key_taken-requires-clause-len c =
    fits_read c.args.state.now c.state.inside.files.items c.args.file c.from-place.result (length c.args.image.now) c.index.result.now c.state.view_is c.from-place.ensures c.requires.file c.index.ensures c.requires.len

pub returns : goal.returns
returns c =
    c.is_key_taken.ensures
    ∙ sym (passes_read c.args.state.now c.state.inside.files.items c.args.file c.from-place.result (λ f. has_taken_key f c.args.num c.args.image.now) c.index.result.now c.state.view_is c.from-place.ensures c.requires.file c.index.ensures)
