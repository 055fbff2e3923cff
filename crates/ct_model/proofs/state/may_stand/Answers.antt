use Rattle.std.proofs.Common.{◌<◌, length, sym, ◌∙◌, rules}
use Rattle.ct_definitions.specs.Changes.{may_stand}
use Rattle.ct_model.proofs.StoredFiles.{stored_length, stored_read, passes_read, within_read}
use Rattle.ct_model.proofs.state.may_stand.Goals as goal

pub index-requires-2 : goal.index-requires-2
index-requires-2 c =
    let here : c.from-place.result < length c.state.inside.caches.items =
    rw (stored_length c.state.inside.files.items c.state.inside.caches.items c.state.invariant)
    (within_read c.args.state.now c.state.inside.files.items c.args.file c.from-place.result c.state.view_is c.from-place.ensures c.requires)
    in search rules

pub can_stand-requires : goal.can_stand-requires
can_stand-requires c =
    stored_read c.state.inside.files.items c.state.inside.caches.items c.from-place.result c.index.result.now c.index-2.result.now c.state.invariant
    (within_read c.args.state.now c.state.inside.files.items c.args.file c.from-place.result c.state.view_is c.from-place.ensures c.requires)
    c.index.ensures c.index-2.ensures

pub returns : goal.returns
returns c =
    c.can_stand.ensures
    ∙ sym (passes_read c.args.state.now c.state.inside.files.items c.args.file c.from-place.result (λ f. may_stand f c.args.num c.args.image.now) c.index.result.now c.state.view_is c.from-place.ensures c.requires c.index.ensures)
