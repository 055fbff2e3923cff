use Rattle.std.proofs.Common.{◌∙◌}
use Rattle.ct_model.proofs.Found.{beside_none_read, no_index_read, among_read}
use Rattle.ct_model.proofs.state.State.find.Goals as goal

pub returns-in_default : goal.returns-in_default
returns-in_default c =
    beside_none_read c.args.self.now c.self.inside.files.items c.self.inside.caches.items c.as_slice.result.now c.args.file c.from.result c.args.index c.args.seek
    c.self.view_is c.from.ensures c.as_slice.ensures.value c.self.invariant c.in_default.ensures

pub returns-in_default-pairs_at : goal.returns-in_default-pairs_at
returns-in_default-pairs_at c =
    no_index_read c.args.self.now c.self.inside.files.items c.self.inside.caches.items c.as_slice.result.now c.args.file c.from.result c.args.index c.args.seek c.in-Some.cache.now c.as_slice-2.result.now
    c.self.view_is c.from.ensures c.as_slice.ensures.value c.self.invariant c.in-Some.ensures c.as_slice-2.ensures.value c.in_default-pairs_at.ensures

pub returns : goal.returns
returns c =
    c.find.ensures
    ∙ among_read c.args.self.now c.self.inside.files.items c.self.inside.caches.items c.as_slice.result.now c.args.file c.from.result c.args.index c.args.seek c.in-Some.cache.now c.as_slice-2.result.now c.in-Some-pairs_at.pairs.now
    c.self.view_is c.from.ensures c.as_slice.ensures.value c.self.invariant c.in-Some.ensures c.as_slice-2.ensures.value c.in-Some-pairs_at.ensures
