use Rattle.std.proofs.Common.{◌<◌, length, rules, arith}
use Rattle.ct_definitions.specs.Changes.{with_row}
use Rattle.ct_model.specs.Fitting.{may_be_added}
use Rattle.ct_model.proofs.StoredFiles.{stored_length, stored_read, stored_set, change_made, change_refused, passes_read}
use Rattle.ct_model.proofs.state.State.add_row.Goals as goal

pub index_mut-requires-2 : goal.index_mut-requires-2
index_mut-requires-2 c =
    let here : c.from-place.result < length c.self.inside.caches.items =
    rw (stored_length c.self.inside.files.items c.self.inside.caches.items c.self.invariant) (omega (arith, c.if-place-len.false, c.len.ensures))
    in search rules

pub add_row-requires : goal.add_row-requires
add_row-requires c =
    let inside : c.from-place.result < length c.self.inside.files.items = omega (arith, c.if-place-len.false, c.len.ensures) in
    stored_read c.self.inside.files.items c.self.inside.caches.items c.from-place.result c.index_mut.result.now c.index_mut-2.result.now c.self.invariant
    inside c.index_mut.ensures.value c.index_mut-2.ensures.value

pub invariant_of-self : goal.invariant_of-self
invariant_of-self c =
    stored_set c.self.inside.files.items c.self.inside.caches.items c.from-place.result c.add_row.new.file c.add_row.new.cache c.self.invariant c.add_row.ensures.stored

pub returns-clause-ok : goal.returns-clause-ok
returns-clause-ok c =
    let inside : c.from-place.result < length c.self.inside.files.items = omega (arith, c.if-place-len.false, c.len.ensures) in
    let within : c.args.file < length c.args.self.now = rw (← c.from-place.ensures, ← c.self.view_is) inside in
    change_made c.args.self.now c.self.inside.files.items c.args.file c.from-place.result (with_row (record { num = c.args.num; image = c.args.image })) c.index_mut.result.now c.add_row.new.file c.add_row.result
    c.self.view_is c.from-place.ensures within c.index_mut.ensures.value c.add_row.ensures.ok

pub returns-clause-err : goal.returns-clause-err
returns-clause-err c =
    change_refused c.args.self.now c.self.inside.files.items c.from-place.result c.index_mut.result.now c.add_row.new.file c.add_row.result
    c.self.view_is c.index_mut.ensures.value c.add_row.ensures.err

pub returns-clause-allowed : goal.returns-clause-allowed
returns-clause-allowed c =
    let inside : c.from-place.result < length c.self.inside.files.items = omega (arith, c.if-place-len.false, c.len.ensures) in
    let within : c.args.file < length c.args.self.now = rw (← c.from-place.ensures, ← c.self.view_is) inside in
    rw (passes_read c.args.self.now c.self.inside.files.items c.args.file c.from-place.result (λ f. may_be_added f c.args.num c.args.image) c.index_mut.result.now c.self.view_is c.from-place.ensures within c.index_mut.ensures.value)
    c.add_row.ensures.allowed

pub returns-clause-refused : goal.returns-clause-refused
returns-clause-refused c =
    let inside : c.from-place.result < length c.self.inside.files.items = omega (arith, c.if-place-len.false, c.len.ensures) in
    let within : c.args.file < length c.args.self.now = rw (← c.from-place.ensures, ← c.self.view_is) inside in
    rw (passes_read c.args.self.now c.self.inside.files.items c.args.file c.from-place.result (λ f. may_be_added f c.args.num c.args.image) c.index_mut.result.now c.self.view_is c.from-place.ensures within c.index_mut.ensures.value)
    c.add_row.ensures.refused

pub returns-clause-memory : goal.returns-clause-memory
returns-clause-memory c =
    let inside : c.from-place.result < length c.self.inside.files.items = omega (arith, c.if-place-len.false, c.len.ensures) in
    let within : c.args.file < length c.args.self.now = rw (← c.from-place.ensures, ← c.self.view_is) inside in
    rw (passes_read c.args.self.now c.self.inside.files.items c.args.file c.from-place.result (λ f. may_be_added f c.args.num c.args.image) c.index_mut.result.now c.self.view_is c.from-place.ensures within c.index_mut.ensures.value)
    c.add_row.ensures.memory
