use Rattle.std.proofs.Common.{◌<◌, ◌≤◌, ◌^◌, ℕ, List, IfSome, IfNone, length, sym, subst, rules}
use Rattle.ct_definitions.specs.declared.store.Row.{Row}
use Rattle.ct_model.specs.Free.{IsFree, IsNotFree}
use Rattle.ct_model.proofs.StoredFiles.{stored_length, stored_read, records_read, within_read}
use Rattle.ct_model.proofs.state.lowest_free.Goals as goal

pub index-requires-2 : goal.index-requires-2
index-requires-2 c =
    let here : c.from-place.result < length c.state.inside.caches.items =
    rw (stored_length c.state.inside.files.items c.state.inside.caches.items c.state.invariant)
    (within_read c.args.state.now c.state.inside.files.items c.args.file c.from-place.result c.state.view_is c.from-place.ensures c.requires.file)
    in search rules

pub lowest_free_in_file-requires-clause-stored : goal.lowest_free_in_file-requires-clause-stored
lowest_free_in_file-requires-clause-stored c =
    stored_read c.state.inside.files.items c.state.inside.caches.items c.from-place.result c.index.result.now c.index-2.result.now c.state.invariant
    (within_read c.args.state.now c.state.inside.files.items c.args.file c.from-place.result c.state.view_is c.from-place.ensures c.requires.file)
    c.index.ensures c.index-2.ensures

pub returns-clause-found : goal.returns-clause-found
returns-clause-found c =
    subst (λ (rows : List Row). IfSome c.lowest_free_in_file.result (λ num. (1 ≤ num) × IsFree num c.args.len rows))
    (sym (records_read c.args.state.now c.state.inside.files.items c.args.file c.from-place.result c.index.result.now c.state.view_is c.from-place.ensures c.requires.file c.index.ensures))
    c.lowest_free_in_file.ensures.found

pub returns-clause-lowest : goal.returns-clause-lowest
returns-clause-lowest c =
    subst (λ (rows : List Row). IfSome c.lowest_free_in_file.result (λ num. (lower : ℕ) → 1 ≤ lower → lower < num → IsNotFree lower c.args.len rows))
    (sym (records_read c.args.state.now c.state.inside.files.items c.args.file c.from-place.result c.index.result.now c.state.view_is c.from-place.ensures c.requires.file c.index.ensures))
    c.lowest_free_in_file.ensures.lowest

pub returns-clause-none : goal.returns-clause-none
returns-clause-none c =
    subst (λ (rows : List Row). IfNone c.lowest_free_in_file.result ((num : ℕ) → 1 ≤ num → num < 2 ^ 64 → IsNotFree num c.args.len rows))
    (sym (records_read c.args.state.now c.state.inside.files.items c.args.file c.from-place.result c.index.result.now c.state.view_is c.from-place.ensures c.requires.file c.index.ensures))
    c.lowest_free_in_file.ensures.none
