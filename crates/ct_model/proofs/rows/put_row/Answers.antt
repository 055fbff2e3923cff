use Rattle.std.proofs.Common.{List, insert, ap, ◌∙◌}
use Rattle.ct_definitions.specs.declared.store.Row.{Row}
use Rattle.ct_model.proofs.Places.{insert_place}
use Rattle.ct_model.proofs.rows.put_row.Goals as goal

pub returns-in-Ok-clause-ok : goal.returns-in-Ok-clause-ok
returns-in-Ok-clause-ok c =
    c.from_vec.ensures ∙ c.in-Ok.ensures.items
    ∙ ap (λ (rows : List Row). insert rows c.place_of-place.result c.args.row) (c.into_vec-items.ensures ∙ c.replace.ensures.value)
    ∙ ap (λ place. insert c.args.rows.now place c.args.row) (rw c.as_slice.ensures at c.place_of-place.ensures.value) ∙ insert_place c.args.row c.args.rows.now c.requires.free
