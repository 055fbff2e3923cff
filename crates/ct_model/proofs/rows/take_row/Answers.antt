use Rattle.std.proofs.Common.{sym, ◌∙◌}
use Rattle.ct_model.proofs.Places.{remove_there, unremoved_there}
use Rattle.ct_model.proofs.rows.take_row.Goals as goal

pub returns-then-stands_at : goal.returns-then-stands_at
returns-then-stands_at c =
    c.remove-old.ensures.rest
    ∙ remove_there c.args.num c.args.rows.now c.place_of-place.result c.requires
    (rw c.as_slice.ensures at c.place_of-place.ensures.value) (rw c.as_slice-2.ensures at (sym c.stands_at.ensures ∙ c.if-stands_at.true))

pub returns-else-stands_at : goal.returns-else-stands_at
returns-else-stands_at c =
    sym (unremoved_there c.args.num c.args.rows.now c.place_of-place.result c.requires
    (rw c.as_slice.ensures at c.place_of-place.ensures.value) (rw c.as_slice-2.ensures at (sym c.stands_at.ensures ∙ c.if-stands_at.false)))
