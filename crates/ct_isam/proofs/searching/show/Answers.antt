use Rattle.std.proofs.Common.{◌≡◌, List, ℕ, Option, Some, sym, ap, ◌∙◌}
use Rattle.ct_definitions.specs.declared.store.Row.{Row}
use Rattle.ct_definitions.specs.Room.{row_at}
use Rattle.ct_isam.specs.Looking.{row_numbered}
use Rattle.ct_isam.proofs.Outcomes.{found_looks}
use Rattle.ct_isam.proofs.searching.show.Goals as goal

pub returns-in-Ok-keep : goal.returns-in-Ok-keep
returns-in-Ok-keep c =
    let rows = c.args.place.now.found.now.records in
    let read = c.in-Some-row_at.row.now in
    let row : Row = record { num = read.num; image = c.in-Ok.image } in
    let same : row ≡ read = ap (λ (i : List ℕ). record read { image = i }) (c.in-Ok.ensures ∙ c.as_slice-2.ensures) in
    found_looks c.args.place.now.file c.args.set c.args.num rows row c.args.session.now c.keep.new.self
    (ap (λ (n : Option ℕ). row_numbered n rows) c.in-Some.is ∙ ap (λ (all : List Row). row_at c.in-Some.num all) (sym c.as_slice.ensures) ∙ sym c.in-Some-row_at.ensures ∙ ap Some (sym same))
    c.in-Ok-keep.ensures.ok
