use Rattle.std.proofs.Common.{[], ◌∙◌, arith}
use Rattle.ct_slots.specs.Pages.{RecordPage}
use Rattle.ct_slots.proofs.Decode.{made_page, made_shows}
use Rattle.ct_slots.proofs.Made.{empty_page, empty_fits}
use Rattle.ct_slots.proofs.slots.Slots.new.Goals as goal

pub invariant_of-result : goal.invariant_of-result
invariant_of-result c =
    let shown : RecordPage = record { file = c.args.file; position = 0; rows = [] } in
    made_page c.write.new.page shown (empty_fits c.args.file (omega arith)) (c.write.ensures ∙ empty_page c.args.file)

pub returns : goal.returns
returns c =
    let shown : RecordPage = record { file = c.args.file; position = 0; rows = [] } in
    made_shows c.write.new.page shown (empty_fits c.args.file (omega arith)) (c.write.ensures ∙ empty_page c.args.file)
