use Rattle.ct_model.proofs.Places.{read_own, read_other, read_none}
use Rattle.ct_model.proofs.rows.row_at.Goals as goal
use Rattle.ct_model.proofs.rows.row_at.Goals.{in_default-via-in-Some+else-row-num, in_default-via-in_default}

pub returns-in-Some : goal.returns-in-Some
returns-in-Some c = read_own c.args.num c.args.rows.now c.place_of.result c.in-Some.row.now c.requires c.place_of.ensures.value c.in-Some.ensures c.if-row-num.true

pub returns-in_default : goal.returns-in_default
returns-in_default c =
    elim c.in_default.branch [
      | in_default-via-in-Some+else-row-num w ↦ read_other c.args.num c.args.rows.now c.place_of.result w.in-Some.row.now c.requires c.place_of.ensures.value w.in-Some.ensures w.if-row-num.false
      | in_default-via-in_default w ↦ read_none c.args.num c.args.rows.now c.place_of.result c.requires c.place_of.ensures.value w.in_default.ensures
    ]
