use Rattle.std.proofs.Common.{◌≡◌, ◌-◌, ◌^◌, ap, ◌∙◌, sum_by, min, arith}
use Rattle.std.proofs.lemmas.Grind.{common_steps}
use Rattle.ct_definitions.specs.Room.{use_beside}
use Rattle.ct_model.proofs.Blocks.{beside_part}
use Rattle.ct_model.proofs.room.used_beside.Goals as goal

pub returns : goal.returns
returns c =
    let all : c.loop-row.used ≡ min (sum_by (use_beside c.args.num) c.rows_in-beside.result.now) (2 ^ 64 - 1) = grind (arith, common_steps) in
    rw c.rows_in-beside.ensures at all ∙ ap (λ n. min n (2 ^ 64 - 1)) (beside_part c.args.num c.args.rows.now)
