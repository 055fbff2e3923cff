use Rattle.std.proofs.Common.{nat_lt, arith}
use Rattle.std.proofs.lemmas.Bool.Decides.{nat_tests}
use Rattle.ct_definitions.specs.declared.store.Row.{Row}
use Rattle.ct_model.proofs.Places.{last_tells, nums_rise}
use Rattle.ct_model.proofs.rows.are_below.Goals as goal

pub returns-in-Some : goal.returns-in-Some
returns-in-Some c =
    last_tells (λ (row : Row). row.num) (λ (row : Row). nat_lt row.num c.args.num) c.args.rows.now c.in-Some.last.now (nums_rise 0 c.args.rows.now c.requires) c.in-Some.ensures.value
    (λ low row below. grind (arith, nat_tests))
