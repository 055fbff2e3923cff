use Rattle.std.proofs.Common.{nat_le, arith}
use Rattle.std.proofs.lemmas.Bool.Decides.{nat_tests}
use Rattle.ct_definitions.specs.declared.store.Row.{Row}
use Rattle.ct_definitions.specs.Room.{block_of}
use Rattle.ct_model.proofs.Places.{last_tells, blocks_rise}
use Rattle.ct_model.proofs.rows.are_up_to.Goals as goal

pub returns-in-Some : goal.returns-in-Some
returns-in-Some c =
    last_tells (λ (row : Row). block_of row.num) (λ (row : Row). nat_le (block_of row.num) c.args.block) c.args.rows.now c.in-Some.last.now (blocks_rise c.args.rows.now c.requires) c.in-Some.ensures.value
    (λ low row below. grind (arith, nat_tests))
