use Rattle.std.proofs.Common.{arith}
use Rattle.ct_model.proofs.Places.{few_before, few_tells}
use Rattle.ct_model.proofs.rows.has_few.Goals as goal

pub returns-then-end-most : goal.returns-then-end-most
returns-then-end-most c = few_before c.args.block c.end_of-end.result c.args.most c.args.rows.now c.requires c.end_of-end.ensures.value c.if-end-most.true

pub returns : goal.returns
returns c =
    few_tells c.args.block c.end_of-end.result c.args.most c.args.rows.now c.index-rows-end.result c.requires c.end_of-end.ensures.value (omega (arith, c.if-end-most.false))
