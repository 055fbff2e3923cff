use Rattle.std.proofs.Common.{refl, arith}
use Rattle.std.proofs.lemmas.Bool.Decides.{nat_tests}
use Rattle.ct_model.proofs.Blocks.{room_for_few, room_for_short}
use Rattle.ct_model.proofs.room.has_room_beside.Goals as goal

pub returns-then-has_few : goal.returns-then-has_few
returns-then-has_few c = room_for_few c.args.num c.args.longest _ c.args.image.now c.args.rows.now c.requires.others c.requires.own c.requires.short refl (grind (arith, nat_tests))

pub returns-then-longest-le-SHORT_IMAGE : goal.returns-then-longest-le-SHORT_IMAGE
returns-then-longest-le-SHORT_IMAGE c = room_for_short c.args.num c.args.longest c.args.image.now c.args.rows.now c.requires.rising c.requires.others c.requires.own c.if-longest-le-SHORT_IMAGE.true
