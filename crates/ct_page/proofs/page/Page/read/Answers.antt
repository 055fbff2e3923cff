use Rattle.std.proofs.Common.{arith}
use Rattle.std.proofs.lemmas.List.{take_all, length-drop}
use Rattle.ct_page.proofs.page.Page.read.Goals as goal

pub returns-clause-body : goal.returns-clause-body
returns-clause-body c = take_all 3968 _ (omega (arith, length-drop 128 c.args.bytes.now))
