use Rattle.std.proofs.Common.{refl, None}
use Rattle.ct_yard.specs.Telling.{telling}
use Rattle.ct_yard.proofs.Commits.{assembled}
use Rattle.ct_yard.proofs.yard.Yard.assemble.Goals as goal

pub returns-clause-stands : goal.returns-clause-stands
returns-clause-stands g c = λ founded front history defined numbered state log text small.
    assembled founded (telling g.L.Disk.tells g.L.Disk.faults g.L.Disk.content g.L.Disk.may_leave g.L.Disk.left_since)
    (record { pages = c.args.pages; state = c.args.state; log = c.args.log; front = c.args.front; halt = None }) front history refl c.requires.at_rest defined numbered state log text small
