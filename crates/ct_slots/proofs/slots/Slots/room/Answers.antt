use Rattle.ct_slots.proofs.Fewer.{rows_use-without}
use Rattle.ct_slots.proofs.slots.Slots.room.Goals as goal

pub returns-clause-beside : goal.returns-clause-beside
returns-clause-beside c = λ num. rows_use-without num c.args.self.now.rows
