use Rattle.ct_script.proofs.Readings.{kept_none}
use Rattle.ct_script.proofs.script.Reading.new.Goals as goal

pub returns : goal.returns
returns c = kept_none c.new.result c.new-2.result c.new-3.result c.new.ensures c.new-2.ensures c.new-3.ensures
