use Rattle.ct_frames.proofs.Oldest.{oldest_of}
use Rattle.ct_frames.proofs.table.FrameTable.oldest.Goals as goal

pub returns : goal.returns
returns c = oldest_of c.args.self.now c.least_dirty.result c.least_dirty.ensures.unique c.least_dirty.ensures.least
