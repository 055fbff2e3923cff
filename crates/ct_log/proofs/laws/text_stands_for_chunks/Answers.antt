use Rattle.ct_log.proofs.ChunkLaws.{stands_by_chunks}
use Rattle.ct_log.proofs.laws.text_stands_for_chunks.Goals as goal

pub returns : goal.returns
returns c = stands_by_chunks
