use Rattle.ct_log.proofs.ChunkLaws.{chunks_determined}
use Rattle.ct_log.proofs.laws.chunks_are_determined.Goals as goal

pub returns : goal.returns
returns c = chunks_determined
