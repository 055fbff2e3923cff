use Rattle.ct_log.proofs.Founds.{whole_found, chunk_is}
use Rattle.ct_log.proofs.head_laws.chunks_are_found.Goals as goal

pub returns-clause-whole : goal.returns-clause-whole
returns-clause-whole c = whole_found

pub returns-clause-parts : goal.returns-clause-parts
returns-clause-parts c = λ bytes groups all found. let is = chunk_is bytes groups all found in (is.rest, is.parts)

pub returns-clause-short : goal.returns-clause-short
returns-clause-short c = λ bytes groups all found. (chunk_is bytes groups all found).short
