use Rattle.std.proofs.Common.{rules}
use Rattle.ct_log.specs.Chunks.{length_bytes}
use Rattle.ct_log.proofs.groups.first_body.Goals as goal

pub returns : goal.returns
unfolding length_bytes
returns c = search rules
