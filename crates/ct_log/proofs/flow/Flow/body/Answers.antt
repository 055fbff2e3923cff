use Rattle.std.proofs.Common.{length, ap, arith}
use Rattle.ct_log.proofs.Frames.{length-chunk_body, chunk_size_some}
use Rattle.ct_log.proofs.flow.Flow.body.Goals as goal

pub returns-clause-within : goal.returns-clause-within
returns-clause-within c =
    omega (arith, ap length c.as_body.ensures, length-chunk_body c.args.self.now.waiting, chunk_size_some c.args.self.now.waiting c.requires, c.args.self.now.fits)
