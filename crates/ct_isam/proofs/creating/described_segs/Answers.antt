use Rattle.std.proofs.Common.{arith}
use Rattle.ct_definitions.specs.Validity.{is_valid_seg}
use Rattle.ct_isam.specs.Calls.{described_seg}
use Rattle.ct_isam.proofs.Described.{not_all}
use Rattle.ct_isam.proofs.creating.described_segs.Goals as goal

pub returns-in-None-clause-err : goal.returns-in-None-clause-err
returns-in-None-clause-err c = λ least short. not_all described_seg (is_valid_seg least) c.args.segs.now c.loop-seg.seg-index _ (omega arith) (c.in-None.ensures.none least short)
