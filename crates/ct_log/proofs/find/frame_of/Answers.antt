use Rattle.std.proofs.Common.{arith}
use Rattle.ct_log.proofs.Windows.{padded_five, first_of_five}
use Rattle.ct_log.proofs.find.frame_of.Goals as goal

pub returns : goal.returns
returns c = padded_five c.args.bytes.now c.copy_from_slice.new.self c.min-most.result (omega (arith, c.min-most.ensures)) c.copy_from_slice.ensures.after

pub returns-then-bytes-ge5 : goal.returns-then-bytes-ge5
returns-then-bytes-ge5 c = first_of_five c.args.bytes.now c.if-bytes-ge5.true
