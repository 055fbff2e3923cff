use Rattle.std.proofs.Common.{◌≡◌, ◌-◌, min, length, eqb, ◌∙◌, ap, arith}
use Rattle.ct_log.proofs.ByteReads.{open_by_read, closed_by_read}
use Rattle.ct_log.proofs.head.has_open_header.Goals as goal

pub returns-then-count-eq1-clause-open : goal.returns-then-count-eq1-clause-open
returns-then-count-eq1-clause-open g c = λ tells.
    let content = g.L.Disk.content c.args.device.now in
    let count : c.in_ok-count.count ≡ min 1 (length content - 36) = omega (arith, c.in_ok-count.ensures.count, g.met.L.Disk.sized c.args.device.now tells) in
    open_by_read content c.read.new.into 36 c.in_ok-count.count c.if-count-eq1.true count (c.in_ok-count.ensures.bytes tells)

pub returns-else-count-eq1-clause-open : goal.returns-else-count-eq1-clause-open
returns-else-count-eq1-clause-open g c = λ tells.
    let content = g.L.Disk.content c.args.device.now in
    let count : c.in_ok-count.count ≡ min 1 (length content - 36) = omega (arith, c.in_ok-count.ensures.count, g.met.L.Disk.sized c.args.device.now tells) in
    let none : c.in_ok-count.count ≡ 0 = omega (arith, c.if-count-eq1.false) in
    ap (λ n. eqb n 1) none ∙ closed_by_read content 36 c.in_ok-count.count none count
