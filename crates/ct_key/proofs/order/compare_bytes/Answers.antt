use Rattle.ct_key.proofs.FirstEight.{bytes_below, decided, tied}
use Rattle.ct_key.proofs.order.compare_bytes.Goals as goal

pub returns-then-first-second : goal.returns-then-first-second
returns-then-first-second c =
    decided c.args.bytes.now c.args.others.now (bytes_below c.args.bytes.now c.front_of-first.ensures.bytes) (bytes_below c.args.others.now c.front_of-second.ensures.bytes) c.if-bytes-lt8.false c.if-others-lt8.false
    c.front_of-first.result c.front_of-second.result c.cmp-then-first-second.result c.front_of-first.ensures.number c.front_of-second.ensures.number c.if-first-second.true c.cmp-then-first-second.ensures

pub returns : goal.returns
returns c =
    tied c.args.bytes.now c.args.others.now (bytes_below c.args.bytes.now c.front_of-first.ensures.bytes) (bytes_below c.args.others.now c.front_of-second.ensures.bytes) c.if-bytes-lt8.false c.if-others-lt8.false
    c.front_of-first.result c.front_of-second.result c.cmp-2.result c.front_of-first.ensures.number c.front_of-second.ensures.number c.if-first-second.false
    c.cmp-2.ensures
