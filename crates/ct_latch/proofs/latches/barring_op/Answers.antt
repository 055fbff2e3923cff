use Rattle.std.proofs.Common.{ap, sym, ◌∙◌, option_map}
use Rattle.ct_latch.specs.declared.hold.Hold.{Hold}
use Rattle.ct_latch.proofs.Holds.{find-skip, find-past, place}
use Rattle.std.proofs.Common.{find, drop}
use Rattle.ct_latch.specs.Latches.{bars}
use Rattle.ct_latch.proofs.latches.barring_op.Goals as goal

pub loop-hold-init : goal.loop-hold-init
loop-hold-init c =
    find-skip c.args.node c.args.op c.args.own c.args.holds.now
    ∙ ap (λ n. find (bars c.args.node c.args.op c.args.own) (drop n c.args.holds.now)) (sym c.place_of-first.ensures.place)
    ∙ ap (find (bars c.args.node c.args.op c.args.own)) (sym c.rest_from-rest.ensures)

pub returns-then-hold-node : goal.returns-then-hold-node
returns-then-hold-node c =
    sym (ap (option_map (λ (hold : Hold). hold.op))
    (c.loop-hold.invariant ∙ find-past c.args.node c.args.op c.args.own c.args.holds.now c.rest_from-rest.result.now c.place_of-first.result c.loop-hold.hold-index _ c.requires c.place_of-first.ensures.place c.rest_from-rest.ensures c.loop-hold-test.true c.if-hold-node.true))
