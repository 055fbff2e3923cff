use Rattle.ct_node.proofs.PairAt.{pair_from_cell, enough_at}
use Rattle.std.proofs.Common.{refl}
use Rattle.ct_node.proofs.node.Node.pair.Goals as goal

pub returns : goal.returns
returns c =
    let n = c.self.inside in
    pair_from_cell n c.args.self.now c.args.place c.width_of-width.result _ c.record_at-num.result c.key_at-key.result c.as_slice.result.now c.as_slice-2.result.now c.self.view_is
    (enough_at n c.args.self.now c.args.place c.self.view_is c.requires) c.width_of-width.ensures refl c.as_slice.ensures c.as_slice-2.ensures c.key_at-key.ensures c.record_at-num.ensures
