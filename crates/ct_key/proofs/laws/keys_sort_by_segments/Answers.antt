use Rattle.ct_key.proofs.ByteLemmas.{IsBytes-from_each}
use Rattle.ct_key.proofs.OrderLemmas.{slice_cmp-keys}
use Rattle.ct_key.proofs.laws.keys_sort_by_segments.Goals as goal

pub returns : goal.returns
returns c key other_key is_key is_other_key =
    let image = c.args.image.now in
    let other = c.args.other.now in
    slice_cmp-keys c.args.segs.now c.args.null image other key other_key c.requires.in_image c.requires.in_other (IsBytes-from_each image c.type_inv.image) (IsBytes-from_each other c.type_inv.other) is_key is_other_key
