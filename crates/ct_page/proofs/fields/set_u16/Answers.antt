use Rattle.std.proofs.Common.{◌+◌, ◌-◌, ap, ◌∙◌, arith}
use Rattle.std.specs.Int.{w16, to_le_bytes}
use borrow.Rule.Slice.PartMut.{put_mid}
use Rattle.ct_page.specs.Fields.{with_u16}
use Rattle.ct_page.proofs.Numbers.{with_bytes-put_mid}
use Rattle.ct_page.proofs.fields.set_u16.Goals as goal

pub returns : goal.returns
unfolding with_u16
returns c =
    let at = c.args.at in
    ap (put_mid at (at + 2 - at) c.args.page.now) (c.copy_from_slice.ensures.after ∙ c.to_le_bytes.ensures) ∙ with_bytes-put_mid at (at + 2 - at) (to_le_bytes w16 c.args.value) c.args.page.now (omega arith)
