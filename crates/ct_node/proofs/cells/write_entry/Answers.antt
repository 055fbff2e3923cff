use Rattle.std.proofs.Common.{◌≤◌, subst, sym, ◌≡◌, ◌+◌, ◌++◌, ap, ◌∙◌, length, arith, length-append}
use Rattle.std.specs.Int.{w64, to_be_bytes, to_le_bytes}
use Rattle.ct_definitions.specs.Pairs.{Pair}
use Rattle.ct_node.specs.Nodes.{width_of}
use Rattle.ct_node.specs.Cells.{with_bytes, pair_bytes, entry_bytes}
use Rattle.ct_node.proofs.CellLemmas.{with_bytes-both}
use Rattle.ct_node.proofs.cells.write_entry.Goals as goal

pub returns-clause-bytes : goal.returns-clause-bytes
returns-clause-bytes c =
    let pair = c.args.pair.now in
    let old = c.args.bytes.now in
    let digits = c.as_slice-2.result.now in
    let page : digits ≡ to_le_bytes w64 c.args.child = c.as_slice-2.ensures ∙ c.to_le_bytes.ensures in
    let eight = ap length page in
    let joined = length-append pair.key (to_be_bytes w64 pair.num) in
    let text = ap length (c.as_slice.ensures ∙ ap (λ (one : Pair). one.key) c.pair.view_is) in
    let room : c.args.at + (length pair.key + 16) ≤ length old = subst (λ leaf. c.args.at + width_of (length pair.key) leaf ≤ length old) c.if-leaf.false c.requires in
    let place : c.args.at + length c.as_slice.result.now + 8 ≡ c.args.at + length (pair_bytes pair) = omega arith in
    with_bytes-both c.args.at (pair_bytes pair) digits old c.write_pair-2.new.bytes c.write_at.new.bytes c.write_pair-2.ensures.bytes (c.write_at.ensures ∙ ap (λ at. with_bytes at digits c.write_pair-2.new.bytes) place) (omega (arith, room))
    ∙ ap (λ back. with_bytes c.args.at (pair_bytes pair ++ back) old) page
    ∙ ap (λ leaf. with_bytes c.args.at (entry_bytes leaf (record { pair = pair; child = c.args.child })) old) (sym c.if-leaf.false)
