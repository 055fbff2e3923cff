use Rattle.std.proofs.Common.{◌≡◌, ◌++◌, ap, ◌∙◌, length, arith}
use Rattle.std.specs.Int.{w64, to_be_bytes}
use Rattle.ct_definitions.specs.Pairs.{Pair}
use Rattle.ct_node.specs.Cells.{with_bytes}
use Rattle.ct_node.proofs.CellLemmas.{with_bytes-both}
use Rattle.ct_node.proofs.cells.write_pair.Goals as goal

pub returns-clause-bytes : goal.returns-clause-bytes
returns-clause-bytes c =
    let pair = c.args.pair.now in
    let old = c.args.bytes.now in
    let key = c.as_slice-key.result.now in
    let digits = c.as_slice.result.now in
    let text : key ≡ pair.key = c.as_slice-key.ensures ∙ ap (λ (one : Pair). one.key) c.pair.view_is in
    let number : digits ≡ to_be_bytes w64 pair.num = c.as_slice.ensures ∙ c.record_bytes.ensures.bytes ∙ ap (λ (one : Pair). to_be_bytes w64 one.num) c.pair.view_is in
    let long = ap length text in
    let eight = ap length number in
    with_bytes-both c.args.at key digits old c.write_at.new.bytes c.write_at-2.new.bytes c.write_at.ensures c.write_at-2.ensures (omega arith)
    ∙ ap (λ front. with_bytes c.args.at (front ++ digits) old) text
    ∙ ap (λ back. with_bytes c.args.at (pair.key ++ back) old) number

pub returns-clause-number : goal.returns-clause-number
returns-clause-number c = rw (← c.pair.view_is) c.record_bytes.ensures.number
