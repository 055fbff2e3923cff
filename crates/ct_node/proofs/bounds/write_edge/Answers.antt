use Rattle.std.proofs.Common.{◌≡◌, ◌+◌, [], ◌∷◌, ◌++◌, length, take, ap, sym, ◌∙◌, arith}
use Rattle.ct_node.specs.Cells.{with_bytes}
use Rattle.ct_node.proofs.CellLemmas.{with_bytes-both}
use Rattle.ct_node.proofs.bounds.write_edge.Goals as goal

pub returns-clause-bytes : goal.returns-clause-bytes
returns-clause-bytes c =
    let at = c.args.at in
    let old = c.args.bytes.now in
    let key = c.key_of-key.result.now in
    let digits = c.as_slice.result.now in
    let long = c.key_of-key.ensures.len in
    let number = c.as_slice.ensures ∙ c.record_bytes.ensures.bytes in
    let eight = ap length number in
    let front : at + 1 + c.args.key_len ≡ at + length (1 ∷ key) = omega arith in
    let two : c.write_at-2.new.bytes ≡ with_bytes at (1 ∷ key) old =
    with_bytes-both at (1 ∷ []) key old c.write_at.new.bytes c.write_at-2.new.bytes c.write_at.ensures c.write_at-2.ensures (omega arith) in
    with_bytes-both at (1 ∷ key) digits old c.write_at-2.new.bytes c.write_at-3.new.bytes two (c.write_at-3.ensures ∙ ap (λ place. with_bytes place digits c.write_at-2.new.bytes) front) (omega arith)
    ∙ ap (λ text. with_bytes at (1 ∷ (text ++ digits)) old) c.key_of-key.ensures.key
    ∙ ap (λ text. with_bytes at (1 ∷ (take c.args.key_len c.args.edge.now.key ++ text)) old) number

pub returns-clause-fits : goal.returns-clause-fits
returns-clause-fits c = (ap length (sym c.key_of-key.ensures.key) ∙ c.key_of-key.ensures.len, c.record_bytes.ensures.number)
