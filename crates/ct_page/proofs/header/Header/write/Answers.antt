use Rattle.std.proofs.Common.{ℕ, List, ◌++◌, set, drop, ap, ◌∙◌}
use Rattle.ct_page.specs.Fields.{with_u16, with_u64}
use Rattle.ct_page.proofs.HeaderLemmas.{header_written}
use Rattle.ct_page.proofs.header.Header.write.Goals as goal

pub returns : goal.returns
returns c =
    let h = c.args.self in
    let body = drop 128 c.args.page.now in
    let zeros = ap (λ (l : List ℕ). with_u16 2 h.file (set (l ++ body) 0 c.number.result)) c.copy_from_slice.ensures.after in
    let first = c.set_u16.ensures ∙ zeros ∙ ap (λ n. with_u16 2 h.file (set (Rattle.std.proofs.Common.replicate 128 0 ++ body) 0 n)) c.number.ensures.number in
    let second = c.set_u16-2.ensures ∙ ap (with_u16 4 h.index) first in
    let third = c.set_u16-3.ensures ∙ ap (with_u16 6 h.count) second in
    let fourth = c.set_u64.ensures ∙ ap (with_u64 8 h.position) third in
    let fifth = c.set_u64-2.ensures ∙ ap (with_u64 16 h.right) fourth in
    ap (λ (l : List ℕ). set l 24 h.key_len) fifth ∙ header_written _ h.file h.index h.count h.position h.right h.key_len body
