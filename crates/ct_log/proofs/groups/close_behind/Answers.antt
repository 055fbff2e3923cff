use Rattle.std.proofs.Common.{◌≡◌, ◌+◌, ◌-◌, ◌++◌, length, take, drop, ℕ, List, ap, ◌∙◌, sym, arith, append_assoc}
use Rattle.std.specs.Int.{w32, to_le_bytes}
use borrow.Rule.Slice.PartMut.{put_mid, same_len_mid}
use Rattle.ct_log.specs.Chunks.{length_bytes}
use Rattle.ct_log.proofs.Frames.{turned}
use Rattle.ct_log.proofs.groups.close_behind.Goals as goal

pub returns : goal.returns
unfolding length_bytes
returns c =
    let body = c.args.body.now in
    let gate = c.args.gate in
    let turn = c.rotate_left.new.self in
    let whole = put_mid gate (length body - gate) body turn in
    let count : length whole ≡ length body = same_len_mid gate (length body - gate) body turn c.rotate_left.ensures.len in
    let field : c.copy_from_slice.new.self ≡ length_bytes (length body - 5) =
    c.copy_from_slice.ensures.after ∙ c.to_le_bytes.ensures ∙ ap (λ n. to_le_bytes w32 (n - 5)) count in
    let front = drop 4 (take gate body) in
    let back = drop (gate + 1) body in
    let last = take 1 (drop gate body) in
    let rest : drop 4 whole ≡ front ++ (back ++ last) = turned body turn gate c.requires.behind_length (omega arith) c.rotate_left.ensures.after in
    ap (λ (l : List ℕ). l ++ drop 4 whole) field ∙ ap (λ (l : List ℕ). length_bytes (length body - 5) ++ l) rest
    ∙ sym (append_assoc (length_bytes (length body - 5) ++ front) back last ∙ append_assoc (length_bytes (length body - 5)) front (back ++ last))
