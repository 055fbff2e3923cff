use Rattle.std.proofs.Common.{◌≡◌, ◌+◌, ◌-◌, List, ℕ, ◌++◌, length, take, drop, ap, ◌∙◌, arith}
use Rattle.std.proofs.lemmas.List.{take_at}
use Rattle.ct_log.specs.Chunks.{length_bytes, groups_of, chunk_body}
use Rattle.ct_log.proofs.Frames.{length-chunk_body, lengthened}
use Rattle.ct_log.proofs.groups.lengthen.Goals as goal

pub close_behind-requires-clause-behind_length : goal.close_behind-requires-clause-behind_length
close_behind-requires-clause-behind_length c =
    let size : length c.args.body.now.items ≡ length (chunk_body (groups_of c.args.body.now.items)) = ap length c.requires.body in
    let known = length-chunk_body (groups_of c.args.body.now.items) in
    omega (arith, c.len-gate.ensures, c.args.body.now.ok)

pub returns-clause-ok : goal.returns-clause-ok
returns-clause-ok c =
    let groups = groups_of c.args.body.now.items in
    let group = c.args.group.now in
    let size : length c.args.body.now.items ≡ length (chunk_body groups) = ap length c.requires.body in
    let known = length-chunk_body groups in
    let grown : c.extend_from_slice.new.self.items ≡ chunk_body groups ++ group = c.in_ok-extend_from_slice.ensures.items ∙ ap (λ (l : List ℕ). l ++ group) c.requires.body in
    let place : c.len-gate.result - 1 ≡ length groups + 4 = omega (arith, c.len-gate.ensures, c.args.body.now.ok) in
    let at = c.len-gate.result - 1 in
    let F : List ℕ → List ℕ = λ l. length_bytes (length l - 5) ++ drop 4 (take at l) ++ drop (at + 1) l ++ take 1 (drop at l) in
    let new : c.close_behind.new.body ≡ chunk_body (groups ++ group) = c.close_behind.ensures ∙ ap F (c.deref_mut.ensures.value ∙ grown) ∙ lengthened groups group at place in
    take_at c.close_behind.new.body (drop (length c.close_behind.new.body) c.extend_from_slice.new.self.items) c.extend_from_slice.new.self.len (omega (arith, c.close_behind.auto.body, c.deref_mut.ensures.len)) ∙ new
