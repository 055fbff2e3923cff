use Rattle.std.proofs.Common.{ℕ, ◌≡◌, ◌+◌, ◌-◌, List, [], ◌∷◌, ◌++◌, length, ap, ◌∙◌, arith, length-append}
use Rattle.std.specs.Int.{w32, to_le_bytes}
use Rattle.ct_group.specs.Commit.{commit_body}
use Rattle.ct_group.proofs.Texts.{commit_written}
use Rattle.ct_group.proofs.write.push_commit.Goals as goal

pub returns-clause-ok : goal.returns-clause-ok
returns-clause-ok c =
    let t = c.args.transaction.now in
    let old : List ℕ = c.args.into.now.items in
    let stood : List ℕ = c.push_body.new.into.items in
    let body : List ℕ = commit_body t in
    let begin : ℕ = c.len-begin.result in
    let head : List ℕ = old ++ 1 ∷ [] ++ to_le_bytes w32 0 in
    let stands : stood ≡ head ++ body =
    c.in_ok-push_body.ensures.ok ∙ ap (λ (l : List ℕ). l ++ body) (c.in_ok-write_u32.ensures.ok ∙ ap (λ (l : List ℕ). l ++ to_le_bytes w32 0) c.in_ok-write_u8.ensures.ok) in
    let place : begin ≡ length old = omega (arith, c.len-begin.ensures, c.args.into.now.ok) in
    let size : c.len.result - begin - 5 ≡ length body =
    omega (arith, ap length stands, length-append head body, length-append (old ++ 1 ∷ []) (to_le_bytes w32 0), length-append old (1 ∷ []), c.len.ensures, c.push_body.new.into.ok, place) in
    commit_written t old stood c.put_length.new.bytes.items (begin + 1) (c.len.result - begin - 5) stands (omega (arith, place)) size c.put_length.ensures
