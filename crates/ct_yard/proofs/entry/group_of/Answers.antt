use Rattle.std.proofs.Common.{◌≡◌, ◌++◌, List, ℕ, length, ap, ◌∙◌, arith}
use Rattle.ct_group.specs.Commit.{commit_text}
use Rattle.ct_yard.proofs.Lengths.{one_fits, one_some, one_short}
use Rattle.ct_yard.proofs.entry.group_of.Goals as goal

pub write_commit-requires : goal.write_commit-requires
write_commit-requires c = one_fits c.args.state.now c.args.transaction.now c.files-files.ensures.fitting c.requires.one

pub returns-clause-some : goal.returns-clause-some
returns-clause-some c =
    let text : c.write_commit.new.into.items ≡ commit_text c.args.transaction.now = c.in_ok-write_commit.ensures.ok ∙ ap (λ (l : List ℕ). l ++ commit_text c.args.transaction.now) c.new-group.ensures.items in
    omega (arith, ap (λ (l : List ℕ). length l) text, one_some c.args.transaction.now)

pub returns-clause-short : goal.returns-clause-short
returns-clause-short c =
    let text : c.write_commit.new.into.items ≡ commit_text c.args.transaction.now = c.in_ok-write_commit.ensures.ok ∙ ap (λ (l : List ℕ). l ++ commit_text c.args.transaction.now) c.new-group.ensures.items in
    omega (arith, ap (λ (l : List ℕ). length l) text, one_short c.args.state.now c.args.transaction.now c.files-files.ensures.fitting c.requires.one)
