use Rattle.std.proofs.Common.{◌≡◌, ℕ, ◌+◌, ◌^◌, ◌<◌, List, [], ◌∷◌, ◌++◌, length, sym, ap, subst, ◌∙◌, arith, length-append}
use Rattle.std.specs.List.{AllByRecursion}
use Rattle.ct_definitions.specs.declared.change.Change.{Change}
use Rattle.ct_definitions.specs.declared.change.Change.TheVariants.{Add}
use Rattle.ct_definitions.specs.declared.change.Transaction.{Transaction}
use Rattle.ct_change_codec.specs.ChangeFormat.{add_codec, change_codec, LengthsFit}
use Rattle.ct_group.specs.Commit.{changes_text, FitsCommit}
use Rattle.ct_group.proofs.tests.one_add.Goals as goal

length-add : (file num : ℕ) (new : List ℕ) → length (changes_text (Add file num new ∷ [])) ≡ 15 + length new
unfolding change_codec add_codec
length-add file num new = omega (arith, length-append new [])

one_fits : (t : Transaction) (file num : ℕ) (new : List ℕ) → t.changes ≡ Add file num new ∷ [] → length new ≡ 4 → FitsCommit t
one_fits t file num new is len = record {
  lengths = let short : length new < 2 ^ 32 = omega (arith, len) in subst (λ (cs : List Change). AllByRecursion LengthsFit cs) (sym is) (short, tt);
  few = omega (arith, ap length is);
  short = omega (arith, ap (λ (cs : List Change). length (changes_text cs)) is, length-add file num new, len);
}

pub returns : goal.returns
returns c =
    let change : Change = Add 0 1 c.in_ok-new.new in
    one_fits _ 0 1 c.in_ok-new.new (c.in_ok-push.ensures.ok ∙ ap (λ (cs : List Change). cs ++ change ∷ []) c.new-changes.ensures) (ap length c.in_ok-new.ensures)
