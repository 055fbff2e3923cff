use Rattle.std.proofs.Common.{◌≡◌, ◌∙◌, List, ℕ, true, false, subst, sym, ap}
use Rattle.std.specs.Prelude.{All}
use Rattle.std.specs.Ordering.{nat_cmp, is_lt}
use Rattle.std.specs.Cmp.Lexicographic.{slice_cmp}
use Rattle.ct_definitions.specs.Pairs.{Pair, pair_cmp}
use Rattle.ct_pairs.specs.Finds.{has_pair}
use Rattle.ct_pairs.proofs.OtherKeys.{none_up_to, key_below}
use Rattle.ct_pairs.proofs.Joined.{above_last}
use Rattle.ct_pairs.proofs.pairs.Pairs.ends_below.Goals as goal

pub returns-in-Some-clause-free : goal.returns-in-Some-clause-free
returns-in-Some-clause-free c = λ below.
    let last = c.in-Some.last.now in
    let own : c.key.result.now ≡ last.key = c.key.ensures in
    let less = ap (λ (l : List ℕ). is_lt (slice_cmp nat_cmp l c.args.key.now)) (sym own) ∙ ap is_lt (sym c.compare_bytes.ensures) ∙ sym c.is_lt.ensures ∙ below in
    none_up_to c.args.key.now last c.args.self.now less (subst (λ (l : List Pair). All (λ x. is_lt (pair_cmp last x) ≡ false) l) c.self.view_is c.in-Some.ensures.some)

pub returns-in-Some-clause-below : goal.returns-in-Some-clause-below
returns-in-Some-clause-below c = λ below num.
    let last = c.in-Some.last.now in
    let pair : Pair = record { key = c.args.key.now; num = num } in
    let own : c.key.result.now ≡ last.key = c.key.ensures in
    let less = ap (λ (l : List ℕ). is_lt (slice_cmp nat_cmp l c.args.key.now)) (sym own) ∙ ap is_lt (sym c.compare_bytes.ensures) ∙ sym c.is_lt.ensures ∙ below in
    sym (above_last pair last c.args.self.now (subst (λ (l : List Pair). All (λ x. is_lt (pair_cmp last x) ≡ false) l) c.self.view_is c.in-Some.ensures.some) (subst (λ (l : List Pair). has_pair last l ≡ true) c.self.view_is c.in-Some.ensures.among))
    ∙ key_below last pair less
