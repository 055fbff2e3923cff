-- A store that one run keeps and then another is kept by both.
use Rattle.std.proofs.Common.{◌≡◌, ◌≤◌, ◌+◌, ℕ, min, List, [], ◌∷◌, ◌++◌, length, refl, sym, ap, ◌∙◌, subst, append_assoc, arith, length-append}
use Rattle.std.specs.Prelude.{filter, nat_le}
use Rattle.std.proofs.lemmas.Bool.Decides.{nat_tests}
use Rattle.std.proofs.lemmas.List.Elements.{filter-append}
use Rattle.ct_definitions.specs.declared.change.Transaction.{Transaction}
use Rattle.ct_definitions.specs.Histories.{History, IsHistory, Begins, last_number, after_up_to, transactions_above}
use Rattle.ct_laws.specs.Cut.{history_up_to}
use Rattle.ct_laws.proofs.Histories.{IsHistory-front, after_up_to_base, transactions_above_base}
use Rattle.ct_tool.specs.Runs.{StaysKept, KeepsStore, RunsKeep, last_of}

-- what is up to two numbers is up to the lesser one
filter_both : (a b : ℕ) (ts : List Transaction) → filter (λ t. nat_le t.number b) (filter (λ t. nat_le t.number a) ts) ≡ filter (λ t. nat_le t.number (min a b)) ts
filter_both a b [] = refl
filter_both a b (t ∷ ts) = grind (arith, nat_tests, filter_both a b ts)

-- a history on the same base with more transactions goes on from it
goes_on : (early late : History) (more : List Transaction) → IsHistory early → late.base ≡ early.base → late.base_number ≡ early.base_number → late.transactions ≡ early.transactions ++ more → Begins early late
goes_on early late more is base number all = record {
  base_number = omega (arith, number);
  last = omega (arith, number, ap (λ (ts : List Transaction). length ts) all, length-append early.transactions more);
  base = λ _. ap (after_up_to early) number ∙ after_up_to_base early is ∙ sym base;
  first = λ _. (more, all ∙ ap (λ (ts : List Transaction). ts ++ more) (sym (transactions_above_base early is)) ∙ ap (λ n. transactions_above n early ++ more) (sym number));
}

-- and has its transactions first
same_first : (early late : History) → IsHistory early → late.base_number ≡ early.base_number → Begins early late → (more : List Transaction) × (late.transactions ≡ early.transactions ++ more)
same_first early late is number begins =
    let first = begins.first (omega (arith, number)) in
    (first.0, first.1 ∙ ap (λ n. transactions_above n early ++ first.0) number ∙ ap (λ (ts : List Transaction). ts ++ first.0) (transactions_above_base early is))

module _ (pages log pages' log' pages'' log'' : List ℕ → Type 0) where
  compose : KeepsStore pages log pages' log' → KeepsStore pages' log' pages'' log'' → KeepsStore pages log pages'' log''
  compose first second head front history least founds from_base kept =
      let one = first head front history least founds from_base kept in
      let two = second head front one.later one.acknowledged one.founds (omega (arith, one.base, one.from_least, from_base)) one.kept in
      let least_of = min one.number two.number in
      let early = history_up_to least_of history in
      let before = history_up_to one.number history in
      let mid = history_up_to two.number one.later in
      let up_to_mid = same_first before one.later (IsHistory-front history one.number founds.defined) one.base one.begins in
      let up_to_last = same_first mid two.later (IsHistory-front one.later two.number (one.founds).defined) two.base two.begins in
      let cut : mid.transactions ≡ early.transactions ++ filter (λ t. nat_le t.number two.number) up_to_mid.0 =
      ap (λ (ts : List Transaction). filter (λ t. nat_le t.number two.number) ts) up_to_mid.1
      ∙ filter-append (λ (t : Transaction). nat_le t.number two.number) before.transactions up_to_mid.0
      ∙ ap (λ (ts : List Transaction). ts ++ filter (λ t. nat_le t.number two.number) up_to_mid.0) (filter_both one.number two.number history.transactions) in
      let whole : (two.later).transactions ≡ early.transactions ++ (filter (λ t. nat_le t.number two.number) up_to_mid.0 ++ up_to_last.0) =
      up_to_last.1 ∙ ap (λ (ts : List Transaction). ts ++ up_to_last.0) cut ∙ append_assoc early.transactions (filter (λ t. nat_le t.number two.number) up_to_mid.0) up_to_last.0 in
      record {
        number = least_of;
        kept_before = omega (arith, one.kept_before, one.from_least, two.kept_before);
        later = two.later;
        founds = two.founds;
        base = two.base ∙ one.base;
        begins = goes_on early two.later (filter (λ t. nat_le t.number two.number) up_to_mid.0 ++ up_to_last.0) (IsHistory-front history least_of founds.defined) ((two.founds).base ∙ sym founds.base) (two.base ∙ one.base) whole;
        acknowledged = two.acknowledged;
        from_least = omega (arith, one.from_least, two.from_least);
        kept = two.kept;
      }

pub all_keep : {P L : Type 0} (page_images : P → List ℕ → Type 0) (log_images : L → List ℕ → Type 0) (first next : P × L) (rest : List (P × L)) → RunsKeep page_images log_images first (next ∷ rest)
    → KeepsStore (page_images first.0) (log_images first.1) (page_images (last_of next rest).0) (log_images (last_of next rest).1)
all_keep page_images log_images first next [] runs = runs.0
all_keep page_images log_images first next (third ∷ rest) runs =
    compose (page_images first.0) (log_images first.1) (page_images next.0) (log_images next.1) (page_images (last_of third rest).0) (log_images (last_of third rest).1)
    runs.0 (all_keep page_images log_images next third rest runs.1)
