use Rattle.std.proofs.Common.{◌≡◌, ℕ, List, nat_cmp, refl, ap, sym, ◌∙◌}
use Rattle.std.specs.Ordering.{ordering_then}
use Rattle.std.specs.Cmp.Lexicographic.{slice_cmp}
use Rattle.std.specs.declared.cmp.Ordering.{Ordering}
use Rattle.std.specs.declared.cmp.Ordering.TheVariants.{Less, Equal, Greater}
use Rattle.ct_definitions.specs.Pairs.{Pair, pair_cmp}
use Rattle.ct_key.specs.Order.{front_number}
use Rattle.ct_laws.proofs.Pairs.{same_pair}
use Rattle.ct_pairs.proofs.pair.PairOrd.cmp.Goals as goal

-- keys with different fronts decide
by_keys : (a b : Pair) (x y : ℕ) → x ≡ front_number a.key → y ≡ front_number b.key → (x ≡ y → ⊥) → slice_cmp nat_cmp a.key b.key ≡ pair_cmp a b
by_keys a b x y first second apart = by_order (slice_cmp nat_cmp a.key b.key) refl
  where
    by_order : (order : Ordering) → slice_cmp nat_cmp a.key b.key ≡ order → order ≡ ordering_then order (nat_cmp a.num b.num)
    by_order Less is = refl
    by_order Equal is =
        let P : Pair = record { key = a.key; num = 0 } in
        let Q : Pair = record { key = b.key; num = 0 } in
        let same : P ≡ Q = same_pair P Q (ap (λ (o : Ordering). ordering_then o Equal) is) in
        absurd (apart (first ∙ ap (λ (p : Pair). front_number p.key) same ∙ sym second))
    by_order Greater is = refl

pub returns-then-self-other : goal.returns-then-self-other
returns-then-self-other c =
    let own : Pair = record { key = c.self.inside.key.items; num = c.self.inside.num } in
    let others : Pair = record { key = c.other.inside.key.items; num = c.other.inside.num } in
    c.compare_by_fronts.ensures
    ∙ ap (λ (l : List ℕ). slice_cmp nat_cmp l c.as_slice-others.result.now) c.as_slice-own.ensures
    ∙ ap (slice_cmp nat_cmp own.key) c.as_slice-others.ensures
    ∙ by_keys own others c.self.inside.front c.other.inside.front c.self.invariant c.other.invariant c.if-self-other.true
    ∙ ap (λ (p : Pair). pair_cmp p others) c.self.view_is
    ∙ ap (pair_cmp c.args.self.now) c.other.view_is
