-- What a search to the left has passed stays passed, where links stay and where another leaf is cut.
use Rattle.std.proofs.Common.{◌≡◌, ℕ, Bool, true, sym, ◌∙◌, subst, inl, inr, ⊎_elim, Option, Some, None}
use Rattle.std.proofs.lemmas.Bool.{false≢true, false_from_ne_true}
use Rattle.ct_definitions.specs.Pairs.{Pair}
use Rattle.ct_node.specs.declared.target.Target.{Target}
use Rattle.ct_node.specs.Nodes.{NodeValue, pairs_in}
use Rattle.ct_node.specs.Places.{is_past}
use Rattle.ct_node.specs.Worlds.{World, has_latch}
use Rattle.ct_node.proofs.Orders.{below, below-trans}
use Rattle.ct_tree_laws.specs.Trees.{Tree, IsLeaf, Rises}
use Rattle.ct_tree_laws.specs.Left.{IsAboveTarget, EndsAbove, NoneAhead, HasPassedLeft}
use Rattle.ct_tree_laws.proofs.Kept.{KeepsLinks, IsReached}
use Rattle.ct_tree_laws.proofs.Chains.{one_node}

-- where links stay, what a search has passed stays passed
pub HasPassedLeft-kept : (w now : World) (other : ℕ) → KeepsLinks w now → ((page : ℕ) → has_latch other page now ≡ has_latch other page w) → ((page : ℕ) (node : NodeValue) → has_latch other page w ≡ true → IsReached w page node → IsReached now page node) → (t : Tree) (or_at : Bool) (target : Target) (low : Pair) → HasPassedLeft w t other or_at target low → HasPassedLeft now t other or_at target low
HasPassedLeft-kept w now other keeps latch held t or_at target low passed page node leaf above =
    let before = keeps.back page node (record { is = leaf.is; linked = leaf.linked }) leaf.leaf in
    let alike = before.2 in
    let was : IsLeaf w t page before.0 = record { is = before.1.is; of = record { file = sym alike.file ∙ leaf.of.file; index = sym alike.index ∙ leaf.of.index }; leaf = sym alike.leaf ∙ leaf.leaf; linked = before.1.linked } in
    ⊎_elim
    (λ begins. inl (subst (IsAboveTarget target) (sym alike.low) begins))
    (λ (latched, clear).
    let still = held page before.0 latched before.1 in
    let same : node ≡ before.0 = one_node now page before.0 node still.is leaf.is in
    inr (latch page ∙ latched, subst (λ (v : NodeValue). NoneAhead or_at target (pairs_in v)) (sym same) clear))
    (passed page before.0 was (subst (EndsAbove low) alike.high above))

-- what ends above a pair still does with a higher bound
pub EndsAbove-higher : (low middle : Pair) (high : Option Pair) → Rises (Some middle) high → below low middle ≡ true → EndsAbove low high
EndsAbove-higher low middle None up above = tt
EndsAbove-higher low middle (Some high) up above = below-trans low middle high above up

-- what begins above a target still does with a higher bound
pub IsAboveTarget-higher : (target : Target) (low : Option Pair) (middle : Pair) → ((lower : Pair) → below lower middle ≡ true → is_past (Some middle) target ≡ true → is_past (Some lower) target ≡ true) → Rises low (Some middle) → IsAboveTarget target low → IsAboveTarget target (Some middle)
IsAboveTarget-higher target None middle lower up begins = absurd begins
IsAboveTarget-higher target (Some low) middle lower up begins = false_from_ne_true (is_past (Some middle) target) (λ past. false≢true (sym begins ∙ lower low up past))
