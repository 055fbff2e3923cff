-- Walks in a tree come to no page twice: each page is onward from those before it.
use Rattle.std.proofs.Common.{◌≡◌, ℕ, ◌<◌, List, [], ◌∷◌, length, Bool, true, false, ◌||◌, eqb, refl, sym, ap, ◌∙◌, arith, subst, inl, inr, ⊎_elim, ◌⊎◌, Option, Some, None}
use Rattle.std.specs.Prelude.{IfSome}
use Rattle.std.specs.List.{list_any, AllByRecursion, IsDistinct}
use Rattle.std.specs.Ordering.{is_lt}
use Rattle.std.proofs.lemmas.Bool.{false≢true, eqb-true, eq-eqb, false_from_ne_true, or_right}
use Rattle.std.proofs.lemmas.Cmp.{tied_itself}
use Rattle.std.proofs.lemmas.Map.Steps.{length-le_from_distinct_below}
use Rattle.ct_definitions.specs.Pairs.{Pair}
use Rattle.ct_node.specs.Nodes.{NodeValue}
use Rattle.ct_node.specs.Worlds.{World}
use Rattle.ct_node.proofs.Orders.{below-trans, pair_total}
use Rattle.ct_tree_laws.specs.Trees.{IsLower, IsApart}
use Rattle.ct_tree_laws.specs.Stands.{KeepsLevels, KeepsAt}
use Rattle.ct_tree_laws.proofs.Levels.{level_unique}
use Rattle.ct_tree_laws.proofs.Chains.{one_node}
use Rattle.ct_tree_laws.proofs.Pages.{page_within}
use Rattle.ct_tree.specs.declared.moves.Spot.{Spot}
use Rattle.ct_tree.specs.Counted.{IsPlaced, IsOnward, IsPath, IsCountedAt}

lower-trans : (a b c : Option Pair) → IsLower a b → IsLower b c → IsLower a c
lower-trans a b None first second = absurd second
lower-trans a None (Some c) first second = absurd first
lower-trans None (Some b) (Some c) first second = tt
lower-trans (Some a) (Some b) (Some c) first second = below-trans a b c first second

not_lower : (a : Option Pair) → IsLower a a → ⊥
not_lower None lower = lower
not_lower (Some a) lower = false≢true (sym (ap is_lt (tied_itself pair_total a)) ∙ lower)

one_low : (w : World) (page level other : ℕ) (low also : Option Pair) → IsPlaced w level low page → IsPlaced w other also page → low ≡ also
one_low w page level other low also first second = sym first.at.from ∙ ap (λ (v : NodeValue). v.low) (one_node w page second.at.node first.at.node second.at.is first.at.is) ∙ second.at.from

-- what is onward from a page that is onward from another is onward from that one
pub onward-trans : (w : World) (a b c : ℕ) → IsOnward w a b → IsOnward w b c → IsOnward w a c
onward-trans w a b c first second = record { level = first.level; low = first.low; next_level = second.next_level; next_low = second.next_low; here = first.here; there = second.there; onward = on first.onward second.onward }
  where
    same : first.next_level ≡ second.level
    same = level_unique w first.next_level second.level b first.there.level_is second.here.level_is

    one : second.low ≡ first.next_low
    one = one_low w b second.level first.next_level second.low first.next_low second.here first.there

    on : (first.next_level < first.level) ⊎ ((first.next_level ≡ first.level) × IsLower first.low first.next_low) → (second.next_level < second.level) ⊎ ((second.next_level ≡ second.level) × IsLower second.low second.next_low) → (second.next_level < first.level) ⊎ ((second.next_level ≡ first.level) × IsLower first.low second.next_low)
    on (inl less) (inl also) = inl (omega (arith, less, also, same))
    on (inl less) (inr also) = inl (omega (arith, less, also.0, same))
    on (inr beside) (inl also) = inl (omega (arith, beside.0, also, same))
    on (inr beside) (inr also) = inr (omega (arith, beside.0, also.0, same), lower-trans first.low first.next_low second.next_low beside.1 (subst (λ low. IsLower low second.next_low) one also.1))

-- no page is onward from itself
pub not_onward : (w : World) (a : ℕ) → IsOnward w a a → ⊥
not_onward w a on = ⊎_elim (λ less. omega (arith, less, level_unique w on.next_level on.level a on.there.level_is on.here.level_is))
    (λ (beside, lower). not_lower on.next_low (subst (λ low. IsLower low on.next_low) (one_low w a on.level on.next_level on.low on.next_low on.here on.there) lower)) on.onward

pub onward_kept : (w now : World) (a b : ℕ) → KeepsLevels w now → KeepsAt w now → IsOnward w a b → IsOnward now a b
onward_kept w now a b levels keeps on = record {
  level = on.level;
  low = on.low;
  next_level = on.next_level;
  next_low = on.next_low;
  here = record { tree = on.here.tree; leaf = on.here.leaf; at = keeps on.here.tree on.here.leaf on.low a on.here.at; level_is = levels on.level a on.here.level_is };
  there = record { tree = on.there.tree; leaf = on.there.leaf; at = keeps on.there.tree on.there.leaf on.next_low b on.there.at; level_is = levels on.next_level b on.there.level_is };
  onward = on.onward;
}

pub path_kept : (w now : World) (page : ℕ) (pages : List ℕ) → KeepsLevels w now → KeepsAt w now → IsPath w page pages → IsPath now page pages
path_kept w now page [] levels keeps path = tt
path_kept w now page (before ∷ pages) levels keeps (on, path) = (onward_kept w now before page levels keeps on, path_kept w now before pages levels keeps path)

-- each page of a path is onward to the page that it leads to
apart_from : (w : World) (page : ℕ) (pages : List ℕ) → ((q : ℕ) → list_any (eqb q) pages ≡ true → IsOnward w q page) → AllByRecursion (λ q. eqb page q ≡ false) pages
apart_from w page [] all = tt
apart_from w page (q ∷ pages) all = (
  false_from_ne_true (eqb page q) (λ one. not_onward w page (subst (λ p. IsOnward w p page) (sym (eqb-true page q one)) (all q (here q)))),
  apart_from w page pages (λ p among. all p (later p among)),
)
  where
    here : (p : ℕ) → list_any (eqb p) (p ∷ pages) ≡ true
    here p = ap (λ b. b || list_any (eqb p) pages) (eq-eqb p p refl)

    later : (p : ℕ) → list_any (eqb p) pages ≡ true → list_any (eqb p) (q ∷ pages) ≡ true
    later p among = or_right (eqb p q) (list_any (eqb p) pages) among

or_cases : (x y : Bool) → (x || y) ≡ true → (x ≡ true) ⊎ (y ≡ true)
or_cases true y is = inl refl
or_cases false y is = inr is

-- so the pages of a path are all different, and there are fewer of them than pages
path_onward : (w : World) (page : ℕ) (pages : List ℕ) → IsPath w page pages → (q : ℕ) → list_any (eqb q) pages ≡ true → IsOnward w q page
path_onward w page [] path q among = absurd (false≢true among)
path_onward w page (before ∷ pages) (on, path) q among = ⊎_elim (λ one. subst (λ p. IsOnward w p page) (sym (eqb-true q before one)) on)
    (λ rest. onward-trans w q before page (path_onward w before pages path q rest) on) (or_cases (eqb q before) (list_any (eqb q) pages) among)

path_distinct : (w : World) (page : ℕ) (pages : List ℕ) → IsPath w page pages → IsDistinct eqb (page ∷ pages)
unfolding IsDistinct
path_distinct w page [] path = (tt, tt)
path_distinct w page (before ∷ pages) path = (apart_from w page (before ∷ pages) (path_onward w page (before ∷ pages) path), path_distinct w before pages path.1)

onward_within : (w : World) (a b : ℕ) → IsOnward w a b → (a < length w.pages) × (b < length w.pages)
onward_within w a b on = (page_within w a on.here.at.node on.here.at.is, page_within w b on.there.at.node on.there.at.is)

path_within : (w : World) (page : ℕ) (before : ℕ) (pages : List ℕ) → IsPath w page (before ∷ pages) → (q : ℕ) → list_any (eqb q) (page ∷ before ∷ pages) ≡ true → q < length w.pages
path_within w page before pages path q among = ⊎_elim (λ one. subst (λ p. p < length w.pages) (sym (eqb-true q page one)) (onward_within w before page path.0).1)
    (λ rest. (onward_within w q page (path_onward w page (before ∷ pages) path q rest)).0) (or_cases (eqb q page) (list_any (eqb q) (before ∷ pages)) among)

-- a walk that is counted may move yet
pub counted_may_move : (w : World) (spot : Option Spot) (moves : ℕ) → IsApart w → IsCountedAt w spot moves → IfSome spot (λ _. moves < length w.pages)
counted_may_move w None moves apart counted = tt
counted_may_move w (Some spot) moves apart ([], count, path) = let some = apart.some in omega (arith, count, some)
counted_may_move w (Some spot) moves apart (before ∷ pages, count, path) =
    let most = length-le_from_distinct_below (spot.page ∷ before ∷ pages) (length w.pages) (path_distinct w spot.page (before ∷ pages) path) (path_within w spot.page before pages path) in
    omega (arith, count, most)
