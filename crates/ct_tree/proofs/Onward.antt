-- Where a walk goes on from a node, by what the node tells.
use Rattle.std.proofs.Common.{◌≡◌, ℕ, ◌-◌, Bool, true, false, refl, sym, ap, ◌∙◌, length, List, nat_lt, Option, Some, None}
use Rattle.std.specs.Prelude.{if◌then◌else◌, option_map, slice_get}
use Rattle.std.specs.List.{prefix_len}
use Rattle.std.proofs.lemmas.Bool.{eq-eqb}
use Rattle.ct_definitions.specs.Pairs.{Pair}
use Rattle.ct_node.specs.Nodes.{Entry, NodeValue, pairs_in}
use Rattle.ct_node.specs.Places.{is_ahead, is_past, here, down, next_place}
use Rattle.ct_node.specs.declared.target.Place.{Place}
use Rattle.ct_node.specs.declared.target.Place.TheVariants.{Right, Down, Here, End}
use Rattle.ct_node.specs.declared.target.Target.{Target}
use Rattle.ct_tree.specs.Rules.{leads_to}

pub goes_right : (node : NodeValue) (target : Target) (right : ℕ) → is_past node.high target ≡ true → right ≡ node.right → Right right ≡ next_place node target
goes_right node target right past is = ap Right is ∙ sym (ap (λ (p : Bool). if p then Right node.right else (if node.leaf then here (pairs_in node) (prefix_len (is_ahead false target) (pairs_in node)) else down (slice_get node.entries (prefix_len (is_ahead true target) (pairs_in node) - 1)))) past)

-- down through the entry of a place
goes_below : (node : NodeValue) (target : Target) (place : ℕ) → is_past node.high target ≡ false → node.leaf ≡ false → place ≡ prefix_len (is_ahead true target) (pairs_in node) - 1 → next_place node target ≡ down (slice_get node.entries place)
goes_below node target place past inner is =
    ap (λ (p : Bool). if p then Right node.right else (if node.leaf then here (pairs_in node) (prefix_len (is_ahead false target) (pairs_in node)) else down (slice_get node.entries (prefix_len (is_ahead true target) (pairs_in node) - 1)))) past
    ∙ ap (λ (leaf : Bool). if leaf then here (pairs_in node) (prefix_len (is_ahead false target) (pairs_in node)) else down (slice_get node.entries (prefix_len (is_ahead true target) (pairs_in node) - 1))) inner
    ∙ ap (λ (at : ℕ). down (slice_get node.entries at)) (sym is)

down_child : (entry : Option Entry) (child : ℕ) → Some child ≡ option_map (λ (e : Entry). e.child) entry → Down child ≡ down entry
down_child None child is = absurd (cc)
down_child (Some entry) child is = cc

down_none : (entry : Option Entry) → None ≡ option_map (λ (e : Entry). e.child) entry → End ≡ down entry
down_none None is = refl
down_none (Some entry) is = absurd (cc)

pub goes_down : (node : NodeValue) (target : Target) (place below : ℕ) → is_past node.high target ≡ false → node.leaf ≡ false → place ≡ prefix_len (is_ahead true target) (pairs_in node) - 1 → Some below ≡ option_map (λ (e : Entry). e.child) (slice_get node.entries place) → Down below ≡ next_place node target
goes_down node target place below past inner is child = down_child (slice_get node.entries place) below child ∙ sym (goes_below node target place past inner is)

pub goes_nowhere : (node : NodeValue) (target : Target) (place : ℕ) → is_past node.high target ≡ false → node.leaf ≡ false → place ≡ prefix_len (is_ahead true target) (pairs_in node) - 1 → None ≡ option_map (λ (e : Entry). e.child) (slice_get node.entries place) → End ≡ next_place node target
goes_nowhere node target place past inner is child = down_none (slice_get node.entries place) child ∙ sym (goes_below node target place past inner is)

-- a walk that is not past a node does not go on to the right
not_here : (pairs : List Pair) (place q : ℕ) (within : Bool) → (if within then Here place else End) ≡ Right q → ⊥
not_here pairs place q true is = absurd (cc)
not_here pairs place q false is = absurd (cc)

not_down : (entry : Option Entry) (q : ℕ) → down entry ≡ Right q → ⊥
not_down None q is = absurd (cc)
not_down (Some entry) q is = absurd (cc)

pub goes_not_right : (node : NodeValue) (target : Target) (q : ℕ) → is_past node.high target ≡ false → next_place node target ≡ Right q → ⊥
goes_not_right node target q past is = by_kind node.leaf (sym (ap (λ (p : Bool). if p then Right node.right else inside node.leaf) past) ∙ is)
  where
    inside : Bool → Place
    inside leaf = if leaf then here (pairs_in node) (prefix_len (is_ahead false target) (pairs_in node)) else down (slice_get node.entries (prefix_len (is_ahead true target) (pairs_in node) - 1))

    by_kind : (leaf : Bool) → inside leaf ≡ Right q → ⊥
    by_kind true goes = not_here (pairs_in node) (prefix_len (is_ahead false target) (pairs_in node)) q (nat_lt (prefix_len (is_ahead false target) (pairs_in node)) (length (pairs_in node))) goes
    by_kind false goes = not_down (slice_get node.entries (prefix_len (is_ahead true target) (pairs_in node) - 1)) q goes

-- a link that leads back to its own page
pub leads_right : (page right : ℕ) → right ≡ page → leads_to page (Right right) ≡ true
leads_right page right is = eq-eqb right page is

pub leads_down : (page below : ℕ) → below ≡ page → leads_to page (Down below) ≡ true
leads_down page below is = eq-eqb below page is
