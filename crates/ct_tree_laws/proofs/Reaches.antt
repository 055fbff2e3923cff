-- How a walk comes to a page: what is remembered of that stands, and so the page is in its role.
use Rattle.std.proofs.Common.{◌≡◌, ℕ, zero, suc, ◌-◌, Bool, true, false, not, List, length, refl, sym, ap, ◌∙◌, subst, ⊎_elim, Option, Some, None}
use Rattle.std.specs.Prelude.{slice_get, ◌==◌}
use Rattle.std.specs.List.{prefix_len}
use Rattle.std.specs.Ordering.{is_eq}
use Rattle.std.specs.Option.{option_map}
use Rattle.std.proofs.lemmas.Bool.{cases_Bool, and_from, or_left, eq-eqb, cond-true, cond-false}
use Rattle.std.proofs.lemmas.Cmp.{tied_itself}
use Rattle.std.proofs.lemmas.Option.{slice_get-map}
use Rattle.ct_definitions.specs.Pairs.{Pair}
use Rattle.ct_node.specs.declared.reach.Reach.{Reach}
use Rattle.ct_node.specs.declared.root.Root.{Root}
use Rattle.ct_node.specs.declared.target.Target.{Target}
use Rattle.ct_node.specs.declared.target.Target.TheVariants.{First, Last, At, Before}
use Rattle.ct_node.specs.declared.target.Place.TheVariants.{Right, Down}
use Rattle.ct_node.specs.Nodes.{Entry, NodeValue, pair_in, pairs_in}
use Rattle.ct_node.specs.Places.{is_past, is_ahead, next_place}
use Rattle.ct_node.specs.Reaches.{is_known, is_of_kind, is_same_bound, rises, is_in_role, key_len_of, reach_root, reach_right, low_below, reach_below, reach_next}
use Rattle.ct_node.specs.Roles.{begins_at_low}
use Rattle.ct_node.specs.Worlds.{World, Holds, page_at}
use Rattle.ct_node.proofs.Orders.{pair_total}
use Rattle.ct_tree_laws.specs.Trees.{Tree, IsOf, IsAt, Rises, IsInner, IsInRole, IsTree}
use Rattle.ct_tree_laws.specs.Stands.{KeepsAt}
use Rattle.ct_tree_laws.specs.Reached.{Agrees, IsReachedIn, IsReachedAt}
use Rattle.ct_tree_laws.proofs.Chains.{one_node}
use Rattle.ct_tree_laws.proofs.Walking.{right_at_of, goes_past, leads_down, All-slice_get}
use Rattle.ct_tree_laws.proofs.PostingTurns.{begins_inner}

-- what is known of a node agrees with it
known_is : (known : Option ℕ) (number : ℕ) → Agrees known number → is_known known number ≡ true
known_is None number is = refl
known_is (Some known) number is = eq-eqb known number is

kind_is : (known : Option Bool) (leaf : Bool) → Agrees known leaf → is_of_kind known leaf ≡ true
kind_is None leaf is = refl
kind_is (Some true) leaf is = sym is
kind_is (Some false) leaf is = ap not (sym is)

same_bound-refl : (low : Option Pair) → is_same_bound low low ≡ true
same_bound-refl None = refl
same_bound-refl (Some low) = ap is_eq (tied_itself pair_total low)

rises_is : (low high : Option Pair) → Rises low high → rises low high ≡ true
rises_is low None is = refl
rises_is None (Some high) is = refl
rises_is (Some low) (Some high) is = is

begins_is : (w : World) (t : Tree) (node : NodeValue) → IsInRole w t node → begins_at_low node ≡ true
begins_is w t node role = ⊎_elim (λ leaf. or_left node.leaf _ leaf) (λ inner. begins_inner w t node inner (role.inner inner)) (cases_Bool node.leaf)

-- a page that stands as it was reached is in its role, where it is one of a tree
pub in_role : (w : World) (t tree : Tree) (reach : Reach) (page : ℕ) (node : NodeValue) → IsInRole w tree node → page_at w page ≡ Holds node → IsReachedIn w t reach page → is_in_role reach node ≡ true
in_role w t tree reach page node role is reached = subst (λ (v : NodeValue). is_in_role reach v ≡ true) one (by_parts found.node found.of found.key_len found.kind found.from (subst (IsInRole w tree) (sym one) role))
  where
    found : IsAt w t reached.leaf reach.low page
    found = reached.at

    one : found.node ≡ node
    one = one_node w page node found.node is found.is

    by_parts : (v : NodeValue) → IsOf t v → v.key_len ≡ t.key_len → v.leaf ≡ reached.leaf → v.low ≡ reach.low → IsInRole w tree v → is_in_role reach v ≡ true
    by_parts v of key_len kind from role = and_from (is_known reach.file v.file) _ (known_is reach.file v.file (subst (Agrees reach.file) (sym of.file) reached.file))
        (and_from (reach.index == v.index) _ (eq-eqb reach.index v.index (reached.index ∙ sym of.index))
        (and_from (is_of_kind reach.leaf v.leaf) _ (kind_is reach.leaf v.leaf (subst (Agrees reach.leaf) (sym kind) reached.kind))
        (and_from (is_known reach.key_len v.key_len) _ (known_is reach.key_len v.key_len (subst (Agrees reach.key_len) (sym key_len) reached.key_len))
        (and_from (is_same_bound v.low reach.low) _ (subst (λ bound. is_same_bound v.low bound ≡ true) from (same_bound-refl v.low))
        (and_from (rises v.low v.high) (begins_at_low v) (rises_is v.low v.high role.rises) (begins_is w tree v role))))))

-- what is remembered stands where nodes keep their places
reached_kept : (w now : World) (t : Tree) (reach : Reach) (page : ℕ) → KeepsAt w now → IsReachedIn w t reach page → IsReachedIn now t reach page
reached_kept w now t reach page keeps is = record { leaf = is.leaf; at = keeps t is.leaf reach.low page is.at; kind = is.kind; file = is.file; index = is.index; key_len = is.key_len }

pub kept_at : (w now : World) (page : Option ℕ) (reach : Reach) → KeepsAt w now → IsReachedAt page reach w → IsReachedAt page reach now
kept_at w now None reach keeps is = is
kept_at w now (Some page) reach keeps (t, is) = (t, reached_kept w now t reach page keeps is)

-- and more is known of a leaf
pub leaf_at : (w : World) (t : Tree) (low : Option Pair) (page : ℕ) (reach : Reach) → IsAt w t true low page → IsReachedAt (Some page) reach w → IsReachedAt (Some page) (record reach { leaf = Some true }) w
leaf_at w t low page reach leaf (tree, is) =
    let one : is.at.node ≡ leaf.node = one_node w page leaf.node is.at.node leaf.is is.at.is in
    let kind : true ≡ is.leaf = sym leaf.kind ∙ sym (ap (λ (v : NodeValue). v.leaf) one) ∙ is.at.kind in
    (tree, record { leaf = is.leaf; at = is.at; kind = kind; file = is.file; index = is.index; key_len = is.key_len })

-- the root is reached by its index, and the length of its keys by a pair of that length
pub reached_root : (w : World) (at : Root) (t : Tree) (leaves : List ℕ) (target : Target) → (tree : IsTree w at t leaves) → ((pair : Pair) → target ≡ At pair → length pair.key ≡ t.key_len) → IsReachedIn w t (reach_root at target) tree.row.root
reached_root w at t leaves target tree key = record { leaf = tree.root.0; at = tree.root.1; kind = tt; file = tt; index = sym tree.index; key_len = by_target target key }
  where
    by_target : (target : Target) → ((pair : Pair) → target ≡ At pair → length pair.key ≡ t.key_len) → Agrees (key_len_of target) t.key_len
    by_target First key = tt
    by_target Last key = tt
    by_target (At pair) key = key pair refl
    by_target (Before pair) key = tt

-- the page to the right of a node, where the target is past it
pub reached_right : (w : World) (t : Tree) (node : NodeValue) (target : Target) → IsOf t node → IsInRole w t node → is_past node.high target ≡ true → IsReachedIn w t (reach_right node) node.right
reached_right w t node target of role past =
    let found = right_at_of w t node target role past in
    record { leaf = node.leaf; at = subst (λ bound. IsAt w t node.leaf bound node.right) (sym found.3) found.1; kind = refl; file = of.file; index = of.index; key_len = role.key_len }

-- the page below of an entry
below_at : (w : World) (t : Tree) (node : NodeValue) (place : ℕ) (entry : Entry) → IsInner w t node → slice_get node.entries place ≡ Some entry → (leaf : Bool) × IsAt w t leaf (low_below node place) entry.child
below_at w t node zero entry inner is =
    let both : Some inner.first ≡ Some entry = sym (ap (λ (entries : List Entry). slice_get entries 0) inner.is) ∙ is in
    let one : inner.first ≡ entry = cc in
    (inner.least.0, subst (λ (e : Entry). IsAt w t inner.least.0 node.low e.child) one inner.least.1)
below_at w t node (suc place) entry inner is =
    let rest : slice_get inner.rest place ≡ Some entry = sym (ap (λ (entries : List Entry). slice_get entries (suc place)) inner.is) ∙ is in
    let found = All-slice_get (λ (e : Entry). (leaf : Bool) × IsAt w t leaf (Some e.pair) e.child) inner.rest place entry inner.others rest in
    let low : slice_get (pairs_in node) (suc place) ≡ Some entry.pair = slice_get-map pair_in node.entries (suc place) ∙ ap (option_map pair_in) is in
    (found.0, subst (λ bound. IsAt w t found.0 bound entry.child) (sym low) found.1)

pub reached_below : (w : World) (t : Tree) (node : NodeValue) (place : ℕ) (entry : Entry) → IsOf t node → IsInRole w t node → node.leaf ≡ false → slice_get node.entries place ≡ Some entry → IsReachedIn w t (reach_below node place) entry.child
reached_below w t node place entry of role inner is =
    let found = below_at w t node place entry (role.inner inner) is in
    record { leaf = found.0; at = found.1; kind = tt; file = of.file; index = of.index; key_len = role.key_len }

-- the page at which a walk goes on: to the right, and down
pub goes_right : (w : World) (t : Tree) (node : NodeValue) (target : Target) (next : ℕ) → IsOf t node → IsInRole w t node → next_place node target ≡ Right next → IsReachedIn w t (reach_right node) next
goes_right w t node target next of role is =
    let goes = goes_past node target next is in
    subst (IsReachedIn w t (reach_right node)) goes.1 (reached_right w t node target of role goes.0)

pub next_right : (w : World) (t : Tree) (node : NodeValue) (target : Target) (next : ℕ) → IsOf t node → IsInRole w t node → next_place node target ≡ Right next → IsReachedIn w t (reach_next node target) next
next_right w t node target next of role is =
    let goes = goes_past node target next is in
    let on : reach_next node target ≡ reach_right node = cond-true (is_past node.high target) _ _ goes.0 in
    subst (λ reach. IsReachedIn w t reach next) (sym on) (goes_right w t node target next of role is)

pub next_down : (w : World) (t : Tree) (node : NodeValue) (target : Target) (next : ℕ) → IsOf t node → IsInRole w t node → next_place node target ≡ Down next → IsReachedIn w t (reach_next node target) next
next_down w t node target next of role is =
    let goes = leads_down node target next is in
    let on : reach_next node target ≡ reach_below node (prefix_len (is_ahead true target) (pairs_in node) - 1) = cond-false (is_past node.high target) _ _ goes.within ∙ cond-false node.leaf _ _ goes.inner in
    subst (λ reach. IsReachedIn w t reach next) (sym on)
    (subst (IsReachedIn w t (reach_below node (prefix_len (is_ahead true target) (pairs_in node) - 1))) goes.there
    (reached_below w t node (prefix_len (is_ahead true target) (pairs_in node) - 1) goes.entry of role goes.inner goes.is))
