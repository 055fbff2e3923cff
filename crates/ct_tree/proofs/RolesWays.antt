-- How an operation has come to its page after a turn: it stays there, or comes to another one.
use Rattle.std.proofs.Common.{◌≡◌, ℕ, Bool, true, false, List, refl, sym, ap, ◌∙◌, subst, ⊎_elim, Option, Some, None}
use Rattle.std.specs.Prelude.{◌==◌, if◌then◌else◌}
use Rattle.std.proofs.lemmas.Bool.{false≢true, eqb-true, eq-eqb}
use Rattle.ct_definitions.specs.Pairs.{Pair}
use Rattle.ct_node.specs.declared.reach.Reach.{Reach}
use Rattle.ct_node.specs.declared.root.Root.{Root}
use Rattle.ct_node.specs.declared.root.IndexRow.{IndexRow}
use Rattle.ct_node.specs.declared.target.Target.{Target}
use Rattle.ct_node.specs.Nodes.{NodeValue}
use Rattle.ct_node.specs.Reaches.{reach_root, reach_right, reach_next}
use Rattle.ct_node.specs.Worlds.{World, PageValue, Holds, page_at, is_fresh}
use Rattle.ct_tree_laws.specs.declared.walk.Walk.{Walk}
use Rattle.ct_tree_laws.specs.declared.walk.Stage.{Stage}
use Rattle.ct_tree_laws.specs.Trees.{Tree, IsOf, IsAt, IsInRole, IsTree}
use Rattle.ct_tree_laws.specs.Stands.{Stands, KeepsAt}
use Rattle.ct_tree_laws.specs.Reached.{page_of, over_of, IsReachedIn, IsReachedAt}
use Rattle.ct_tree_laws.proofs.Chains.{one_node}
use Rattle.ct_tree_laws.proofs.PostingTurns.{root_row}
use Rattle.ct_tree_laws.proofs.Reaches.{in_role, kept_at, reached_root, goes_right, next_right, next_down}
use Rattle.ct_tree.specs.Rules.{IsRoot, IsRightOf, IsDownOf, IsNext}
use Rattle.ct_tree.specs.Roles.{HasRole, finds_leaf, way_of, way_here, way_moved, way_after, over_after, came_by}

-- the page of an operation after a turn stands as it was reached
abbrev pub Comes : Walk → World → World → Stage → Reach → Reach → Stage → Type 0
Comes walk w now from reach over to = IsReachedAt (page_of to) (came_by walk w from to reach over) now

-- and so does the page above that it remembers
abbrev pub ComesOver : World → Stage → Reach → Reach → Stage → Type 0
ComesOver now from reach over to = (above : ℕ) → over_of to ≡ Some above → IsReachedAt (Some above) (over_after (page_of from) (page_of to) above reach over) now

pub no_over : (now : World) (from to : Stage) (reach over : Reach) → over_of to ≡ None → ComesOver now from reach over to
no_over now from to reach over none above is = let both : None ≡ Some above = sym none ∙ is in absurd (cc)

-- one way where two pages are one, and another where they are not
pub by_page : (now : World) (page next target : ℕ) (one other : Reach) → (page ≡ next → IsReachedAt (Some target) one now) → ((page ≡ next → ⊥) → IsReachedAt (Some target) other now) → IsReachedAt (Some target) (if page == next then one else other) now
by_page now page next target one other same apart = by_test (page == next) refl
  where
    by_test : (test : Bool) → (page == next) ≡ test → IsReachedAt (Some target) (if test then one else other) now
    by_test true is = same (eqb-true page next is)
    by_test false is = apart (λ equal. false≢true (sym is ∙ eq-eqb page next equal))

-- an operation comes from a page to a next one, which may be the same
pub comes_to : (walk : Walk) (w now : World) (from to : Stage) (reach over : Reach) (page next : ℕ) → page_of from ≡ Some page → page_of to ≡ Some next → IsReachedAt (Some page) (way_here (finds_leaf from) to reach) now → ((page ≡ next → ⊥) → IsReachedAt (Some next) (way_moved (over_of from) (over_of to) over (way_of walk from w)) now) → Comes walk w now from reach over to
comes_to walk w now from to reach over page next was is here moved =
    subst (λ q. IsReachedAt q (way_after walk (page_of from) (over_of from) (finds_leaf from) q to reach over (way_of walk from w)) now) (sym is)
    (subst (λ p. IsReachedAt (Some next) (way_after walk p (over_of from) (finds_leaf from) (Some next) to reach over (way_of walk from w)) now) (sym was)
    (by_page now page next next (way_here (finds_leaf from) to reach) (way_moved (over_of from) (over_of to) over (way_of walk from w)) (λ one. subst (λ p. IsReachedAt (Some p) (way_here (finds_leaf from) to reach) now) one here) moved))

-- and one that stays at its page
pub comes_here : (walk : Walk) (w now : World) (from to : Stage) (reach over : Reach) (page : ℕ) → page_of from ≡ Some page → page_of to ≡ Some page → IsReachedAt (Some page) (way_here (finds_leaf from) to reach) now → Comes walk w now from reach over to
comes_here walk w now from to reach over page was is here = comes_to walk w now from to reach over page page was is here (λ differ. absurd (differ refl))

-- the root, to which a walk comes from no page
pub root_comes : (walk : Walk) (w now : World) (from : Stage) (page : ℕ) → Stands walk from w → KeepsAt w now → IsRoot walk.at page w → IsReachedAt (Some page) (reach_root walk.at walk.target) now
root_comes walk w now from page here keeps (row, named, is) =
    let one : here.is.row.root ≡ page = sym (is ∙ ap (λ (r : IndexRow). r.root) (root_row w walk here.tree here.leaves here.is row named)) in
    kept_at w now (Some page) (reach_root walk.at walk.target) keeps (here.tree, subst (IsReachedIn w here.tree (reach_root walk.at walk.target)) one (reached_root w walk.at here.tree here.leaves walk.target here.is here.key))

-- a node of a tree that links reach
pub record IsPart (w : World) (t : Tree) (page : ℕ) (node : NodeValue) : Type 0 where
  pub is : page_at w page ≡ Holds node
  pub of : IsOf t node
  pub role : IsInRole w t node

pub part_at : (w : World) (at : Root) (t : Tree) (leaves : List ℕ) (leaf : Bool) (low : Option Pair) (page : ℕ) (node : NodeValue) → IsTree w at t leaves → IsAt w t leaf low page → page_at w page ≡ Holds node → IsPart w t page node
part_at w at t leaves leaf low page node tree place is =
    let of : IsOf t node = subst (IsOf t) (one_node w page node place.node is place.is) place.of in
    record { is = is; of = of; role = tree.roles page node is of place.linked }

-- a page that is looked at is in its role
pub role_of : (w : World) (t : Tree) (reach : Reach) (page : ℕ) → ((node : NodeValue) → page_at w page ≡ Holds node → IsPart w t page node) → IsReachedAt (Some page) reach w → HasRole (Some page) reach w
role_of w t reach page part (t1, reached) node is = in_role w t1 t reach page node (part node is).role is reached

pub role_at : (w : World) (at : Root) (t : Tree) (leaves : List ℕ) (leaf : Bool) (low : Option Pair) (reach : Reach) (page : ℕ) → IsTree w at t leaves → IsAt w t leaf low page → IsReachedAt (Some page) reach w → HasRole (Some page) reach w
role_at w at t leaves leaf low reach page tree place = role_of w t reach page (λ node is. part_at w at t leaves leaf low page node tree place is)

pub role_held : (w : World) (at : Root) (t : Tree) (leaves : List ℕ) (held : NodeValue) (reach : Reach) (page : ℕ) → IsTree w at t leaves → page_at w page ≡ Holds held → IsOf t held → is_fresh page w ≡ false → IsReachedAt (Some page) reach w → HasRole (Some page) reach w
role_held w at t leaves held reach page tree holds of linked = role_of w t reach page (λ node is.
    let same : IsOf t node = subst (IsOf t) (one_node w page node held is holds) of in
    record { is = is; of = same; role = tree.roles page node is same linked })

-- by what stands in its page a walk goes on: to the right, or toward a target
module _ (w now : World) (at : Root) (t : Tree) (leaves : List ℕ) (leaf : Bool) (low : Option Pair) (page next : ℕ) (way : PageValue → Reach) (tree : IsTree w at t leaves) (place : IsAt w t leaf low page) (keeps : KeepsAt w now) where
  pub goes_on : (node : NodeValue) (reach : Reach) → page_at w page ≡ Holds node → way (Holds node) ≡ reach → IsReachedIn w t reach next → IsReachedAt (Some next) (way (page_at w page)) now
  goes_on node reach is told reached = subst (λ on. IsReachedAt (Some next) on now) (sym (ap way is ∙ told)) (kept_at w now (Some next) reach keeps (t, reached))

  pub comes_right : (target : Target) → ((node : NodeValue) → way (Holds node) ≡ reach_right node) → IsRightOf w target page next → IsReachedAt (Some next) (way (page_at w page)) now
  comes_right target told (node, is, goes) =
      let part = part_at w at t leaves leaf low page node tree place is in
      goes_on node (reach_right node) is (told node) (goes_right w t node target next part.of part.role goes)

  pub comes_next_right : (target : Target) → ((node : NodeValue) → way (Holds node) ≡ reach_next node target) → IsRightOf w target page next → IsReachedAt (Some next) (way (page_at w page)) now
  comes_next_right target told (node, is, goes) =
      let part = part_at w at t leaves leaf low page node tree place is in
      goes_on node (reach_next node target) is (told node) (next_right w t node target next part.of part.role goes)

  pub comes_next_down : (target : Target) → ((node : NodeValue) → way (Holds node) ≡ reach_next node target) → IsDownOf w target page next → IsReachedAt (Some next) (way (page_at w page)) now
  comes_next_down target told (node, is, goes) =
      let part = part_at w at t leaves leaf low page node tree place is in
      goes_on node (reach_next node target) is (told node) (next_down w t node target next part.of part.role goes)

  pub comes_next : (target : Target) → ((node : NodeValue) → way (Holds node) ≡ reach_next node target) → IsNext w target page next → IsReachedAt (Some next) (way (page_at w page)) now
  comes_next target told leads = ⊎_elim (comes_next_right target told) (comes_next_down target told) leads.0
