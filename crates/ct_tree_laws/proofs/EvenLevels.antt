-- What the even levels of a tree say of the pages that a node leads to.
use Rattle.std.proofs.Common.{◌≡◌, ℕ, false, List, subst, Some}
use Rattle.std.specs.List.{All}
use Rattle.std.proofs.lemmas.List.Elements.{All-weaker}
use Rattle.ct_node.specs.declared.root.Root.{Root}
use Rattle.ct_node.specs.Nodes.{Entry, NodeValue}
use Rattle.ct_node.specs.Worlds.{World, Holds, page_at, IsLevel, IsBeside, IsOneAbove, is_fresh}
use Rattle.ct_tree_laws.specs.Trees.{Tree, IsOf, IsTree, Link, link_of}

-- the right link of a node leads to a page of its level
pub right_is_beside : (w : World) (at : Root) (t : Tree) (leaves : List ℕ) (page : ℕ) (node : NodeValue) (link : Link) → IsTree w at t leaves → page_at w page ≡ Holds node → IsOf t node → is_fresh page w ≡ false → link_of node ≡ Some link → IsBeside w page link.page
right_is_beside w at t leaves page node link tree is of linked link_is =
    let found = tree.levels page node is of linked in
    (found.0, found.1, found.2.right link link_is)

-- and each page below it is one level lower
pub below_is_lower : (w : World) (at : Root) (t : Tree) (leaves : List ℕ) (page : ℕ) (node : NodeValue) → IsTree w at t leaves → page_at w page ≡ Holds node → IsOf t node → is_fresh page w ≡ false → node.leaf ≡ false → All (λ (entry : Entry). IsOneAbove w page entry.child) node.entries
below_is_lower w at t leaves page node tree is of linked inner =
    let found = tree.levels page node is of linked in
    let leads = found.2.below inner in
    All-weaker (λ (entry : Entry). IsLevel w leads.0 entry.child) (λ (entry : Entry). IsOneAbove w page entry.child) (λ entry lower. (leads.0, subst (λ level. IsLevel w level page) leads.1 found.1, lower)) node.entries leads.2
