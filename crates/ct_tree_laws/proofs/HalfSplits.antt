-- No half split is reached by a link.
use Rattle.std.proofs.Common.{◌≡◌, ℕ, Bool, true, false, List, sym, ap, ◌∙◌, subst, Some}
use Rattle.std.specs.List.{All}
use Rattle.std.proofs.lemmas.Bool.{false≢true}
use Rattle.std.proofs.lemmas.List.Elements.{All-cons, All-weaker}
use Rattle.ct_node.specs.declared.root.Root.{Root}
use Rattle.ct_node.specs.declared.root.IndexRow.{IndexRow}
use Rattle.ct_node.specs.Nodes.{Entry, NodeValue}
use Rattle.ct_node.specs.Halves.{upper_half}
use Rattle.ct_node.specs.Worlds.{World, Holds, page_at, has_own, is_fresh, row_in}
use Rattle.ct_tree_laws.specs.declared.walk.Walk.{Walk}
use Rattle.ct_tree_laws.specs.declared.walk.Stage.TheVariants as stage
use Rattle.ct_tree_laws.specs.declared.rise.Separator.{Separator}
use Rattle.ct_tree_laws.specs.declared.rise.Rise.TheVariants as rise
use Rattle.ct_tree_laws.specs.Trees.{Tree, IsOf, IsAt, IsTree, IsAmong, Link, link_of}
use Rattle.ct_tree_laws.specs.Stands.{Stands}
use Rattle.ct_tree_laws.proofs.Pages.{is_fresh_from}
use Rattle.ct_tree_laws.proofs.Keys.{leaf_at}
use Rattle.ct_tree_laws.proofs.PostingCrowns.{raises_root}

pub half_split : (walk : Walk) (page right : ℕ) (w : World) → Stands walk (stage.Cut page right) w → (node : NodeValue) × (page_at w page ≡ Holds node) × (has_own walk.op page w ≡ true) × (page_at w right ≡ Holds (upper_half node)) × (is_fresh right w ≡ true)
half_split walk page right w stands =
    let here = stands in
    (here.place.1.0, here.place.1.1.is, here.place.1.1.owned, here.place.1.2, is_fresh_from walk.op right w here.place.2)

pub not_a_leaf : (w : World) (at : Root) (t : Tree) (leaves : List ℕ) (right : ℕ) → IsTree w at t leaves → is_fresh right w ≡ true → IsAmong right leaves → ⊥
not_a_leaf w at t leaves right tree fresh among = false≢true (sym (leaf_at w at t leaves tree right among).1.linked ∙ fresh)

pub not_linked : (w : World) (at : Root) (t : Tree) (leaves : List ℕ) (right page : ℕ) (node : NodeValue) (link : Link) → IsTree w at t leaves → is_fresh right w ≡ true → page_at w page ≡ Holds node → IsOf t node → is_fresh page w ≡ false → link_of node ≡ Some link → link.page ≡ right → ⊥
not_linked w at t leaves right page node link tree fresh is of linked link_is one =
    false≢true (sym ((tree.roles page node is of linked).right link link_is).linked ∙ ap (λ p. is_fresh p w) one ∙ fresh)

pub half_above : (walk : Walk) (s : Separator) (page right : ℕ) (w : World) → Stands walk (stage.Post s (rise.Cut page right)) w → (node : NodeValue) × (page_at w page ≡ Holds node) × (has_own walk.op page w ≡ true) × (page_at w right ≡ Holds (upper_half node)) × (is_fresh right w ≡ true)
half_above walk s page right w stands =
    let here = stands in
    let node = here.place.1.1 in
    (node.0, node.1.0.is, node.1.0.owned, node.2, is_fresh_from walk.op right w here.place.1.2)

pub new_root : (walk : Walk) (s : Separator) (root : ℕ) (w : World) → Stands walk (stage.Post s (rise.Crowned root)) w → (node : NodeValue) × (page_at w root ≡ Holds node) × (node.leaf ≡ false) × (has_own walk.op walk.at.page w ≡ true) × (is_fresh root w ≡ true)
new_root walk s root w stands =
    let here = stands in
    let node = here.place.1.3 in
    (node.0, node.1, node.2.inner, (raises_root walk s root w here).owned, is_fresh_from walk.op root w here.place.1.2)

-- no entry of an inner node that links reach leads to a page that no link reaches, and no root is one
pub not_below : (w : World) (at : Root) (t : Tree) (leaves : List ℕ) (right page : ℕ) (node : NodeValue) → IsTree w at t leaves → is_fresh right w ≡ true → page_at w page ≡ Holds node → IsOf t node → is_fresh page w ≡ false → node.leaf ≡ false → All (λ (entry : Entry). entry.child ≡ right → ⊥) node.entries
not_below w at t leaves right page node tree fresh is of linked inner =
    let leads = (tree.roles page node is of linked).inner inner in
    let not_fresh : (child : ℕ) → is_fresh child w ≡ false → child ≡ right → ⊥ = λ child reached one. false≢true (sym reached ∙ ap (λ p. is_fresh p w) one ∙ fresh) in
    subst (All (λ (entry : Entry). entry.child ≡ right → ⊥)) (sym leads.is)
    (All-cons (λ (entry : Entry). entry.child ≡ right → ⊥) leads.first leads.rest (not_fresh leads.first.child leads.least.1.linked)
    (All-weaker (λ (entry : Entry). (leaf : Bool) × IsAt w t leaf (Some entry.pair) entry.child) (λ (entry : Entry). entry.child ≡ right → ⊥) (λ entry below. not_fresh entry.child below.1.linked) leads.rest leads.others))

pub not_root : (w : World) (at : Root) (t : Tree) (leaves : List ℕ) (right : ℕ) (row : IndexRow) → IsTree w at t leaves → is_fresh right w ≡ true → row_in at.index (page_at w at.page) ≡ Some row → row.root ≡ right → ⊥
not_root w at t leaves right row tree fresh is one =
    let same : Some row ≡ Some tree.row = sym is ∙ ap (row_in at.index) tree.defined ∙ tree.named in
    let row_is : row ≡ tree.row = cc in
    false≢true (sym tree.root.1.linked ∙ ap (λ p. is_fresh p w) (ap (λ (r : IndexRow). r.root) (sym row_is) ∙ one) ∙ fresh)
