-- A tree stays a tree where links, bounds and kinds of nodes stay.
use Rattle.std.proofs.Common.{◌≡◌, ℕ, Bool, true, false, List, [], ◌∷◌, refl, sym, ap, ◌∙◌, subst, inl, inr, Option, Some, None}
use Rattle.std.specs.Prelude.{◌⊎◌, slice_get}
use Rattle.std.proofs.lemmas.Bool.{cases_Bool, false≢true}
use Rattle.std.proofs.lemmas.List.Elements.{All-weaker}
use Rattle.ct_node.specs.declared.root.Root.{Root}
use Rattle.ct_node.specs.declared.root.IndexRow.{IndexRow}
use Rattle.ct_definitions.specs.Pairs.{Pair}
use Rattle.ct_node.specs.Nodes.{Entry, NodeValue, IsNode}
use Rattle.ct_node.specs.Worlds.{World, Defines, Holds, DefinitionValue, page_at, IsLevel, is_fresh}
use Rattle.ct_tree_laws.specs.Trees.{Tree, IsOf, IsAt, Link, link_by, link_of, link_in, Rises, IsInner, IsInRole, IsEven, Linked, IsTree}
use Rattle.ct_tree_laws.specs.Stands.{KeepsLevels, KeepsAt}
use Rattle.ct_tree_laws.proofs.Levels.{IsEven-kept}

-- definition pages stay
abbrev pub KeepsDefinitions : World → World → Type 0
KeepsDefinitions w now = (page : ℕ) (def : DefinitionValue) → page_at w page ≡ Defines def → page_at now page ≡ Defines def

-- two values of one node, with other entries at most
pub record IsAlike (node other : NodeValue) : Type 0 where
  pub file : other.file ≡ node.file
  pub index : other.index ≡ node.index
  pub leaf : other.leaf ≡ node.leaf
  pub key_len : other.key_len ≡ node.key_len
  pub low : other.low ≡ node.low
  pub high : other.high ≡ node.high
  pub right : other.right ≡ node.right
  pub sound : IsNode node → IsNode other

pub IsAlike-same : (node : NodeValue) → IsAlike node node
IsAlike-same node = record { file = refl; index = refl; leaf = refl; key_len = refl; low = refl; high = refl; right = refl; sound = λ is. is }

-- a node in a page that links reach
pub record IsReached (w : World) (page : ℕ) (node : NodeValue) : Type 0 where
  pub is : page_at w page ≡ Holds node
  pub linked : is_fresh page w ≡ false

-- the definition of a tree names it
pub record IsNamed (w : World) (at : Root) (t : Tree) : Type 0 where
  pub def : DefinitionValue
  pub row : IndexRow
  pub defined : page_at w at.page ≡ Defines def
  pub named : slice_get def.rows at.index ≡ Some row
  pub file : def.file ≡ t.file
  pub key_len : row.key_len ≡ t.key_len
  pub first : row.first ≡ t.first
  pub root : (leaf : Bool) × IsAt w t leaf None row.root

-- a node of a page is even on the page's level
abbrev pub IsEvenAt : World → ℕ → NodeValue → Type 0
IsEvenAt w page node = (level : ℕ) × IsLevel w level page × IsEven w level node

-- the nodes that links reach stay, and no other leaf comes; each inner node is in its role and even, pages stay on their levels, and each tree is named
pub record KeepsLinks (w now : World) : Type 0 where
  pub onward : (page : ℕ) (node : NodeValue) → IsReached w page node → (other : NodeValue) × IsReached now page other × IsAlike node other
  pub back : (page : ℕ) (node : NodeValue) → IsReached now page node → node.leaf ≡ true → (other : NodeValue) × IsReached w page other × IsAlike other node
  pub inner : (page : ℕ) (node : NodeValue) → IsReached now page node → node.leaf ≡ false → (at : Root) (t : Tree) (leaves : List ℕ) → IsTree w at t leaves → IsOf t node → IsInRole w t node
  pub even : (page : ℕ) (node : NodeValue) → IsReached now page node → node.leaf ≡ false → (at : Root) (t : Tree) (leaves : List ℕ) → IsTree w at t leaves → IsOf t node → IsEvenAt w page node
  pub levels : KeepsLevels w now
  pub named : KeepsAt w now → (at : Root) (t : Tree) (leaves : List ℕ) → IsTree w at t leaves → IsNamed now at t

-- where definitions stay, they name their trees
pub named_kept : (w now : World) → KeepsDefinitions w now → KeepsAt w now → (at : Root) (t : Tree) (leaves : List ℕ) → IsTree w at t leaves → IsNamed now at t
named_kept w now definitions keeps at t leaves tree = record {
  def = tree.def;
  row = tree.row;
  defined = definitions at.page tree.def tree.defined;
  named = tree.named;
  file = tree.file;
  key_len = tree.key_len;
  first = tree.first;
  root = (tree.root.0, keeps t tree.root.0 None tree.row.root tree.root.1);
}

pub KeepsAt-from_links : (w now : World) → KeepsLinks w now → KeepsAt w now
KeepsAt-from_links w now keeps t leaf low page at =
    let after = keeps.onward page at.node (record { is = at.is; linked = at.linked }) in
    let alike = after.2 in
    record {
      node = after.0;
      is = after.1.is;
      of = record { file = alike.file ∙ at.of.file; index = alike.index ∙ at.of.index };
      key_len = alike.key_len ∙ at.key_len;
      kind = alike.leaf ∙ at.kind;
      from = alike.low ∙ at.from;
      linked = after.1.linked;
    }

pub IsInner-kept : (w now : World) (t : Tree) (node : NodeValue) → KeepsAt w now → IsInner w t node → IsInner now t node
IsInner-kept w now t node keeps inner = record {
  first = inner.first;
  rest = inner.rest;
  is = inner.is;
  begins = inner.begins;
  least = (inner.least.0, keeps t inner.least.0 node.low inner.first.child inner.least.1);
  others = All-weaker (λ (entry : Entry). (leaf : Bool) × IsAt w t leaf (Some entry.pair) entry.child) (λ (entry : Entry). (leaf : Bool) × IsAt now t leaf (Some entry.pair) entry.child) (λ entry below. (below.0, keeps t below.0 (Some entry.pair) entry.child below.1)) inner.rest inner.others;
}

pub IsInRole-kept : (w now : World) (t : Tree) (node : NodeValue) → KeepsAt w now → IsInRole w t node → IsInRole now t node
IsInRole-kept w now t node keeps role = record {
  key_len = role.key_len;
  node_is = role.node_is;
  rises = role.rises;
  last = role.last;
  right = λ link is. keeps t node.leaf link.low link.page (role.right link is);
  inner = λ inner. IsInner-kept w now t node keeps (role.inner inner);
}

link_of-alike : (node other : NodeValue) → IsAlike node other → link_of other ≡ link_of node
link_of-alike node other alike = ap (λ right. link_by right other.high) alike.right ∙ ap (link_by node.right) alike.high

pub IsInRole-alike : (w : World) (t : Tree) (node other : NodeValue) → IsAlike node other → (node.leaf ≡ false → IsInner w t other) → IsInRole w t node → IsInRole w t other
IsInRole-alike w t node other alike leads role = record {
  key_len = alike.key_len ∙ role.key_len;
  node_is = alike.sound role.node_is;
  rises = subst (λ low. Rises low other.high) (sym alike.low) (subst (λ high. Rises node.low high) (sym alike.high) role.rises);
  last = λ open_end. alike.right ∙ role.last (sym alike.high ∙ open_end);
  right = λ link is. subst (λ leaf. IsAt w t leaf link.low link.page) (sym alike.leaf) (role.right link (sym (link_of-alike node other alike) ∙ is));
  inner = λ inner. leads (sym alike.leaf ∙ inner);
}

-- of a leaf its link alone is asked
IsEven-alike : (w : World) (level : ℕ) (node other : NodeValue) → IsAlike node other → other.leaf ≡ true → IsEven w level node → IsEven w level other
IsEven-alike w level node other alike leaf even = record {
  right = λ link is. even.right link (sym (link_of-alike node other alike) ∙ is);
  below = λ inner. absurd (false≢true (sym inner ∙ leaf));
}

link_in-kept : (w now : World) (t : Tree) (low : Option Pair) (page : ℕ) → KeepsLinks w now → IsAt w t true low page → link_in (page_at w page) ≡ link_in (page_at now page)
link_in-kept w now t low page keeps at =
    let after = keeps.onward page at.node (record { is = at.is; linked = at.linked }) in
    ap link_in at.is ∙ sym (link_of-alike at.node after.0 after.2) ∙ sym (ap link_in after.1.is)

pub Linked-kept : (w now : World) (t : Tree) (link : Option Link) (pages : List ℕ) → KeepsLinks w now → Linked w t link pages → Linked now t link pages
Linked-kept w now t link [] keeps linked = linked
Linked-kept w now t link (page ∷ pages) keeps linked =
    (linked.0, linked.1, KeepsAt-from_links w now keeps t true linked.0 page linked.2, subst (λ next. Linked now t next pages) (link_in-kept w now t linked.0 page keeps linked.2) (Linked-kept w now t (link_in (page_at w page)) pages keeps linked.3))

pub IsTree-kept : (w now : World) (at : Root) (t : Tree) (leaves : List ℕ) → KeepsLinks w now → IsTree w at t leaves → IsTree now at t leaves
IsTree-kept w now at t leaves keeps tree =
    let keeps_at = KeepsAt-from_links w now keeps in
    let name = keeps.named keeps_at at t leaves tree in
    record {
      def = name.def;
      row = name.row;
      defined = name.defined;
      named = name.named;
      file = name.file;
      index = tree.index;
      key_len = name.key_len;
      first = name.first;
      root = name.root;
      linked = Linked-kept w now t (Some (record { low = None; page = t.first })) leaves keeps tree.linked;
      all = λ page node is of leaf linked.
          let before = keeps.back page node (record { is = is; linked = linked }) leaf in
          let alike = before.2 in
          tree.all page before.0 before.1.is (record { file = sym alike.file ∙ of.file; index = sym alike.index ∙ of.index }) (sym alike.leaf ∙ leaf) before.1.linked;
      roles = λ page node is of linked. IsInRole-kept w now t node keeps_at (role_before page node (record { is = is; linked = linked }) of (cases_Bool node.leaf));
      levels = λ page node is of linked.
          let before = even_before page node (record { is = is; linked = linked }) of (cases_Bool node.leaf) in
          (before.0, keeps.levels before.0 page before.1, IsEven-kept w now before.0 node keeps.levels before.2);
    }
  where
    role_before : (page : ℕ) (node : NodeValue) → IsReached now page node → IsOf t node → (node.leaf ≡ true) ⊎ (node.leaf ≡ false) → IsInRole w t node
    role_before page node reached of (inr inner) = keeps.inner page node reached inner at t leaves tree of
    role_before page node reached of (inl leaf) =
        let before = keeps.back page node reached leaf in
        let alike = before.2 in
        let was : IsOf t before.0 = record { file = sym alike.file ∙ of.file; index = sym alike.index ∙ of.index } in
        IsInRole-alike w t before.0 node alike (λ inner. absurd (false≢true (sym inner ∙ sym alike.leaf ∙ leaf))) (tree.roles page before.0 before.1.is was before.1.linked)

    even_before : (page : ℕ) (node : NodeValue) → IsReached now page node → IsOf t node → (node.leaf ≡ true) ⊎ (node.leaf ≡ false) → IsEvenAt w page node
    even_before page node reached of (inr inner) = keeps.even page node reached inner at t leaves tree of
    even_before page node reached of (inl leaf) =
        let before = keeps.back page node reached leaf in
        let alike = before.2 in
        let was : IsOf t before.0 = record { file = sym alike.file ∙ of.file; index = sym alike.index ∙ of.index } in
        let found = tree.levels page before.0 before.1.is was before.1.linked in
        (found.0, found.1, IsEven-alike w found.0 before.0 node alike leaf found.2)
