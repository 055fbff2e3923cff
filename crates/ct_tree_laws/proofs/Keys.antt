-- What a step does to the pairs of each index.
use Rattle.std.proofs.Common.{◌≡◌, ℕ, ◌≤◌, Bool, true, false, ◌||◌, cond, List, [], ◌∷◌, ◌++◌, length, refl, sym, ap, ◌∙◌, subst, inl, inr, ⊎_elim, Option, Some, None, eqb}
use Rattle.std.specs.Prelude.{if◌then◌else◌, slice_get}
use Rattle.std.specs.List.{All, list_any}
use Rattle.std.proofs.lemmas.Bool.{cases_Bool, false≢true, and_parts, and_from, eqb-true, eq-eqb, false_from_ne_true, cond-true, cond-false}
use Rattle.std.proofs.lemmas.List.Folds.{list_any-append, list_any_none}
use Rattle.std.proofs.lemmas.List.Elements.{All-weaker}
use Rattle.ct_node.specs.declared.root.Root.{Root}
use Rattle.ct_node.specs.declared.root.IndexRow.{IndexRow}
use Rattle.ct_definitions.specs.Pairs.{Pair, with_pair}
use Rattle.ct_node.specs.Nodes.{NodeValue, pairs_in, is_from, is_below, is_within, has_pair}
use Rattle.ct_node.specs.Worlds.{World, Blank, Defines, Holds, DefinitionValue, page_at, has_fresh, is_fresh, edited, with_fresh, IsHeld, PutsPair, TakesPair, WritesRight}
use Rattle.ct_node.specs.Halves.{lower_half, upper_half}
use Rattle.ct_node.proofs.Orders.{below, same, same_back, not_same}
use Rattle.ct_tree_laws.specs.Trees.{Tree, IsOf, IsAt, IsTree, IsApart, IsAmong, Linked, Chain, pairs_in_page, pairs_at, joined}
use Rattle.ct_tree_laws.specs.Stands.{KeepsKeys, is_same_root, added, without}
use Rattle.ct_tree_laws.proofs.Taking.{ChangesLatches}
use Rattle.ct_tree_laws.proofs.Pages.{page_at-edited_other, page_at-with_fresh}
use Rattle.ct_tree_laws.proofs.Kept.{KeepsLinks, IsTree-kept}
use Rattle.ct_tree_laws.proofs.Steps.{LeavesLinks-latches, LeavesLinks-with_fresh}
use Rattle.ct_tree_laws.proofs.Chains.{IsUnder, IsOver, link_to, around, one_node}
use Rattle.ct_tree_laws.proofs.Edits.{LeavesLinks-puts, LeavesLinks-takes, LeavesLinks-right, joined-same, joined_around, joined-puts, joined-takes, under_within, over_within}
use Rattle.ct_tree_laws.proofs.Cuts.{inserted, IsTree-cut, joined-cut}

-- where the pages of the leaves stay, so do their pairs
pub Chain-same : (w now : World) (at : Root) (keys : List Pair) → KeepsLinks w now → (chain : Chain w at keys) → ((page : ℕ) → IsAmong page chain.leaves → page_at now page ≡ page_at w page) → Chain now at keys
Chain-same w now at keys links chain same = record {
  tree = chain.tree;
  leaves = chain.leaves;
  is = IsTree-kept w now at chain.tree chain.leaves links chain.is;
  keys_are = joined-same w now chain.leaves same ∙ chain.keys_are;
}

pub KeepsKeys-latches : (op : ℕ) (w now : World) → (IsApart w) → ChangesLatches op w now → KeepsKeys w now
KeepsKeys-latches op w now apart changes at keys chain =
    Chain-same w now at keys (LeavesLinks-latches op w now apart changes).links chain (λ page among. ap (λ pages. page_at (record w { pages = pages }) page) changes.pages)

pub KeepsKeys-with_fresh : (op : ℕ) (w : World) → (IsApart w) → KeepsKeys w (with_fresh op w)
KeepsKeys-with_fresh op w apart at keys chain =
    Chain-same w (with_fresh op w) at keys (LeavesLinks-with_fresh op w apart).links chain (λ page among. page_at-with_fresh op w page)

-- a leaf in the chain is a node of the tree
among_at : (w : World) (t : Tree) (link : _) (pages : List ℕ) (page : ℕ) → Linked w t link pages → IsAmong page pages → (low : Option Pair) × IsAt w t true low page
among_at w t link [] page linked among = absurd among
among_at w t link (first ∷ pages) page linked (inl one) = (linked.0, subst (IsAt w t true linked.0) (sym one) linked.2)
among_at w t link (first ∷ pages) page linked (inr later) = among_at w t _ pages page linked.3 later

pub leaf_at : (w : World) (at : Root) (t : Tree) (leaves : List ℕ) → IsTree w at t leaves → (page : ℕ) → IsAmong page leaves → (low : Option Pair) × IsAt w t true low page
leaf_at w at t leaves tree page among = among_at w t (link_to None t.first) leaves page tree.linked among

pub KeepsKeys-right : (op page : ℕ) (new : NodeValue) (w : World) → (IsApart w) → (WritesRight op page new w) → KeepsKeys w (edited op page new w)
KeepsKeys-right op page new w apart writes at keys chain =
    let move = writes in
    Chain-same w (edited op page new w) at keys (LeavesLinks-right op page new w apart move).links chain
    (λ q among. page_at-edited_other op page new w q (λ one.
    let leaf = (leaf_at w at chain.tree chain.leaves chain.is q among).1 in
    let no : Blank ≡ Holds leaf.node = sym move.blank ∙ sym (ap (page_at w) one) ∙ leaf.is in
    absurd (cc)))

pub KeepsKeys-cut : (op page right : ℕ) (node : NodeValue) (w : World) → (IsApart w × IsHeld op page node w × (2 ≤ length node.entries) × (has_fresh op right w ≡ true) × (page_at w right ≡ Holds (upper_half node))) → KeepsKeys w (edited op page (lower_half right node) w)
KeepsKeys-cut op page right node w cuts at keys chain =
    let move = cuts in
    record {
      tree = chain.tree;
      leaves = inserted page right chain.leaves;
      is = IsTree-cut op page right node w move.0 move.1 move.2 move.3 move.4 at chain.tree chain.leaves chain.is;
      keys_are = joined-cut op page right node w move.0 move.1 move.2 move.3 move.4 chain.leaves (λ q among. (leaf_at w at chain.tree chain.leaves chain.is q among).1.linked) ∙ chain.keys_are;
    }

-- a tree is told by its definition
pub one_tree : (w : World) (at : Root) (t other : Tree) (leaves also : List ℕ) → IsTree w at t leaves → IsTree w at other also → other ≡ t
one_tree w at t other leaves also is told =
    let def : told.def ≡ is.def = (let both : Defines told.def ≡ Defines is.def = sym told.defined ∙ is.defined in cc) in
    let row : told.row ≡ is.row = (let both : Some told.row ≡ Some is.row = sym told.named ∙ ap (λ (d : DefinitionValue). slice_get d.rows at.index) def ∙ is.named in cc) in
    let file : other.file ≡ t.file = sym told.file ∙ ap (λ (d : DefinitionValue). d.file) def ∙ is.file in
    let index : other.index ≡ t.index = told.index ∙ sym is.index in
    let key_len : other.key_len ≡ t.key_len = sym told.key_len ∙ ap (λ (r : IndexRow). r.key_len) row ∙ is.key_len in
    let first : other.first ≡ t.first = sym told.first ∙ ap (λ (r : IndexRow). r.first) row ∙ is.first in
    let made : ℕ → ℕ → ℕ → ℕ → Tree = λ f i k l. record { file = f; index = i; key_len = k; first = l } in
    ap (λ f. made f other.index other.key_len other.first) file ∙ ap (λ i. made t.file i other.key_len other.first) index ∙ ap (λ k. made t.file t.index k other.first) key_len ∙ ap (λ l. made t.file t.index t.key_len l) first

-- a node is of one tree alone
pub one_root : (w : World) (at root : Root) (t other : Tree) (leaves also : List ℕ) (node : NodeValue) → IsApart w → IsTree w at t leaves → IsTree w root other also → IsOf t node → IsOf other node → is_same_root at root ≡ true
one_root w at root t other leaves also node apart is told of of_other =
    let file : told.def.file ≡ is.def.file = told.file ∙ sym of_other.file ∙ of.file ∙ sym is.file in
    let page : at.page ≡ root.page = apart.files root.page at.page told.def is.def told.defined is.defined file in
    let index : at.index ≡ root.index = sym is.index ∙ sym of.index ∙ of_other.index ∙ told.index in
    and_from (eqb at.page root.page) (eqb at.index root.index) (eq-eqb at.page root.page page) (eq-eqb at.index root.index index)

pub same_root : (at root : Root) → is_same_root at root ≡ true → at ≡ root
same_root at root is =
    let parts = and_parts (eqb at.page root.page) (eqb at.index root.index) is in
    let made : ℕ → ℕ → Root = λ page index. record { page = page; index = index } in
    ap (λ page. made page at.index) (eqb-true at.page root.page parts.0) ∙ ap (made root.page) (eqb-true at.index root.index parts.1)

-- a pair put into a leaf of one index changes no other
ChangesKeys-edited : (op page : ℕ) (node new : NodeValue) (root : Root) (t : Tree) (leaves : List ℕ) (change : List Pair → List Pair) (w : World) → IsApart w → IsTree w root t leaves → IsOf t node → page_at w page ≡ Holds node → KeepsLinks w (edited op page new w) → ((also : List ℕ) → IsTree w root t also → joined (edited op page new w) also ≡ change (joined w also)) → (at : Root) (keys : List Pair) → Chain w at keys → Chain (edited op page new w) at (if is_same_root at root then change keys else keys)
ChangesKeys-edited op page node new root t leaves change w apart tree of is links changes at keys chain = ⊎_elim here elsewhere (cases_Bool (is_same_root at root))
  where
    here : is_same_root at root ≡ true → Chain (edited op page new w) at (cond (is_same_root at root) (change keys) keys)
    here one =
        let told : IsTree w root chain.tree chain.leaves = subst (λ r. IsTree w r chain.tree chain.leaves) (same_root at root one) chain.is in
        let same_tree : chain.tree ≡ t = one_tree w root t chain.tree leaves chain.leaves tree told in
        record {
          tree = chain.tree;
          leaves = chain.leaves;
          is = IsTree-kept w (edited op page new w) at chain.tree chain.leaves links chain.is;
          keys_are = changes chain.leaves (subst (λ u. IsTree w root u chain.leaves) same_tree told) ∙ ap change chain.keys_are ∙ sym (cond-true (is_same_root at root) (change keys) keys one);
        }

    elsewhere : is_same_root at root ≡ false → Chain (edited op page new w) at (cond (is_same_root at root) (change keys) keys)
    elsewhere other =
        subst (Chain (edited op page new w) at) (sym (cond-false (is_same_root at root) (change keys) keys other))
        (Chain-same w (edited op page new w) at keys links chain (λ q among. page_at-edited_other op page new w q (λ one.
        let leaf = (leaf_at w at chain.tree chain.leaves chain.is q among).1 in
        let same_node : leaf.node ≡ node = one_node w page node leaf.node is (sym (ap (page_at w) one) ∙ leaf.is) in
        absurd (false≢true (sym other ∙ one_root w at root chain.tree t chain.leaves leaves node apart chain.is tree (subst (IsOf chain.tree) same_node leaf.of) of)))))

none_same : (pair : Pair) (pairs : List Pair) → All (λ other. same other pair ≡ false) pairs → has_pair pair pairs ≡ false
none_same pair pairs all = list_any_none (λ other. same other pair) pairs all

not_same_above : (pair other : Pair) → below pair other ≡ true → same other pair ≡ false
not_same_above pair other higher = false_from_ne_true (same other pair) (λ one. false≢true (sym (not_same pair other higher) ∙ same_back other pair one))

-- a pair within a leaf's bounds is among the tree's pairs exactly where it is among the leaf's
pub has_pair-joined : (w : World) (at : Root) (t : Tree) (leaves : List ℕ) (page : ℕ) (node : NodeValue) (pair : Pair) → IsTree w at t leaves → IsOf t node → page_at w page ≡ Holds node → node.leaf ≡ true → is_fresh page w ≡ false → is_within node.low node.high pair ≡ true → has_pair pair (joined w leaves) ≡ has_pair pair (pairs_in node)
has_pair-joined w at t leaves page node pair tree of is leaf linked inside =
    let here = around w t (link_to None t.first) leaves tree.roles tree.linked page node (tree.all page node is of leaf linked) is in
    let within = and_parts (is_from node.low pair) (is_below node.high pair) inside in
    let lower : has_pair pair (joined w here.before) ≡ false = none_same pair (joined w here.before) (All-weaker (IsUnder node.low) (λ other. same other pair ≡ false) (λ other under. not_same other pair (under_within node.low pair other within.0 under)) (joined w here.before) here.lower) in
    let upper : has_pair pair (joined w here.after) ≡ false = none_same pair (joined w here.after) (All-weaker (IsOver node.high) (λ other. same other pair ≡ false) (λ other over. not_same_above pair other (over_within node.high pair other within.1 over)) (joined w here.after) here.upper) in
    let p = λ (other : Pair). same other pair in
    ap (has_pair pair) (joined_around w node page leaves here)
    ∙ list_any-append p (joined w here.before) (pairs_at w page ++ joined w here.after)
    ∙ ap (λ b. b || list_any p (pairs_at w page ++ joined w here.after)) lower
    ∙ list_any-append p (pairs_at w page) (joined w here.after)
    ∙ ap (λ b. has_pair pair (pairs_at w page) || b) upper
    ∙ or_none (has_pair pair (pairs_at w page))
    ∙ ap (λ value. has_pair pair (pairs_in_page value)) is
  where
    or_none : (b : Bool) → (b || false) ≡ b
    or_none true = refl
    or_none false = refl

pub ChangesKeys-puts : (op page : ℕ) (new : NodeValue) (root : Root) (t : Tree) (leaves : List ℕ) (w : World) → IsApart w → IsTree w root t leaves → (puts : PutsPair op page new w) → IsOf t puts.node → (at : Root) (keys : List Pair) → Chain w at keys → Chain (edited op page new w) at (if is_same_root at root then added puts.pair keys else keys)
ChangesKeys-puts op page new root t leaves w apart tree puts of =
    ChangesKeys-edited op page puts.node new root t leaves (added puts.pair) w apart tree of puts.held.is (LeavesLinks-puts op page new w apart puts).links
    (λ also told.
    let absent : has_pair puts.pair (joined w also) ≡ false = has_pair-joined w root t also page puts.node puts.pair told of puts.held.is puts.leaf puts.held.linked puts.within ∙ puts.absent in
    joined-puts op page new w root t also puts told of ∙ sym (cond-false (has_pair puts.pair (joined w also)) (joined w also) (with_pair puts.pair (joined w also)) absent))

pub ChangesKeys-takes : (op page : ℕ) (new : NodeValue) (root : Root) (t : Tree) (leaves : List ℕ) (w : World) → IsApart w → IsTree w root t leaves → (takes : TakesPair op page new w) → IsOf t takes.node → (at : Root) (keys : List Pair) → Chain w at keys → Chain (edited op page new w) at (if is_same_root at root then without takes.pair keys else keys)
ChangesKeys-takes op page new root t leaves w apart tree takes of =
    ChangesKeys-edited op page takes.node new root t leaves (without takes.pair) w apart tree of takes.held.is (LeavesLinks-takes op page new w apart takes).links
    (λ also told. joined-takes op page new w root t also takes told of)
