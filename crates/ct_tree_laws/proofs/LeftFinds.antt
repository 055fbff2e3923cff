-- What a search to the left finds is the last pair of the tree that is before its target.
use Rattle.std.proofs.Common.{◌≡◌, ℕ, suc, Bool, true, false, List, [], ◌∷◌, ◌++◌, reverse, refl, sym, ap, ◌∙◌, subst, inl, inr, Option, Some, None}
use Rattle.std.specs.Prelude.{find, slice_get}
use Rattle.std.specs.List.{All, prefix_len}
use Rattle.std.specs.Option.{option_or}
use Rattle.std.proofs.lemmas.Bool.{and_parts}
use Rattle.std.proofs.lemmas.List.{reverse-append}
use Rattle.std.proofs.lemmas.List.Folds.{find-append}
use Rattle.std.proofs.lemmas.List.Elements.{All-nil, All-head, All-weaker, All-append}
use Rattle.ct_definitions.specs.Pairs.{Pair}
use Rattle.ct_node.specs.declared.root.Root.{Root}
use Rattle.ct_node.specs.declared.target.Target.{Target}
use Rattle.ct_node.specs.declared.target.Target.TheVariants.{Before}
use Rattle.ct_node.specs.declared.target.Place.TheVariants as place
use Rattle.ct_node.specs.Nodes.{NodeValue, IsNode, pairs_in, is_from, is_below, is_within}
use Rattle.ct_node.specs.Places.{is_ahead, next_place}
use Rattle.ct_node.specs.Worlds.{World, Holds, page_at}
use Rattle.ct_tree_laws.specs.declared.walk.Walk.{Walk}
use Rattle.ct_tree_laws.specs.declared.walk.Stage.{Stage}
use Rattle.ct_tree_laws.specs.declared.walk.Stage.TheVariants as stage
use Rattle.ct_tree_laws.specs.declared.left.Way.TheVariants as way
use Rattle.ct_tree_laws.specs.Trees.{Tree, IsTree, IsLeaf, IsAmong, Link, Linked, link_by, link_in, Chain, pairs_in_page, pairs_at, joined}
use Rattle.ct_tree_laws.specs.Left.{NoneAhead, IsClearLeft}
use Rattle.ct_tree_laws.specs.Stands.{Stands}
use Rattle.ct_tree_laws.proofs.Chains.{IsUnder, Roles, none_linked, lows_from, link_to, Around, around}
use Rattle.ct_tree_laws.proofs.Edits.{joined_around}
use Rattle.ct_tree_laws.proofs.Keys.{leaf_at, one_tree}
use Rattle.ct_tree_laws.proofs.SearchTurns.{EndsBefore}
use Rattle.ct_tree_laws.proofs.LeftLists.{not_ahead_from, none_back, last_of, last_found, none_from_place}
use Rattle.ct_tree_laws.proofs.LeftTurns.{IsClearBehind, clear_behind_first, clear_behind_next, within_of, leaf_of_seen, first_seen, next_seen}

-- the leaves behind a leaf, by its link
linked_behind : (w : World) (t : Tree) (link : Option Link) (before : List ℕ) (page : ℕ) (after : List ℕ) → Linked w t link (before ++ page ∷ after) → Linked w t (link_in (page_at w page)) after
linked_behind w t link [] page after linked = linked.3
linked_behind w t link (first ∷ before) page after linked = linked_behind w t (link_in (page_at w first)) before page after linked.3

-- begin where it ends, or later
begins_behind : (w : World) (t : Tree) (high : Option Pair) (right : ℕ) (after : List ℕ) → Roles w t → Linked w t (link_by right high) after → (x : ℕ) (u : NodeValue) → IsAmong x after → page_at w x ≡ Holds u → EndsBefore high u.low
begins_behind w t None right after roles linked x u among is = none_linked w t after x linked among
begins_behind w t (Some high) right after roles linked x u among is = lows_from w t (Some high) right after roles linked x u among is

-- no pair of a leaf that has nothing for the search is before its target
none_in : (w : World) (op : ℕ) (or_at : Bool) (target : Target) (x : ℕ) (u : NodeValue) → IsNode u → IsClearLeft w op or_at target x u → NoneAhead or_at target (pairs_in u)
none_in w op or_at target x u sound (inl begins) =
    All-weaker (λ pair. is_within u.low u.high pair ≡ true) (λ pair. is_ahead or_at target pair ≡ false) (λ pair within. not_ahead_from or_at target u.low pair begins (and_parts (is_from u.low pair) (is_below u.high pair) within).0) (pairs_in u) sound.bounds
none_in w op or_at target x u sound (inr clear) = clear.1

none_under : (pairs : List Pair) → All (IsUnder None) pairs → pairs ≡ []
none_under [] all = refl
none_under (pair ∷ pairs) all = absurd (All-head (IsUnder None) pair pairs all)

among_after : (x page : ℕ) (before after : List ℕ) → IsAmong x after → IsAmong x (before ++ page ∷ after)
among_after x page [] after among = inr among
among_after x page (first ∷ before) after among = inr (among_after x page before after among)

module _ (w : World) (at : Root) (t : Tree) (leaves : List ℕ) (tree : IsTree w at t leaves) (op : ℕ) (or_at : Bool) (target : Target) (page : ℕ) (node : NodeValue) (here : IsLeaf w t page node) (behind : IsClearBehind w t op or_at target node) where
  placed : Around w node page leaves
  placed = around w t (link_to None t.first) leaves tree.roles tree.linked page node (tree.all page node here.is here.of here.leaf here.linked) here.is

  none_behind : (pages : List ℕ) → ((x : ℕ) → IsAmong x pages → IsAmong x leaves) → ((x : ℕ) (u : NodeValue) → IsAmong x pages → page_at w x ≡ Holds u → EndsBefore node.high u.low) → NoneAhead or_at target (joined w pages)
  none_behind [] among low = All-nil (λ pair. is_ahead or_at target pair ≡ false)
  none_behind (x ∷ pages) among low =
      let leaf = (leaf_at w at t leaves tree x (among x (inl refl))).1 in
      let role = tree.roles x leaf.node leaf.is leaf.of leaf.linked in
      let clear = behind x leaf.node (record { is = leaf.is; of = leaf.of; leaf = leaf.kind; linked = leaf.linked }) (low x leaf.node (inl refl) leaf.is) in
      All-append (λ pair. is_ahead or_at target pair ≡ false) (pairs_at w x) (joined w pages)
      (subst (NoneAhead or_at target) (sym (ap pairs_in_page leaf.is)) (none_in w op or_at target x leaf.node role.node_is clear))
      (none_behind pages (λ y later. among y (inr later)) (λ y u later. low y u (inr later)))

  none_after : NoneAhead or_at target (joined w placed.after)
  none_after =
      let linked : Linked w t (link_in (page_at w page)) placed.after = linked_behind w t (link_to None t.first) placed.before page placed.after (subst (Linked w t (link_to None t.first)) placed.is tree.linked) in
      none_behind placed.after (λ x among. subst (IsAmong x) (sym placed.is) (among_after x page placed.before placed.after among))
      (begins_behind w t node.high node.right placed.after tree.roles (subst (λ value. Linked w t (link_in value) placed.after) here.is linked))

  -- what the whole tree gives the search is what its leaf and those before it give
  find_before : find (is_ahead or_at target) (reverse (joined w leaves)) ≡ option_or (find (is_ahead or_at target) (reverse (pairs_in node))) (find (is_ahead or_at target) (reverse (joined w placed.before)))
  find_before =
      let p = is_ahead or_at target in
      ap (λ pairs. find p (reverse pairs)) (joined_around w node page leaves placed)
      ∙ ap (find p) (reverse-append (joined w placed.before) (pairs_at w page ++ joined w placed.after))
      ∙ find-append p (reverse (pairs_at w page ++ joined w placed.after)) (reverse (joined w placed.before))
      ∙ ap (λ o. option_or o (find p (reverse (joined w placed.before))))
      (ap (find p) (reverse-append (pairs_at w page) (joined w placed.after))
      ∙ find-append p (reverse (joined w placed.after)) (reverse (pairs_at w page))
      ∙ ap (λ o. option_or o (find p (reverse (pairs_at w page)))) (none_back p (joined w placed.after) none_after)
      ∙ ap (λ value. find p (reverse (pairs_in_page value))) here.is)

  order : IsNode node
  order = (tree.roles page node here.is here.of here.linked).node_is

  found_some : (k : ℕ) (pair : Pair) → prefix_len (is_ahead or_at target) (pairs_in node) ≡ suc k → slice_get (pairs_in node) k ≡ Some pair → find (is_ahead or_at target) (reverse (joined w leaves)) ≡ Some pair
  found_some k pair place there =
      find_before ∙ ap (λ o. option_or o (find (is_ahead or_at target) (reverse (joined w placed.before)))) (last_found or_at target (pairs_in node) order.order ∙ ap (last_of (pairs_in node)) place ∙ there)

  found_none : prefix_len (is_ahead or_at target) (pairs_in node) ≡ 0 → node.low ≡ None → find (is_ahead or_at target) (reverse (joined w leaves)) ≡ None
  found_none place first =
      let before : joined w placed.before ≡ [] = none_under (joined w placed.before) (subst (λ bound. All (IsUnder bound) (joined w placed.before)) first placed.lower) in
      find_before
      ∙ ap (λ o. option_or o (find (is_ahead or_at target) (reverse (joined w placed.before)))) (none_back (is_ahead or_at target) (pairs_in node) (none_from_place or_at target (pairs_in node) order.order place))
      ∙ ap (λ pairs. find (is_ahead or_at target) (reverse pairs)) before

-- the pairs of the search's own index
own_keys : (walk : Walk) (from : Stage) (w : World) (here : Stands walk from w) (keys : List Pair) → Chain w walk.at keys → (leaves : List ℕ) × IsTree w walk.at here.tree leaves × (joined w leaves ≡ keys)
own_keys walk from w here keys chain = (chain.leaves, subst (λ t. IsTree w walk.at t chain.leaves) (one_tree w walk.at here.tree chain.tree here.leaves chain.leaves here.is chain.is) chain.is, chain.keys_are)

-- what is found in the leaf of the target
pub left_first_some : (walk : Walk) (or_at : Bool) (page : ℕ) (node : NodeValue) (k : ℕ) (pair : Pair) (w : World) → page_at w page ≡ Holds node → ((q : ℕ) → next_place node walk.target ≡ place.Right q → ⊥) → prefix_len (is_ahead or_at walk.target) (pairs_in node) ≡ suc k → slice_get (pairs_in node) k ≡ Some pair → Stands walk (stage.SharedLeft page) w → (keys : List Pair) → Chain w walk.at keys → find (is_ahead or_at walk.target) (reverse keys) ≡ Some pair
left_first_some walk or_at page node k pair w is no_right place there here keys chain =
    let own = own_keys walk (stage.SharedLeft page) w here keys chain in
    let seen = first_seen walk page node w is here in
    ap (λ pairs. find (is_ahead or_at walk.target) (reverse pairs)) (sym own.2) ∙ found_some w walk.at here.tree own.0 own.1 walk.op or_at walk.target page node (leaf_of_seen w here.tree walk.target page node seen.0 seen.1) (clear_behind_first w here.tree walk.op or_at walk.target node (within_of node walk.target no_right)) k pair place there

pub left_first_none : (walk : Walk) (or_at : Bool) (page : ℕ) (node : NodeValue) (w : World) → page_at w page ≡ Holds node → ((q : ℕ) → next_place node walk.target ≡ place.Right q → ⊥) → prefix_len (is_ahead or_at walk.target) (pairs_in node) ≡ 0 → node.low ≡ None → Stands walk (stage.SharedLeft page) w → (keys : List Pair) → Chain w walk.at keys → find (is_ahead or_at walk.target) (reverse keys) ≡ None
left_first_none walk or_at page node w is no_right place first here keys chain =
    let own = own_keys walk (stage.SharedLeft page) w here keys chain in
    let seen = first_seen walk page node w is here in
    ap (λ pairs. find (is_ahead or_at walk.target) (reverse pairs)) (sym own.2) ∙ found_none w walk.at here.tree own.0 own.1 walk.op or_at walk.target page node (leaf_of_seen w here.tree walk.target page node seen.0 seen.1) (clear_behind_first w here.tree walk.op or_at walk.target node (within_of node walk.target no_right)) place first

-- what is found in a leaf further to the left
pub left_next_some : (walk : Walk) (low : Pair) (or_at : Bool) (page : ℕ) (node : NodeValue) (k : ℕ) (pair : Pair) (w : World) → page_at w page ≡ Holds node → ((q : ℕ) → next_place node (Before low) ≡ place.Right q → ⊥) → prefix_len (is_ahead or_at walk.target) (pairs_in node) ≡ suc k → slice_get (pairs_in node) k ≡ Some pair → Stands walk (stage.Left low or_at (way.Shared page)) w → (keys : List Pair) → Chain w walk.at keys → find (is_ahead or_at walk.target) (reverse keys) ≡ Some pair
left_next_some walk low or_at page node k pair w is no_right place there here keys chain =
    let own = own_keys walk (stage.Left low or_at (way.Shared page)) w here keys chain in
    let seen = next_seen walk low or_at page node w is here in
    ap (λ pairs. find (is_ahead or_at walk.target) (reverse pairs)) (sym own.2) ∙ found_some w walk.at here.tree own.0 own.1 walk.op or_at walk.target page node (leaf_of_seen w here.tree (Before low) page node seen.0 seen.1) (clear_behind_next w here.tree walk.op or_at walk.target low node here.is.roles here.place.1 (within_of node (Before low) no_right)) k pair place there

pub left_next_none : (walk : Walk) (low : Pair) (or_at : Bool) (page : ℕ) (node : NodeValue) (w : World) → page_at w page ≡ Holds node → ((q : ℕ) → next_place node (Before low) ≡ place.Right q → ⊥) → prefix_len (is_ahead or_at walk.target) (pairs_in node) ≡ 0 → node.low ≡ None → Stands walk (stage.Left low or_at (way.Shared page)) w → (keys : List Pair) → Chain w walk.at keys → find (is_ahead or_at walk.target) (reverse keys) ≡ None
left_next_none walk low or_at page node w is no_right place first here keys chain =
    let own = own_keys walk (stage.Left low or_at (way.Shared page)) w here keys chain in
    let seen = next_seen walk low or_at page node w is here in
    ap (λ pairs. find (is_ahead or_at walk.target) (reverse pairs)) (sym own.2) ∙ found_none w walk.at here.tree own.0 own.1 walk.op or_at walk.target page node (leaf_of_seen w here.tree (Before low) page node seen.0 seen.1) (clear_behind_next w here.tree walk.op or_at walk.target low node here.is.roles here.place.1 (within_of node (Before low) no_right)) place first
