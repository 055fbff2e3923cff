-- What a search to the right finds is the first pair of the tree that is not before its target.
use Rattle.std.proofs.Common.{◌≡◌, ℕ, suc, ◌+◌, ◌≤◌, Bool, true, false, not, cond, List, [], ◌∷◌, ◌++◌, length, get_or, refl, sym, ap, ◌∙◌, arith, subst, inl, inr, ⊎_elim, Option, Some, None}
use Rattle.std.specs.Prelude.{find, slice_get}
use Rattle.std.specs.List.{All, AllPass, prefix_len}
use Rattle.std.specs.Option.{option_or}
use Rattle.std.proofs.lemmas.Bool.{false≢true, not-true, and_parts, or_left}
use Rattle.std.proofs.lemmas.List.Folds.{find-append}
use Rattle.std.proofs.lemmas.List.Elements.{All-nil, All-cons, All-head, All-tail, All-weaker, All-append}
use Rattle.ct_definitions.specs.Pairs.{Pair}
use Rattle.ct_node.specs.declared.root.Root.{Root}
use Rattle.ct_node.specs.declared.target.Target.{Target}
use Rattle.ct_node.specs.declared.target.Target.TheVariants.{First, Last, At, Before}
use Rattle.ct_node.specs.declared.target.Place.TheVariants as place
use Rattle.ct_node.specs.Nodes.{NodeValue, pairs_in, is_from, is_below, is_within}
use Rattle.ct_node.specs.Places.{is_ahead, is_past, next_place}
use Rattle.ct_node.specs.Worlds.{World, Holds, page_at}
use Rattle.ct_node.proofs.Orders.{below, below-trans}
use Rattle.ct_tree_laws.specs.declared.walk.Walk.{Walk}
use Rattle.ct_tree_laws.specs.declared.walk.Stage.TheVariants as stage
use Rattle.ct_tree_laws.specs.Trees.{Tree, IsOf, IsTree, HasPassed, IsAmong, Chain, pairs_in_page, pairs_at, joined}
use Rattle.ct_tree_laws.specs.Stands.{Stands}
use Rattle.ct_tree_laws.proofs.Chains.{LowLe, IsUnder, IsOver, one_node, link_to, below_le, Around, around}
use Rattle.ct_tree_laws.proofs.Edits.{joined_around}
use Rattle.ct_tree_laws.proofs.Keys.{leaf_at, one_tree}
use Rattle.ct_tree_laws.proofs.SearchTurns.{lower_or_not}
use Rattle.ct_tree_laws.proofs.Walking.{next_past}

All-left : {X : Type 0} (P : X → Type 0) (xs ys : List X) → All P (xs ++ ys) → All P xs
All-left P [] ys all = All-nil P
All-left P (x ∷ xs) ys all = All-cons P x xs (All-head P x (xs ++ ys) all) (All-left P xs ys (All-tail P x (xs ++ ys) all))

All-right : {X : Type 0} (P : X → Type 0) (xs ys : List X) → All P (xs ++ ys) → All P ys
All-right P [] ys all = all
All-right P (x ∷ xs) ys all = All-right P xs ys (All-tail P x (xs ++ ys) all)

-- a pair below a bound that the target is past is before the target
ahead_below : (or_at : Bool) (target : Target) (high : Option Pair) (pair : Pair) → is_past high target ≡ true → is_below high pair ≡ true → is_ahead or_at target pair ≡ true
ahead_below or_at target None pair past under = absurd (false≢true past)
ahead_below or_at First (Some high) pair past under = absurd (false≢true past)
ahead_below or_at Last (Some high) pair past under = refl
ahead_below or_at (At other) (Some high) pair past under = or_left (below pair other) _ (below_le pair high other under (not-true (below other high) past))
ahead_below or_at (Before other) (Some high) pair past under = or_left (below pair other) _ (below-trans pair high other under past)

not_under_from : (low bound : Option Pair) (pair : Pair) → LowLe low bound → is_from bound pair ≡ true → IsUnder low pair → ⊥
not_under_from None bound pair from over under = under
not_under_from (Some low) None pair from over under = from
not_under_from (Some low) (Some bound) pair from over under = false≢true (sym (not-true (below pair bound) over) ∙ below_le pair low bound under from)

-- the pairs of all leaves before a search's place are before its target
module _ (w : World) (at : Root) (t : Tree) (leaves : List ℕ) (tree : IsTree w at t leaves) (op : ℕ) (or_at : Bool) (target : Target) (low : Option Pair) (passed : HasPassed w t op or_at target low) where
  passed_all : (pages : List ℕ) → ((x : ℕ) → IsAmong x pages → IsAmong x leaves) → All (IsUnder low) (joined w pages) → All (λ pair. is_ahead or_at target pair ≡ true) (joined w pages)
  passed_all [] among under = All-nil (λ pair. is_ahead or_at target pair ≡ true)
  passed_all (x ∷ pages) among under =
      let leaf = (leaf_at w at t leaves tree x (among x (inl refl))).1 in
      let role = tree.roles x leaf.node leaf.is leaf.of leaf.linked in
      let pairs : pairs_at w x ≡ pairs_in leaf.node = ap pairs_in_page leaf.is in
      let here : All (IsUnder low) (pairs_in leaf.node) = subst (All (IsUnder low)) pairs (All-left (IsUnder low) (pairs_at w x) (joined w pages) under) in
      All-append (λ pair. is_ahead or_at target pair ≡ true) (pairs_at w x) (joined w pages)
      (subst (All (λ pair. is_ahead or_at target pair ≡ true)) (sym pairs)
      (⊎_elim
      (λ lower. ⊎_elim
      (λ past. All-weaker (λ pair. is_within leaf.node.low leaf.node.high pair ≡ true) (λ pair. is_ahead or_at target pair ≡ true) (λ pair within. ahead_below or_at target leaf.node.high pair past (and_parts (is_from leaf.node.low pair) (is_below leaf.node.high pair) within).1) (pairs_in leaf.node) role.node_is.bounds)
      (λ (latched, clear). clear)
      (passed x leaf.node (record { is = leaf.is; of = leaf.of; leaf = leaf.kind; linked = leaf.linked }) lower))
      (λ from k d within. absurd (not_under_from low leaf.node.low (get_or (pairs_in leaf.node) k d) from (and_parts (is_from leaf.node.low (get_or (pairs_in leaf.node) k d)) (is_below leaf.node.high (get_or (pairs_in leaf.node) k d)) (role.node_is.bounds k d within)).0 (here k d within)))
      (lower_or_not leaf.node.low low)))
      (passed_all pages (λ y later. among y (inr later)) (All-right (IsUnder low) (pairs_at w x) (joined w pages) under))

find_none : {X : Type 0} (p : X → Bool) (xs : List X) → All (λ x. p x ≡ true) xs → find (λ x. not (p x)) xs ≡ None
find_none p [] all = refl
find_none p (x ∷ xs) all =
    let past : find (λ y. not (p y)) (x ∷ xs) ≡ find (λ y. not (p y)) xs = rw (All-head (λ y. p y ≡ true) x xs all) refl in
    past ∙ find_none p xs (All-tail (λ y. p y ≡ true) x xs all)

-- the first that fails a test stands behind the front that passes it
pub find-prefix : {X : Type 0} (p : X → Bool) (xs : List X) → find (λ x. not (p x)) xs ≡ slice_get xs (prefix_len p xs)
find-prefix p [] = refl
find-prefix p (x ∷ xs) = by_test (p x) (find-prefix p xs)
  where
    by_test : (test : Bool) → find (λ y. not (p y)) xs ≡ slice_get xs (prefix_len p xs) → cond (not test) (Some x) (find (λ y. not (p y)) xs) ≡ slice_get (x ∷ xs) (cond test (1 + prefix_len p xs) 0)
    by_test true rest = let next : suc (prefix_len p xs) ≡ 1 + prefix_len p xs = omega arith in rest ∙ ap (slice_get (x ∷ xs)) next
    by_test false rest = refl

among_before : (x page : ℕ) (before after : List ℕ) → IsAmong x before → IsAmong x (before ++ page ∷ after)
among_before x page [] after among = absurd among
among_before x page (first ∷ before) after (inl one) = inl one
among_before x page (first ∷ before) after (inr later) = inr (among_before x page before after later)

none_over : (pairs : List Pair) → All (IsOver None) pairs → pairs ≡ []
none_over [] all = refl
none_over (pair ∷ pairs) all = absurd (All-head (IsOver None) pair pairs all)

-- what the whole tree gives a search is what its leaf and those behind it give
module _ (walk : Walk) (above : Bool) (page : ℕ) (node : NodeValue) (w : World) (is : page_at w page ≡ Holds node) (here : Stands walk (stage.Shared page above) w) (leaves : List ℕ) (tree : IsTree w walk.at here.tree leaves) where
  same_node : here.place.1.1.node ≡ node
  same_node = one_node w page node here.place.1.1.node is here.place.1.1.is

  placed : Around w node page leaves
  placed = around w here.tree (link_to None here.tree.first) leaves tree.roles tree.linked page node (tree.all page node is (subst (IsOf here.tree) same_node here.place.1.1.of) (sym (ap (λ (n : NodeValue). n.leaf) same_node) ∙ here.place.1.1.kind) here.place.1.1.linked) is

  wants : Pair → Bool
  wants pair = not (is_ahead above walk.target pair)

  find_behind : find (λ pair. not (is_ahead above walk.target pair)) (joined w leaves) ≡ option_or (find (λ pair. not (is_ahead above walk.target pair)) (pairs_in node)) (find (λ pair. not (is_ahead above walk.target pair)) (joined w placed.after))
  find_behind =
      let test = λ (pair : Pair). not (is_ahead above walk.target pair) in
      let low : here.place.1.0 ≡ node.low = sym here.place.1.1.from ∙ ap (λ (n : NodeValue). n.low) same_node in
      let none : find test (joined w placed.before) ≡ None = find_none (is_ahead above walk.target) (joined w placed.before)
      (passed_all w walk.at here.tree leaves tree walk.op above walk.target here.place.1.0 here.place.1.2 placed.before (λ x among. subst (IsAmong x) (sym placed.is) (among_before x page placed.before placed.after among)) (subst (λ bound. All (IsUnder bound) (joined w placed.before)) (sym low) placed.lower)) in
      ap (find test) (joined_around w node page leaves placed)
      ∙ find-append test (joined w placed.before) (pairs_at w page ++ joined w placed.after)
      ∙ ap (λ o. option_or o (find test (pairs_at w page ++ joined w placed.after))) none
      ∙ find-append test (pairs_at w page) (joined w placed.after)
      ∙ ap (λ value. option_or (find test (pairs_in_page value)) (find test (joined w placed.after))) is

  found_some : (pair : Pair) → slice_get (pairs_in node) (prefix_len (is_ahead above walk.target) (pairs_in node)) ≡ Some pair → find (λ pair. not (is_ahead above walk.target pair)) (joined w leaves) ≡ Some pair
  found_some pair at_place =
      find_behind ∙ ap (λ o. option_or o (find (λ other. not (is_ahead above walk.target other)) (joined w placed.after))) (find-prefix (is_ahead above walk.target) (pairs_in node) ∙ at_place)

  found_none : AllPass (is_ahead above walk.target) (pairs_in node) → node.high ≡ None → find (λ pair. not (is_ahead above walk.target pair)) (joined w leaves) ≡ None
  found_none clear last =
      let behind : joined w placed.after ≡ [] = none_over (joined w placed.after) (subst (λ bound. All (IsOver bound) (joined w placed.after)) last placed.upper) in
      find_behind
      ∙ ap (λ o. option_or o (find (λ other. not (is_ahead above walk.target other)) (joined w placed.after))) (find_none (is_ahead above walk.target) (pairs_in node) clear)
      ∙ ap (find (λ other. not (is_ahead above walk.target other))) behind

-- the pairs of the search's own index
own_keys : (walk : Walk) (above : Bool) (page : ℕ) (w : World) (here : Stands walk (stage.Shared page above) w) (keys : List Pair) → Chain w walk.at keys → (leaves : List ℕ) × IsTree w walk.at here.tree leaves × (joined w leaves ≡ keys)
own_keys walk above page w here keys chain = (chain.leaves, subst (λ t. IsTree w walk.at t chain.leaves) (one_tree w walk.at here.tree chain.tree here.leaves chain.leaves here.is chain.is) chain.is, chain.keys_are)

pub search_some : (walk : Walk) (above : Bool) (page : ℕ) (node : NodeValue) (pair : Pair) (w : World) → page_at w page ≡ Holds node → slice_get (pairs_in node) (prefix_len (is_ahead above walk.target) (pairs_in node)) ≡ Some pair → Stands walk (stage.Shared page above) w → (keys : List Pair) → Chain w walk.at keys → find (λ other. not (is_ahead above walk.target other)) keys ≡ Some pair
search_some walk above page node pair w is at_place here keys chain =
    let own = own_keys walk above page w here keys chain in
    ap (find (λ other. not (is_ahead above walk.target other))) (sym own.2) ∙ found_some walk above page node w is here own.0 own.1 pair at_place

pub search_none : (walk : Walk) (above : Bool) (page : ℕ) (node : NodeValue) (w : World) → page_at w page ≡ Holds node → AllPass (is_ahead above walk.target) (pairs_in node) → ((q : ℕ) → next_place node Last ≡ place.Right q → ⊥) → Stands walk (stage.Shared page above) w → (keys : List Pair) → Chain w walk.at keys → find (λ other. not (is_ahead above walk.target other)) keys ≡ None
search_none walk above page node w is clear no_right here keys chain =
    let own = own_keys walk above page w here keys chain in
    ap (find (λ other. not (is_ahead above walk.target other))) (sym own.2) ∙ found_none walk above page node w is here own.0 own.1 clear (by_high node.high refl)
  where
    by_high : (high : Option Pair) → node.high ≡ high → node.high ≡ None
    by_high None told = told
    by_high (Some high) told = absurd (no_right node.right (next_past node Last (ap (λ bound. is_past bound Last) told)))

-- where the front that passes a test is the whole, all pass
pub all_from_prefix : {X : Type 0} (p : X → Bool) (xs : List X) → length xs ≤ prefix_len p xs → All (λ x. p x ≡ true) xs
all_from_prefix p [] long = All-nil (λ x. p x ≡ true)
all_from_prefix p (x ∷ xs) long = by_test (p x) refl long (all_from_prefix p xs)
  where
    by_test : (test : Bool) → p x ≡ test → suc (length xs) ≤ cond test (1 + prefix_len p xs) 0 → (length xs ≤ prefix_len p xs → All (λ y. p y ≡ true) xs) → All (λ y. p y ≡ true) (x ∷ xs)
    by_test true passes long rest = All-cons (λ y. p y ≡ true) x xs passes (rest (omega arith))
    by_test false fails long rest = absurd (omega arith)
