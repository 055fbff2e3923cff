-- A pair put into a leaf or taken out of it, and the right page of a split written.
use Rattle.std.proofs.Common.{◌≡◌, ℕ, Bool, true, false, not, cond, List, [], ◌∷◌, ◌++◌, refl, sym, ap, ◌∙◌, filter, subst, inl, inr, ⊎_elim, Option, Some, None}
use Rattle.std.specs.List.{All}
use Rattle.std.proofs.lemmas.Bool.{cases_eq, false≢true, true≢false, and_parts, not-true, false_from_ne_true}
use Rattle.std.proofs.lemmas.List.Concat.{flat_map-append}
use Rattle.std.proofs.lemmas.List.Elements.{All-weaker, All-head, All-tail, filter-append}
use Rattle.ct_node.specs.declared.root.Root.{Root}
use Rattle.ct_definitions.specs.Pairs.{Pair, with_pair}
use Rattle.ct_node.specs.Nodes.{Entry, NodeValue, IsNode, pairs_in, is_from, is_below, with_entry, has_other_pair}
use Rattle.ct_node.specs.Worlds.{World, Blank, Defines, Holds, page_at, IsLevel, has_latch, has_fresh, is_fresh, edited, IsHeld, PutsPair, TakesPair, WritesRight}
use Rattle.ct_node.proofs.Orders.{below, same, same_back, not_above, not_same, map-with_entry, map-filter, other_than}
use Rattle.ct_tree_laws.specs.Trees.{Tree, IsOf, IsInner, IsInRole, IsEven, IsTree, IsApart, IsAmong, pairs_in_page, pairs_at, joined}
use Rattle.ct_tree_laws.proofs.Pages.{page_within, page_at-edited, page_at-edited_other, stays_linked, is_fresh-edited, has_fresh-edited, is_fresh_from, IsApart-edited}
use Rattle.ct_tree_laws.proofs.Levels.{KeepsFirst, KeepsFirst-leaf, KeepsLevels-edited, KeepsLevels-written}
use Rattle.ct_tree_laws.proofs.Kept.{KeepsDefinitions, KeepsLinks, IsEvenAt, IsReached, IsAlike, IsAlike-same, IsInRole-alike, named_kept}
use Rattle.ct_tree_laws.proofs.Steps.{LeavesLinks}
use Rattle.ct_tree_laws.proofs.Chains.{IsUnder, IsOver, below_le, Around, around, one_node}

-- an edit of a page that has a node, or nothing, leaves definitions
definitions_kept : (op page : ℕ) (node new : NodeValue) (w : World) → page_at w page ≡ Holds node → KeepsDefinitions w (edited op page new w)
definitions_kept op page node new w is_node q def is = page_at-edited_other op page new w q (λ one. let no : Holds node ≡ Defines def = sym is_node ∙ sym (ap (page_at w) one) ∙ is in absurd (cc)) ∙ is

definitions_kept_blank : (op page : ℕ) (new : NodeValue) (w : World) → page_at w page ≡ Blank → KeepsDefinitions w (edited op page new w)
definitions_kept_blank op page new w blank q def is = page_at-edited_other op page new w q (λ one. let no : Blank ≡ Defines def = sym blank ∙ sym (ap (page_at w) one) ∙ is in absurd (cc)) ∙ is

-- an edit of an inner node leaves it even
abbrev pub StaysEven : World → ℕ → NodeValue → NodeValue → Type 0
StaysEven w page node new = node.leaf ≡ false → (level : ℕ) → IsLevel w level page → IsEven w level node → IsEven w level new

-- a node that a link reaches gives way to one that is alike
KeepsLinks-alike : (op page : ℕ) (node new : NodeValue) (w : World) → IsReached w page node → IsAlike node new → KeepsFirst node new → StaysEven w page node new → (node.leaf ≡ false → (t : Tree) → IsOf t node → IsInRole w t node → IsInner w t new) → is_fresh new.right w ≡ false → KeepsLinks w (edited op page new w)
KeepsLinks-alike op page node new w reached alike first stays leads onward = record {
  onward = λ q v is. ⊎_elim (changed q v is) (λ differ. (v, record { is = page_at-edited_other op page new w q differ ∙ is.is; linked = stays_linked op page new w q is.linked }, IsAlike-same v)) (cases_eq q page);
  back = λ q v is leaf. before q v is;
  inner = λ q v is inner at t leaves tree of. ⊎_elim
      (λ one.
      let v_is : v ≡ new = new_here q v is one in
      let of_node = of_before t v v_is of in
      let role = tree.roles page node reached.is of_node reached.linked in
      subst (IsInRole w t) (sym v_is) (IsInRole-alike w t node new alike (λ kind. leads kind t of_node role) role))
      (λ differ. tree.roles q v (sym (page_at-edited_other op page new w q differ) ∙ is.is) of (linked q is.linked))
      (cases_eq q page);
  even = λ q v is inner at t leaves tree of. ⊎_elim
      (λ one.
      let v_is : v ≡ new = new_here q v is one in
      let found = tree.levels page node reached.is (of_before t v v_is of) reached.linked in
      let inner_node : node.leaf ≡ false = sym alike.leaf ∙ sym (ap (λ (u : NodeValue). u.leaf) v_is) ∙ inner in
      (found.0, subst (IsLevel w found.0) (sym one) found.1, subst (IsEven w found.0) (sym v_is) (stays inner_node found.0 found.1 found.2)))
      (λ differ. tree.levels q v (sym (page_at-edited_other op page new w q differ) ∙ is.is) of (linked q is.linked))
      (cases_eq q page);
  levels = KeepsLevels-edited op page node new w reached.is first;
  named = named_kept w (edited op page new w) (definitions_kept op page node new w reached.is);
}
  where
    changed : (q : ℕ) (v : NodeValue) → IsReached w q v → q ≡ page → (other : NodeValue) × IsReached (edited op page new w) q other × IsAlike v other
    changed q v is one =
        let same_node : v ≡ node = one_node w page node v reached.is (sym (ap (page_at w) one) ∙ is.is) in
        (new, record { is = ap (page_at (edited op page new w)) one ∙ page_at-edited op page new w (page_within w page node reached.is); linked = stays_linked op page new w q is.linked }, subst (λ u. IsAlike u new) (sym same_node) alike)

    linked : (q : ℕ) → is_fresh q (edited op page new w) ≡ false → is_fresh q w ≡ false
    linked q is = ⊎_elim (λ one. ap (λ p. is_fresh p w) one ∙ onward) (λ differ. sym (is_fresh-edited op page new w q differ) ∙ is) (cases_eq q new.right)

    of_before : (t : Tree) (v : NodeValue) → v ≡ new → IsOf t v → IsOf t node
    of_before t v v_is of = record { file = sym alike.file ∙ sym (ap (λ (u : NodeValue). u.file) v_is) ∙ of.file; index = sym alike.index ∙ sym (ap (λ (u : NodeValue). u.index) v_is) ∙ of.index }

    new_here : (q : ℕ) (v : NodeValue) → IsReached (edited op page new w) q v → q ≡ page → v ≡ new
    new_here q v is one = one_node (edited op page new w) page new v (page_at-edited op page new w (page_within w page node reached.is)) (sym (ap (page_at (edited op page new w)) one) ∙ is.is)

    before : (q : ℕ) (v : NodeValue) → IsReached (edited op page new w) q v → (other : NodeValue) × IsReached w q other × IsAlike other v
    before q v is = ⊎_elim
        (λ one. (node, record { is = ap (page_at w) one ∙ reached.is; linked = ap (λ p. is_fresh p w) one ∙ reached.linked }, subst (IsAlike node) (sym (new_here q v is one)) alike))
        (λ differ. (v, record { is = sym (page_at-edited_other op page new w q differ) ∙ is.is; linked = linked q is.linked }, IsAlike-same v))
        (cases_eq q page)

-- an edit of a page that no other has
LeavesLinks-edited : (op page : ℕ) (new : NodeValue) (w : World) → IsApart w → KeepsLinks w (edited op page new w) → KeepsDefinitions w (edited op page new w) → ((other : ℕ) (node : NodeValue) → (other ≡ op → ⊥) → has_latch other page w ≡ true → IsReached w page node → ⊥) → ((other : ℕ) → (other ≡ op → ⊥) → has_fresh other page w ≡ true → ⊥) → LeavesLinks op w (edited op page new w)
LeavesLinks-edited op page new w apart links definitions not_latched not_theirs = record {
  apart = IsApart-edited op page new w apart;
  links = links;
  latch = λ other q differ. refl;
  own = λ other q differ. refl;
  fresh = has_fresh-edited op page new w;
  held = λ other q node differ latched reached. record {
    is = page_at-edited_other op page new w q (λ one. not_latched other node differ (subst (λ p. has_latch other p w ≡ true) one latched) (subst (λ p. IsReached w p node) one reached)) ∙ reached.is;
    linked = stays_linked op page new w q reached.linked;
  };
  blank = λ other q differ mine. page_at-edited_other op page new w q (λ one. not_theirs other differ (subst (λ p. has_fresh other p w ≡ true) one mine));
  defined = λ other q def differ latched is. definitions q def is;
}

pub not_latched_held : (op page : ℕ) (node : NodeValue) (w : World) → IsApart w → IsHeld op page node w → (other : ℕ) → (other ≡ op → ⊥) → has_latch other page w ≡ true → ⊥
not_latched_held op page node w apart held other differ latched = differ (apart.latches page op other held.owned latched)

pub not_theirs_held : (op page : ℕ) (node : NodeValue) (w : World) → IsHeld op page node w → (other : ℕ) → has_fresh other page w ≡ true → ⊥
not_theirs_held op page node w held other mine = false≢true (sym held.linked ∙ is_fresh_from other page w mine)

pub LeavesLinks-held : (op page : ℕ) (node new : NodeValue) (w : World) → IsApart w → IsHeld op page node w → IsAlike node new → KeepsFirst node new → StaysEven w page node new → (node.leaf ≡ false → (t : Tree) → IsOf t node → IsInRole w t node → IsInner w t new) → LeavesLinks op w (edited op page new w)
LeavesLinks-held op page node new w apart held alike first stays leads =
    LeavesLinks-edited op page new w apart (KeepsLinks-alike op page node new w (record { is = held.is; linked = held.linked }) alike first stays leads (ap (λ right. is_fresh right w) alike.right ∙ held.onward)) (definitions_kept op page node new w held.is) (λ other other_node differ latched reached. not_latched_held op page node w apart held other differ latched) (λ other differ mine. not_theirs_held op page node w held other mine)

pub IsAlike-entries : (node new : NodeValue) (entries : List Entry) → IsNode new → new ≡ record node { entries = entries } → IsAlike node new
IsAlike-entries node new entries sound made = record {
  file = ap (λ (v : NodeValue). v.file) made;
  index = ap (λ (v : NodeValue). v.index) made;
  leaf = ap (λ (v : NodeValue). v.leaf) made;
  key_len = ap (λ (v : NodeValue). v.key_len) made;
  low = ap (λ (v : NodeValue). v.low) made;
  high = ap (λ (v : NodeValue). v.high) made;
  right = ap (λ (v : NodeValue). v.right) made;
  sound = λ _. sound;
}

pub LeavesLinks-puts : (op page : ℕ) (new : NodeValue) (w : World) → IsApart w → PutsPair op page new w → LeavesLinks op w (edited op page new w)
LeavesLinks-puts op page new w apart puts = LeavesLinks-held op page puts.node new w apart puts.held (IsAlike-entries puts.node new (with_entry (record { pair = puts.pair; child = 0 }) puts.node.entries) puts.sound puts.made) (KeepsFirst-leaf puts.node new puts.leaf (ap (λ (v : NodeValue). v.leaf) puts.made)) (λ inner. absurd (true≢false (sym puts.leaf ∙ inner))) (λ inner. absurd (true≢false (sym puts.leaf ∙ inner)))

pub LeavesLinks-takes : (op page : ℕ) (new : NodeValue) (w : World) → IsApart w → TakesPair op page new w → LeavesLinks op w (edited op page new w)
LeavesLinks-takes op page new w apart takes = LeavesLinks-held op page takes.node new w apart takes.held (IsAlike-entries takes.node new (filter (has_other_pair takes.pair) takes.node.entries) takes.sound takes.made) (KeepsFirst-leaf takes.node new takes.leaf (ap (λ (v : NodeValue). v.leaf) takes.made)) (λ inner. absurd (true≢false (sym takes.leaf ∙ inner))) (λ inner. absurd (true≢false (sym takes.leaf ∙ inner)))

-- a blank page of the operation's own is written: no link reaches it
KeepsLinks-written : (op page : ℕ) (new : NodeValue) (w : World) → page_at w page ≡ Blank → has_fresh op page w ≡ true → is_fresh new.right w ≡ false → KeepsLinks w (edited op page new w)
KeepsLinks-written op page new w blank mine onward = record {
  onward = λ q v is. (v, record { is = page_at-edited_other op page new w q (not_blank q v is.is) ∙ is.is; linked = stays_linked op page new w q is.linked }, IsAlike-same v);
  back = λ q v is leaf. (v, before q v is, IsAlike-same v);
  inner = λ q v is inner at t leaves tree of. let was = before q v is in tree.roles q v was.is of was.linked;
  even = λ q v is inner at t leaves tree of. let was = before q v is in tree.levels q v was.is of was.linked;
  levels = KeepsLevels-written op page new w blank;
  named = named_kept w (edited op page new w) (definitions_kept_blank op page new w blank);
}
  where
    not_blank : (q : ℕ) (v : NodeValue) → page_at w q ≡ Holds v → q ≡ page → ⊥
    not_blank q v is one = let no : Blank ≡ Holds v = sym blank ∙ sym (ap (page_at w) one) ∙ is in absurd (cc)

    linked : (q : ℕ) → is_fresh q (edited op page new w) ≡ false → is_fresh q w ≡ false
    linked q is = ⊎_elim (λ one. ap (λ p. is_fresh p w) one ∙ onward) (λ differ. sym (is_fresh-edited op page new w q differ) ∙ is) (cases_eq q new.right)

    not_fresh : (q : ℕ) → is_fresh q (edited op page new w) ≡ false → q ≡ page → ⊥
    not_fresh q is one = false≢true (sym (ap (λ p. is_fresh p w) (sym one) ∙ linked q is) ∙ is_fresh_from op page w mine)

    before : (q : ℕ) (v : NodeValue) → IsReached (edited op page new w) q v → IsReached w q v
    before q v is = record { is = sym (page_at-edited_other op page new w q (not_fresh q is.linked)) ∙ is.is; linked = linked q is.linked }

pub LeavesLinks-written : (op page : ℕ) (new : NodeValue) (w : World) → IsApart w → page_at w page ≡ Blank → has_fresh op page w ≡ true → is_fresh new.right w ≡ false → LeavesLinks op w (edited op page new w)
LeavesLinks-written op page new w apart blank mine onward =
    LeavesLinks-edited op page new w apart (KeepsLinks-written op page new w blank mine onward) (definitions_kept_blank op page new w blank)
    (λ other node differ latched reached. let no : Blank ≡ Holds node = sym blank ∙ reached.is in absurd (cc))
    (λ other differ also. differ (apart.owners page op other mine also))

pub LeavesLinks-right : (op page : ℕ) (new : NodeValue) (w : World) → IsApart w → WritesRight op page new w → LeavesLinks op w (edited op page new w)
LeavesLinks-right op page new w apart writes = LeavesLinks-written op page new w apart writes.blank writes.mine (ap (λ p. is_fresh p w) (ap (λ (v : NodeValue). v.right) writes.made) ∙ writes.held.onward)

-- pages that stay have their pairs joined as before
pub joined-same : (w now : World) (pages : List ℕ) → ((page : ℕ) → IsAmong page pages → page_at now page ≡ page_at w page) → joined now pages ≡ joined w pages
joined-same w now [] same = refl
joined-same w now (page ∷ pages) same =
    ap (λ pairs. pairs ++ joined now pages) (ap pairs_in_page (same page (inl refl))) ∙ ap (λ rest. pairs_at w page ++ rest) (joined-same w now pages (λ q among. same q (inr among)))

-- the pairs of leaves round one of them
pub joined_around : (w : World) (node : NodeValue) (page : ℕ) (leaves : List ℕ) (here : Around w node page leaves) → joined w leaves ≡ joined w here.before ++ (pairs_at w page ++ joined w here.after)
joined_around w node page leaves here = ap (joined w) here.is ∙ flat_map-append (pairs_at w) here.before (page ∷ here.after)

-- where one page alone changes
pub joined_changed : (w now : World) (node : NodeValue) (page : ℕ) (leaves : List ℕ) (here : Around w node page leaves) → ((q : ℕ) → (q ≡ page → ⊥) → page_at now q ≡ page_at w q) → joined now leaves ≡ joined w here.before ++ (pairs_at now page ++ joined w here.after)
joined_changed w now node page leaves here same =
    ap (joined now) here.is
    ∙ flat_map-append (pairs_at now) here.before (page ∷ here.after)
    ∙ ap (λ pairs. pairs ++ (pairs_at now page ++ joined now here.after)) (joined-same w now here.before (λ q among. same q (λ one. here.not_before (subst (λ p. IsAmong p here.before) one among))))
    ∙ ap (λ pairs. joined w here.before ++ (pairs_at now page ++ pairs)) (joined-same w now here.after (λ q among. same q (λ one. here.not_after (subst (λ p. IsAmong p here.after) one among))))

-- a pair within a node's bounds is above all pairs before the node, and below all behind it
pub under_within : (low : Option Pair) (pair other : Pair) → is_from low pair ≡ true → IsUnder low other → below other pair ≡ true
under_within None pair other from under = absurd under
under_within (Some low) pair other from under = below_le other low pair under (not-true (below pair low) from)

pub over_within : (high : Option Pair) (pair other : Pair) → is_below high pair ≡ true → IsOver high other → below pair other ≡ true
over_within None pair other lower over = absurd over
over_within (Some high) pair other lower over = below_le pair high other lower (not-true (below other high) over)

with_pair-left : (pair : Pair) (xs ys : List Pair) → All (λ other. below other pair ≡ true) xs → with_pair pair (xs ++ ys) ≡ xs ++ with_pair pair ys
with_pair-left pair [] ys all = refl
with_pair-left pair (x ∷ xs) ys all =
    let past : with_pair pair (x ∷ xs ++ ys) ≡ x ∷ with_pair pair (xs ++ ys) = rw (not_above x pair (All-head (λ other. below other pair ≡ true) x xs all)) refl in
    past ∙ ap (λ rest. x ∷ rest) (with_pair-left pair xs ys (All-tail (λ other. below other pair ≡ true) x xs all))

with_pair-front : (pair : Pair) (zs : List Pair) → All (λ other. below pair other ≡ true) zs → with_pair pair zs ≡ pair ∷ zs
with_pair-front pair [] all = refl
with_pair-front pair (z ∷ zs) all = rw (All-head (λ other. below pair other ≡ true) z zs all) refl

with_pair-right : (pair : Pair) (ys zs : List Pair) → All (λ other. below pair other ≡ true) zs → with_pair pair (ys ++ zs) ≡ with_pair pair ys ++ zs
with_pair-right pair [] zs all = with_pair-front pair zs all
with_pair-right pair (y ∷ ys) zs all = by_test (below pair y) (with_pair-right pair ys zs all)
  where
    by_test : (test : Bool) → with_pair pair (ys ++ zs) ≡ with_pair pair ys ++ zs → cond test (pair ∷ y ∷ (ys ++ zs)) (y ∷ with_pair pair (ys ++ zs)) ≡ cond test (pair ∷ y ∷ ys) (y ∷ with_pair pair ys) ++ zs
    by_test true rest = refl
    by_test false rest = ap (λ more. y ∷ more) rest

-- the pairs of a tree gain the pair that is put into one of its leaves
pub joined-puts : (op page : ℕ) (new : NodeValue) (w : World) (at : Root) (t : Tree) (leaves : List ℕ) (puts : PutsPair op page new w) → IsTree w at t leaves → IsOf t puts.node → joined (edited op page new w) leaves ≡ with_pair puts.pair (joined w leaves)
joined-puts op page new w at t leaves puts tree of =
    let node = puts.node in
    let pair = puts.pair in
    let now = edited op page new w in
    let here = around w t (Some (record { low = None; page = t.first })) leaves tree.roles tree.linked page node (tree.all page node puts.held.is of puts.leaf puts.held.linked) puts.held.is in
    let within = and_parts (is_from node.low pair) (is_below node.high pair) puts.within in
    let pairs : pairs_at now page ≡ with_pair pair (pairs_in node) = ap pairs_in_page (page_at-edited op page new w (page_within w page node puts.held.is)) ∙ ap pairs_in puts.made ∙ map-with_entry (record { pair = pair; child = 0 }) node.entries in
    joined_changed w now node page leaves here (page_at-edited_other op page new w)
    ∙ ap (λ mid. joined w here.before ++ (mid ++ joined w here.after)) pairs
    ∙ ap (λ mid. joined w here.before ++ mid) (sym (with_pair-right pair (pairs_in node) (joined w here.after) (All-weaker (IsOver node.high) (λ other. below pair other ≡ true) (λ other over. over_within node.high pair other within.1 over) (joined w here.after) here.upper)))
    ∙ sym (with_pair-left pair (joined w here.before) (pairs_in node ++ joined w here.after) (All-weaker (IsUnder node.low) (λ other. below other pair ≡ true) (λ other under. under_within node.low pair other within.0 under) (joined w here.before) here.lower))
    ∙ ap (λ mid. with_pair pair (joined w here.before ++ (mid ++ joined w here.after))) (sym (ap pairs_in_page puts.held.is))
    ∙ ap (with_pair pair) (sym (joined_around w node page leaves here))

-- a filter that all pass keeps the list
pub filter_all : {X : Type 0} (p : X → Bool) (xs : List X) → All (λ x. p x ≡ true) xs → filter p xs ≡ xs
filter_all p [] all = refl
filter_all p (x ∷ xs) all =
    let kept : filter p (x ∷ xs) ≡ x ∷ filter p xs = rw (All-head (λ y. p y ≡ true) x xs all) refl in
    kept ∙ ap (λ ys. x ∷ ys) (filter_all p xs (All-tail (λ y. p y ≡ true) x xs all))

other_below : (pair other : Pair) → below other pair ≡ true → other_than pair other ≡ true
other_below pair other lower = ap not (not_same other pair lower)

other_above : (pair other : Pair) → below pair other ≡ true → other_than pair other ≡ true
other_above pair other higher = ap not (false_from_ne_true (same other pair) (λ one. false≢true (sym (not_same pair other higher) ∙ same_back other pair one)))

-- and they lose the one that is taken out of one
pub joined-takes : (op page : ℕ) (new : NodeValue) (w : World) (at : Root) (t : Tree) (leaves : List ℕ) (takes : TakesPair op page new w) → IsTree w at t leaves → IsOf t takes.node → joined (edited op page new w) leaves ≡ filter (other_than takes.pair) (joined w leaves)
joined-takes op page new w at t leaves takes tree of =
    let node = takes.node in
    let pair = takes.pair in
    let now = edited op page new w in
    let keeps = other_than pair in
    let here = around w t (Some (record { low = None; page = t.first })) leaves tree.roles tree.linked page node (tree.all page node takes.held.is of takes.leaf takes.held.linked) takes.held.is in
    let within = and_parts (is_from node.low pair) (is_below node.high pair) takes.within in
    let pairs : pairs_at now page ≡ filter keeps (pairs_in node) = ap pairs_in_page (page_at-edited op page new w (page_within w page node takes.held.is)) ∙ ap pairs_in takes.made ∙ map-filter pair node.entries in
    let left : filter keeps (joined w here.before) ≡ joined w here.before = filter_all keeps (joined w here.before) (All-weaker (IsUnder node.low) (λ other. keeps other ≡ true) (λ other under. other_below pair other (under_within node.low pair other within.0 under)) (joined w here.before) here.lower) in
    let right : filter keeps (joined w here.after) ≡ joined w here.after = filter_all keeps (joined w here.after) (All-weaker (IsOver node.high) (λ other. keeps other ≡ true) (λ other over. other_above pair other (over_within node.high pair other within.1 over)) (joined w here.after) here.upper) in
    joined_changed w now node page leaves here (page_at-edited_other op page new w)
    ∙ ap (λ mid. joined w here.before ++ (mid ++ joined w here.after)) pairs
    ∙ ap (λ front. front ++ (filter keeps (pairs_in node) ++ joined w here.after)) (sym left)
    ∙ ap (λ back. filter keeps (joined w here.before) ++ (filter keeps (pairs_in node) ++ back)) (sym right)
    ∙ ap (λ mid. filter keeps (joined w here.before) ++ mid) (sym (filter-append keeps (pairs_in node) (joined w here.after)))
    ∙ sym (filter-append keeps (joined w here.before) (pairs_in node ++ joined w here.after))
    ∙ ap (λ mid. filter keeps (joined w here.before ++ (mid ++ joined w here.after))) (sym (ap pairs_in_page takes.held.is))
    ∙ ap (filter keeps) (sym (joined_around w node page leaves here))
