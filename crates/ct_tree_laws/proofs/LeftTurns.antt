-- The turns of a search to the left: all leaves that end above its place hold nothing for it.
use Rattle.std.proofs.Common.{◌≡◌, ℕ, Bool, true, false, not, List, [], ◌∷◌, refl, sym, ap, ◌∙◌, subst, inl, inr, ⊎_elim, Option, Some, None}
use Rattle.std.specs.Prelude.{◌⊎◌, find}
use Rattle.std.specs.List.{prefix_len}
use Rattle.std.proofs.lemmas.Bool.{cases_Bool, false≢true, true≢false, not-true, false_from_ne_true}
use Rattle.ct_latch.specs.Latches.{is_of, bars, with_share}
use Rattle.ct_definitions.specs.Pairs.{Pair}
use Rattle.ct_node.specs.declared.root.Root.{Root}
use Rattle.ct_node.specs.declared.root.IndexRow.{IndexRow}
use Rattle.ct_node.specs.declared.target.Target.{Target}
use Rattle.ct_node.specs.declared.target.Target.TheVariants.{First, Last, At, Before}
use Rattle.ct_node.specs.declared.target.Place.{Place}
use Rattle.ct_node.specs.declared.target.Place.TheVariants as place
use Rattle.ct_node.specs.Nodes.{NodeValue, pairs_in}
use Rattle.ct_node.specs.Places.{is_ahead, is_past, next_place}
use Rattle.ct_node.specs.Worlds.{World, Holds, page_at, has_latch, with_holds, row_in}
use Rattle.ct_node.proofs.Orders.{below, same, below-trans, same_below, same_back, above, not_above}
use Rattle.ct_tree_laws.specs.declared.walk.Walk.{Walk}
use Rattle.ct_tree_laws.specs.declared.walk.Stage.TheVariants as stage
use Rattle.ct_tree_laws.specs.declared.left.Way.TheVariants as way
use Rattle.ct_tree_laws.specs.Trees.{Tree, IsTree, IsLeaf, IsNear, IsAmong, Link, Linked, link_by, link_in, Rises}
use Rattle.ct_tree_laws.specs.Left.{IsAboveTarget, EndsAbove, NoneAhead, IsClearLeft, HasPassedLeft}
use Rattle.ct_tree_laws.specs.Stands.{Stands, Stepped}
use Rattle.ct_tree_laws.proofs.Taking.{is_of_parts, ChangesLatches-free_all, has_latch-with_share_new}
use Rattle.ct_tree_laws.proofs.Holders.{list_any-filter}
use Rattle.ct_tree_laws.proofs.Chains.{Roles, one_node, none_linked, lows_from, link_to, below_le}
use Rattle.ct_tree_laws.proofs.Steps.{IsStep-latches}
use Rattle.ct_tree_laws.proofs.Walking.{IsSeen, IsLast, seen_near, seen_leaf, near_right, near_down, last_here, here_or_end, next_past, next_leaf}
use Rattle.ct_tree_laws.proofs.Turns.{at_stage, stepped_same}
use Rattle.ct_tree_laws.proofs.PutTurns.{stepped_by, freed, free_step}
use Rattle.ct_tree_laws.proofs.LeftLists.{at_or_below, none_from_place}
use Rattle.ct_tree_laws.proofs.SearchTurns.{EndsBefore, latch_kept, share_step, all_freed, all_none}

-- two leaves are one, or one ends before the other begins
pub one_or_apart : (w : World) (t : Tree) (link : Option Link) (pages : List ℕ) → Roles w t → Linked w t link pages → (x p : ℕ) (u v : NodeValue) → IsAmong x pages → IsAmong p pages → page_at w x ≡ Holds u → page_at w p ≡ Holds v → (x ≡ p) ⊎ (EndsBefore u.high v.low ⊎ EndsBefore v.high u.low)
one_or_apart w t link [] roles linked x p u v one two is told = absurd one
one_or_apart w t link (first ∷ pages) roles linked x p u v one two is told =
    by_cases one two (λ later also. one_or_apart w t (link_in (page_at w first)) pages roles linked.3 x p u v later also is told)
  where
    later_low : (value : NodeValue) (bound : Option Pair) → value.high ≡ bound → page_at w first ≡ Holds value → (q : ℕ) (found : NodeValue) → IsAmong q pages → page_at w q ≡ Holds found → EndsBefore bound found.low
    later_low value None ends same q found among at_q = none_linked w t pages q (subst (λ bound. Linked w t (link_by value.right bound) pages) ends (subst (λ v. Linked w t (link_in v) pages) same linked.3)) among
    later_low value (Some bound) ends same q found among at_q = lows_from w t (Some bound) value.right pages roles (subst (λ b. Linked w t (link_by value.right b) pages) ends (subst (λ v. Linked w t (link_in v) pages) same linked.3)) q found among at_q

    by_cases : (x ≡ first) ⊎ IsAmong x pages → (p ≡ first) ⊎ IsAmong p pages → (IsAmong x pages → IsAmong p pages → (x ≡ p) ⊎ (EndsBefore u.high v.low ⊎ EndsBefore v.high u.low)) → (x ≡ p) ⊎ (EndsBefore u.high v.low ⊎ EndsBefore v.high u.low)
    by_cases (inl x_first) (inl p_first) recurse = inl (x_first ∙ sym p_first)
    by_cases (inl x_first) (inr later) recurse = inr (inl (later_low u u.high refl (sym (ap (page_at w) x_first) ∙ is) p v later told))
    by_cases (inr later) (inl p_first) recurse = inr (inr (later_low v v.high refl (sym (ap (page_at w) p_first) ∙ told) x u later is))
    by_cases (inr later) (inr also) recurse = recurse later also

-- what ends where a pair stands, or before, does not end above it
not_both_ends : (high : Option Pair) (low : Pair) → EndsBefore high (Some low) → EndsAbove low high → ⊥
not_both_ends None low before above = before
not_both_ends (Some high) low before above = false≢true (sym before ∙ above)

-- a target that is past a bound is past each that is not above it
is_past-from : (target : Target) (high low : Pair) → below low high ≡ false → is_past (Some low) target ≡ true → is_past (Some high) target ≡ true
is_past-from First high low from past = past
is_past-from Last high low from past = refl
is_past-from (At pair) high low from past = ap not (false_from_ne_true (below pair high) (λ under. false≢true (sym (not-true (below pair low) past) ∙ below_le pair high low under from)))
is_past-from (Before pair) high low from past = ⊎_elim
    (λ one. same_below high low pair (same_back low high one) past)
    (λ other. below-trans high low pair (above low high from other) past)
    (cases_Bool (same low high))

-- what begins at a bound that is above the target, or above it, begins above the target
above_from : (target : Target) (high low : Option Pair) → EndsBefore high low → is_past high target ≡ false → IsAboveTarget target low
above_from target None low before within = absurd before
above_from target (Some high) None before within = absurd before
above_from target (Some high) (Some low) before within = false_from_ne_true (is_past (Some low) target) (λ past. false≢true (sym within ∙ is_past-from target high low before past))

-- a leaf that begins where another ends, or later, ends above a pair at which the other does not end before
ends_above_from : (high low up : Option Pair) (bound : Pair) → EndsBefore high low → is_past high (Before bound) ≡ false → Rises low up → EndsAbove bound up
ends_above_from None low up bound before within rises = absurd before
ends_above_from (Some high) None up bound before within rises = absurd before
ends_above_from (Some high) (Some low) None bound before within rises = tt
ends_above_from (Some high) (Some low) (Some up) bound before within rises = at_or_below bound high up within (at_or_below high low up before rises)

-- all leaves behind a leaf have nothing for the search
abbrev pub IsClearBehind : World → Tree → ℕ → Bool → Target → NodeValue → Type 0
IsClearBehind w t op or_at target node = (x : ℕ) (u : NodeValue) → IsLeaf w t x u → EndsBefore node.high u.low → IsClearLeft w op or_at target x u

pub clear_behind_first : (w : World) (t : Tree) (op : ℕ) (or_at : Bool) (target : Target) (node : NodeValue) → is_past node.high target ≡ false → IsClearBehind w t op or_at target node
clear_behind_first w t op or_at target node within x u leaf before = inl (above_from target node.high u.low before within)

pub clear_behind_next : (w : World) (t : Tree) (op : ℕ) (or_at : Bool) (target : Target) (low : Pair) (node : NodeValue) → Roles w t → HasPassedLeft w t op or_at target low → is_past node.high (Before low) ≡ false → IsClearBehind w t op or_at target node
clear_behind_next w t op or_at target low node roles passed within x u leaf before = passed x u leaf (ends_above_from node.high u.low u.high low before within (roles x u leaf.is leaf.of leaf.linked).rises)

-- a leaf that the search has, with nothing for it, is passed too
pub passed_next : (w : World) (at : Root) (t : Tree) (leaves : List ℕ) (op : ℕ) (or_at : Bool) (target : Target) (page : ℕ) (node : NodeValue) (low : Pair) → IsTree w at t leaves → IsLeaf w t page node → has_latch op page w ≡ true → NoneAhead or_at target (pairs_in node) → IsClearBehind w t op or_at target node → node.low ≡ Some low → HasPassedLeft w t op or_at target low
passed_next w at t leaves op or_at target page node low tree here latched clear behind begins x u leaf ends =
    ⊎_elim
    (λ one.
    let also : u ≡ node = one_node w page node u here.is (sym (ap (page_at w) one) ∙ leaf.is) in
    inr (subst (λ p. has_latch op p w ≡ true) (sym one) latched, subst (λ (n : NodeValue). NoneAhead or_at target (pairs_in n)) (sym also) clear))
    (λ apart. ⊎_elim
    (λ before. absurd (not_both_ends u.high low (subst (EndsBefore u.high) begins before) ends))
    (λ after. behind x u leaf after)
    apart)
    (one_or_apart w t (link_to None t.first) leaves tree.roles tree.linked x page u node (tree.all x u leaf.is leaf.of leaf.leaf leaf.linked) (tree.all page node here.is here.of here.leaf here.linked) leaf.is here.is)

-- a leaf leads nowhere but to the right, and there where the target is past its bound
pub past_of_right : (node : NodeValue) (target : Target) (q : ℕ) → node.leaf ≡ true → next_place node target ≡ place.Right q → is_past node.high target ≡ true
past_of_right node target q leaf on = ⊎_elim (λ past. past)
    (λ within. ⊎_elim
    (λ at_pair. absurd (let no : place.Right q ≡ place.Here (prefix_len (is_ahead false target) (pairs_in node)) = sym on ∙ next_leaf node target within leaf ∙ at_pair in cc))
    (λ at_end. absurd (let no : place.Right q ≡ place.End = sym on ∙ next_leaf node target within leaf ∙ at_end in cc))
    (here_or_end (pairs_in node) (prefix_len (is_ahead false target) (pairs_in node))))
    (cases_Bool (is_past node.high target))

-- a target that leads not to the right is within the high bound
pub within_of : (node : NodeValue) (target : Target) → ((q : ℕ) → next_place node target ≡ place.Right q → ⊥) → is_past node.high target ≡ false
within_of node target no_right = false_from_ne_true (is_past node.high target) (λ past. no_right node.right (next_past node target past))

-- a node that the search has seen, which is a leaf
pub leaf_of_seen : (w : World) (t : Tree) (target : Target) (page : ℕ) (node : NodeValue) → IsSeen w t target page node → node.leaf ≡ true → IsLeaf w t page node
leaf_of_seen w t target page node seen leaf = record { is = seen.is; of = seen.of; leaf = leaf; linked = seen.linked }

-- the leaf of the target, as the search sees it
pub first_seen : (walk : Walk) (page : ℕ) (node : NodeValue) (w : World) → page_at w page ≡ Holds node → (here : Stands walk (stage.SharedLeft page) w) → IsSeen w here.tree walk.target page node × (node.leaf ≡ true)
first_seen walk page node w is here = seen_leaf w walk.at here.tree here.leaves walk.target page node here.is here.place.1 is

-- a leaf further to the left, as the search sees it
pub next_seen : (walk : Walk) (low : Pair) (or_at : Bool) (page : ℕ) (node : NodeValue) (w : World) → page_at w page ≡ Holds node → (here : Stands walk (stage.Left low or_at (way.Shared page)) w) → IsSeen w here.tree (Before low) page node × (node.leaf ≡ true)
next_seen walk low or_at page node w is here = seen_leaf w walk.at here.tree here.leaves (Before low) page node here.is here.place.2.0 is

-- the leaf of the target is shared
pub left_share_first : (walk : Walk) (page : ℕ) (w now : World) → Stands walk (stage.Leaf page) w → find (bars page walk.op false) w.holds ≡ None → now ≡ with_holds (with_share page walk.op w.holds) w → Stepped walk (stage.SharedLeft page) w now
left_share_first walk page w now stands free is = subst (Stepped walk (stage.SharedLeft page) w) (sym is)
    (stepped_by walk (stage.Leaf page) (stage.SharedLeft page) w (with_holds (with_share page walk.op w.holds) w) stands (λ here. share_step walk page w free here.apart)
    (λ here.
    let near = here.place.1 in
    (here.place.0, (near.0, (share_step walk page w free here.apart).at here.tree true near.0 page near.1, near.2), has_latch-with_share_new page walk.op w)))

share_passed_left : (w : World) (t : Tree) (op page : ℕ) (or_at : Bool) (target : Target) (low : Pair) → HasPassedLeft w t op or_at target low → HasPassedLeft (with_holds (with_share page op w.holds) w) t op or_at target low
share_passed_left w t op page or_at target low passed x u leaf ends =
    ⊎_elim (λ begins. inl begins) (λ (latched, clear). inr (latch_kept op page x w latched, clear)) (passed x u (record { is = leaf.is; of = leaf.of; leaf = leaf.leaf; linked = leaf.linked }) ends)

-- the next leaf is shared too
pub left_share_next : (walk : Walk) (low : Pair) (or_at : Bool) (page : ℕ) (w now : World) → Stands walk (stage.Left low or_at (way.Leaf page)) w → find (bars page walk.op false) w.holds ≡ None → now ≡ with_holds (with_share page walk.op w.holds) w → Stepped walk (stage.Left low or_at (way.Shared page)) w now
left_share_next walk low or_at page w now stands free is = subst (Stepped walk (stage.Left low or_at (way.Shared page)) w) (sym is)
    (stepped_by walk (stage.Left low or_at (way.Leaf page)) (stage.Left low or_at (way.Shared page)) w (with_holds (with_share page walk.op w.holds) w) stands (λ here. share_step walk page w free here.apart)
    (λ here.
    let near = here.place.2 in
    (here.place.0, share_passed_left w here.tree walk.op page or_at walk.target low here.place.1, ((near.0, (share_step walk page w free here.apart).at here.tree true near.0 page near.1, near.2), has_latch-with_share_new page walk.op w))))

-- the target's leaf was cut before it was shared: it is given back, and the walk goes on
pub left_first_past : (walk : Walk) (page : ℕ) (node : NodeValue) (q : ℕ) (w mid now : World) → Stands walk (stage.SharedLeft page) w → page_at w page ≡ Holds node → mid ≡ w → now ≡ all_freed walk.op mid → place.Right q ≡ next_place node walk.target → Stepped walk (stage.Down q) w now
left_first_past walk page node q w mid now stands is same gives on = subst (Stepped walk (stage.Down q) w) (sym (gives ∙ ap (all_freed walk.op) same))
    (stepped_by walk (stage.SharedLeft page) (stage.Down q) w (all_freed walk.op w) stands (λ here. IsStep-latches walk.op w (all_freed walk.op w) here.apart (ChangesLatches-free_all walk.op w))
    (λ here.
    let near = near_right w here.tree walk.target page node q (first_seen walk page node w is here).0 (sym on) in
    let step = IsStep-latches walk.op w (all_freed walk.op w) here.apart (ChangesLatches-free_all walk.op w) in
    (here.place.0, (near.0, near.1, step.at here.tree near.0 near.1 q near.2, near.3), all_none walk.op w)))

-- the target's leaf has nothing: the search goes on to the left, and keeps it
pub left_first_on : (walk : Walk) (or_at : Bool) (page : ℕ) (node : NodeValue) (low : Pair) (w now : World) → Stands walk (stage.SharedLeft page) w → page_at w page ≡ Holds node → now ≡ w → ((q : ℕ) → next_place node walk.target ≡ place.Right q → ⊥) → prefix_len (is_ahead or_at walk.target) (pairs_in node) ≡ 0 → node.low ≡ Some low → Stepped walk (stage.Left low or_at way.Start) w now
left_first_on walk or_at page node low w now stands is same no_right none begins = stepped_same walk (stage.Left low or_at way.Start) w now same (
    let here = stands in
    let seen = first_seen walk page node w is here in
    let within = within_of node walk.target no_right in
    let clear = none_from_place or_at walk.target (pairs_in node) seen.0.role.node_is.order none in
    at_stage walk (stage.SharedLeft page) (stage.Left low or_at way.Start) w here (here.place.0, passed_next w walk.at here.tree here.leaves walk.op or_at walk.target page node low here.is (leaf_of_seen w here.tree walk.target page node seen.0 seen.1) here.place.2 clear (clear_behind_first w here.tree walk.op or_at walk.target node within) begins, tt))

-- a leaf further to the left was cut before it was shared: it alone is given back
freed_passed : (w : World) (t : Tree) (op page : ℕ) (node : NodeValue) (or_at : Bool) (target : Target) (low : Pair) → page_at w page ≡ Holds node → is_past node.high (Before low) ≡ true → HasPassedLeft w t op or_at target low → HasPassedLeft (freed page op w) t op or_at target low
freed_passed w t op page node or_at target low is past passed x u leaf ends =
    ⊎_elim (λ begins. inl begins) (λ (latched, clear). inr (kept latched, clear)) (passed x u (record { is = leaf.is; of = leaf.of; leaf = leaf.leaf; linked = leaf.linked }) ends)
  where
    below_it : (high : Option Pair) → is_past high (Before low) ≡ true → EndsAbove low high → ⊥
    below_it None past above = false≢true past
    below_it (Some high) past above = false≢true (sym (not_above high low past) ∙ above)

    differ : x ≡ page → ⊥
    differ one =
        let also : u ≡ node = one_node w page node u is (sym (ap (page_at w) one) ∙ leaf.is) in
        below_it node.high past (subst (λ (n : NodeValue). EndsAbove low n.high) also ends)

    kept : has_latch op x w ≡ true → has_latch op x (freed page op w) ≡ true
    kept latched = list_any-filter (is_of x op) (λ hold. not (is_of page op hold)) w.holds
        (λ hold of. ap not (false_from_ne_true (is_of page op hold) (λ there. differ (sym (is_of_parts x op hold of).0 ∙ (is_of_parts page op hold there).0)))) ∙ latched

pub left_next_past : (walk : Walk) (low : Pair) (or_at : Bool) (page : ℕ) (node : NodeValue) (q : ℕ) (w mid now : World) → Stands walk (stage.Left low or_at (way.Shared page)) w → page_at w page ≡ Holds node → mid ≡ w → now ≡ freed page walk.op mid → place.Right q ≡ next_place node (Before low) → Stepped walk (stage.Left low or_at (way.Down q)) w now
left_next_past walk low or_at page node q w mid now stands is same gives on = subst (Stepped walk (stage.Left low or_at (way.Down q)) w) (sym (gives ∙ ap (freed page walk.op) same))
    (stepped_by walk (stage.Left low or_at (way.Shared page)) (stage.Left low or_at (way.Down q)) w (freed page walk.op w) stands (λ here. free_step page walk.op w here.apart)
    (λ here.
    let seen = next_seen walk low or_at page node w is here in
    let near = near_right w here.tree (Before low) page node q seen.0 (sym on) in
    let past = past_of_right node (Before low) q seen.1 (sym on) in
    (here.place.0, freed_passed w here.tree walk.op page node or_at walk.target low is past here.place.1, (near.0, near.1, (free_step page walk.op w here.apart).at here.tree near.0 near.1 q near.2, near.3))))

-- it has nothing: the search goes on to the left, and keeps it too
pub left_next_on : (walk : Walk) (low : Pair) (or_at : Bool) (page : ℕ) (node : NodeValue) (next : Pair) (w now : World) → Stands walk (stage.Left low or_at (way.Shared page)) w → page_at w page ≡ Holds node → now ≡ w → ((q : ℕ) → next_place node (Before low) ≡ place.Right q → ⊥) → prefix_len (is_ahead or_at walk.target) (pairs_in node) ≡ 0 → node.low ≡ Some next → Stepped walk (stage.Left next or_at way.Start) w now
left_next_on walk low or_at page node next w now stands is same no_right none begins = stepped_same walk (stage.Left next or_at way.Start) w now same (
    let here = stands in
    let seen = next_seen walk low or_at page node w is here in
    let within = within_of node (Before low) no_right in
    let clear = none_from_place or_at walk.target (pairs_in node) seen.0.role.node_is.order none in
    at_stage walk (stage.Left low or_at (way.Shared page)) (stage.Left next or_at way.Start) w here (here.place.0, passed_next w walk.at here.tree here.leaves walk.op or_at walk.target page node next here.is (leaf_of_seen w here.tree (Before low) page node seen.0 seen.1) here.place.2.1 clear (clear_behind_next w here.tree walk.op or_at walk.target low node here.is.roles here.place.1 within) begins, tt))

-- the way from the root
pub left_rooted : (walk : Walk) (low : Pair) (or_at : Bool) (row : IndexRow) (page : ℕ) (w now : World) → Stands walk (stage.Left low or_at way.Start) w → now ≡ w → row_in walk.at.index (page_at w walk.at.page) ≡ Some row → page ≡ row.root → Stepped walk (stage.Left low or_at (way.Down page)) w now
left_rooted walk low or_at row page w now stands same told is = stepped_same walk (stage.Left low or_at (way.Down page)) w now same (
    let here = stands in
    let tree = here.is in
    let both : Some row ≡ Some tree.row = sym told ∙ ap (row_in walk.at.index) tree.defined ∙ tree.named in
    let one : row ≡ tree.row = cc in
    let root : page ≡ tree.row.root = is ∙ ap (λ (r : IndexRow). r.root) one in
    at_stage walk (stage.Left low or_at way.Start) (stage.Left low or_at (way.Down page)) w here (here.place.0, here.place.1, subst (IsNear w here.tree (Before low)) (sym root) (tree.root.0, None, tree.root.1, tt)))

-- a page on the way, as the search sees it
down_seen : (walk : Walk) (low : Pair) (or_at : Bool) (page : ℕ) (node : NodeValue) (w : World) → page_at w page ≡ Holds node → (here : Stands walk (stage.Left low or_at (way.Down page)) w) → IsSeen w here.tree (Before low) page node
down_seen walk low or_at page node w is here = seen_near w walk.at here.tree here.leaves (Before low) page node here.is here.place.2 is

pub left_down_right : (walk : Walk) (low : Pair) (or_at : Bool) (page : ℕ) (node : NodeValue) (q : ℕ) (w now : World) → Stands walk (stage.Left low or_at (way.Down page)) w → page_at w page ≡ Holds node → now ≡ w → place.Right q ≡ next_place node (Before low) → Stepped walk (stage.Left low or_at (way.Down q)) w now
left_down_right walk low or_at page node q w now stands is same on = stepped_same walk (stage.Left low or_at (way.Down q)) w now same (
    let here = stands in
    at_stage walk (stage.Left low or_at (way.Down page)) (stage.Left low or_at (way.Down q)) w here (here.place.0, here.place.1, near_right w here.tree (Before low) page node q (down_seen walk low or_at page node w is here) (sym on)))

pub left_down_down : (walk : Walk) (low : Pair) (or_at : Bool) (page : ℕ) (node : NodeValue) (q : ℕ) (w now : World) → Stands walk (stage.Left low or_at (way.Down page)) w → page_at w page ≡ Holds node → now ≡ w → place.Down q ≡ next_place node (Before low) → Stepped walk (stage.Left low or_at (way.Down q)) w now
left_down_down walk low or_at page node q w now stands is same on = stepped_same walk (stage.Left low or_at (way.Down q)) w now same (
    let here = stands in
    at_stage walk (stage.Left low or_at (way.Down page)) (stage.Left low or_at (way.Down q)) w here (here.place.0, here.place.1, (near_down w here.tree (Before low) page node q (down_seen walk low or_at page node w is here) (sym on)).0))

left_last : (walk : Walk) (low : Pair) (or_at : Bool) (page : ℕ) (node : NodeValue) (found : Place) (w : World) → page_at w page ≡ Holds node → found ≡ next_place node (Before low) → ((q : ℕ) → found ≡ place.Right q → ⊥) → ((q : ℕ) → found ≡ place.Down q → ⊥) → (here : Stands walk (stage.Left low or_at (way.Down page)) w) → IsLast node (Before low)
left_last walk low or_at page node found w is on not_right not_down here = last_here w here.tree (Before low) page node found (down_seen walk low or_at page node w is here) (sym on) not_right not_down

left_at_leaf : (walk : Walk) (low : Pair) (or_at : Bool) (page : ℕ) (node : NodeValue) (w : World) → page_at w page ≡ Holds node → node.leaf ≡ true → (here : Stands walk (stage.Left low or_at (way.Down page)) w) → Stands walk (stage.Left low or_at (way.Leaf page)) w
left_at_leaf walk low or_at page node w is leaf here =
    let seen = down_seen walk low or_at page node w is here in
    at_stage walk (stage.Left low or_at (way.Down page)) (stage.Left low or_at (way.Leaf page)) w here (here.place.0, here.place.1, (node.low, record { node = node; is = is; of = seen.of; key_len = seen.role.key_len; kind = leaf; from = refl; linked = seen.linked }, seen.low))

pub left_down_here : (walk : Walk) (low : Pair) (or_at : Bool) (page : ℕ) (node : NodeValue) (k : ℕ) (w now : World) → Stands walk (stage.Left low or_at (way.Down page)) w → page_at w page ≡ Holds node → now ≡ w → place.Here k ≡ next_place node (Before low) → Stepped walk (stage.Left low or_at (way.Leaf page)) w now
left_down_here walk low or_at page node k w now stands is same on = stepped_same walk (stage.Left low or_at (way.Leaf page)) w now same (
    let here = stands in
    left_at_leaf walk low or_at page node w is (left_last walk low or_at page node (place.Here k) w is on (λ q one. absurd (cc)) (λ q one. absurd (cc)) here).leaf here)

pub left_down_end : (walk : Walk) (low : Pair) (or_at : Bool) (page : ℕ) (node : NodeValue) (w now : World) → Stands walk (stage.Left low or_at (way.Down page)) w → page_at w page ≡ Holds node → now ≡ w → node.leaf ≡ true → Stepped walk (stage.Left low or_at (way.Leaf page)) w now
left_down_end walk low or_at page node w now stands is same leaf = stepped_same walk (stage.Left low or_at (way.Leaf page)) w now same (left_at_leaf walk low or_at page node w is leaf stands)

pub left_down_bad : (walk : Walk) (low : Pair) (or_at : Bool) (page : ℕ) (node : NodeValue) (w now : World) → Stands walk (stage.Left low or_at (way.Down page)) w → page_at w page ≡ Holds node → now ≡ w → place.End ≡ next_place node (Before low) → node.leaf ≡ false → ⊥
left_down_bad walk low or_at page node w now stands is same on inner = (
    let last = left_last walk low or_at page node place.End w is on (λ q one. absurd (cc)) (λ q one. absurd (cc)) stands in
    true≢false (sym last.leaf ∙ inner))
